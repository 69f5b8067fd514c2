-- What is said of the files of a specification, by what was read of them.
use Rattle.std.proofs.Common.{◌≡◌, ℕ, List, refl, sym, subst}
use Rattle.std.specs.Prelude.{Result, Ok, Err, IfOk}
use Rattle.st_answers.specs.declared.answer.Answer.{Answer}
use Rattle.st_answers.specs.declared.status.Status.TheVariants as status
use Rattle.st_commands.specs.Checking.{Prints, FilesGive, refused, accepted}
use Rattle.st_commands.specs.declared.check.Printed.{Printed}
use Rattle.st_el.specs.declared.definition.Def.{Def}
use Rattle.st_elab_def.specs.declared.elaborated.Elaborated.{Elaborated}
use Rattle.st_num.specs.declared.memory.NoMemory.{NoMemory}
use Rattle.st_order.specs.declared.relation_modes.Modes.{Modes}
use Rattle.st_source.specs.inner.Specifying.{AreSpecified, RefusesFiles}

-- files that are a specification give what is printed of it
pub files_print : (printed : Printed) (names texts : List (List ℕ)) (defs : List Def) (e : Elaborated) (modes : Modes) (result : Result Answer NoMemory) → AreSpecified texts defs e modes
    → IfOk result (λ answer. answer.status ≡ status.Done)
    → IfOk result (λ answer. (x : Elaborated) → x.il ≡ e.il → Prints printed defs x answer.bytes.items)
    → IfOk result (λ answer. FilesGive printed names texts answer.status answer.bytes.items)
files_print printed names texts defs e modes (Err f) are is prints = tt
files_print printed names texts defs e modes (Ok answer) are is prints =
    subst (λ s. FilesGive printed names texts s answer.bytes.items) (sym is) (accepted defs e are.specification (prints e refl))

-- files that are refused give why
pub files_refuse : (printed : Printed) (names texts : List (List ℕ)) (given : Answer) → RefusesFiles names texts given → FilesGive printed names texts given.status given.bytes.items
files_refuse printed names texts given refuses = subst (λ s. FilesGive printed names texts s given.bytes.items) (sym refuses.status) (refused refuses.refused)
