-- The law of erasure: what is elaborated is erased to what it came from.
use Rattle.std.specs.Prelude.{◌≡◌, map}
use Rattle.st_el.specs.Plain.{plain_exp}
use Rattle.st_il.specs.declared.definition.Il.{Il}
use Rattle.st_notation.specs.Fits.{Filling, one, run, missing}
use Rattle.st_erase.specs.declared.erased.Erased.{Erased}
use Rattle.st_erase.specs.declared.erased.ErasedKind.TheVariants.{Absent}
use Rattle.st_erase.specs.Places.{whole, run as run_of}
use Rattle.st_erase.specs.Erasure.{erased, erased_exp}
use Rattle.st_elab_table.specs.declared.decls.Decls.{Decls}
use Rattle.st_elab_table.specs.declared.decls.Scope.{Scope}
use Rattle.st_elab_table.specs.Questions.{Question, check, infer, item, hole, Made, Gives}
use Rattle.st_elab_table.specs.Elaboration.{Answered}
use Rattle.st_elab_law.specs.Agreement.{IsTableOf}

-- What is erased fills a hole as this does, once both are plain: as one expression, as a run
-- of elements, or by nothing.
abbrev pub FillsAs : Filling → Erased → Type 0
FillsAs (one e) x = plain_exp (whole x) ≡ plain_exp e
FillsAs (run es) x = map plain_exp (run_of x) ≡ map plain_exp es
FillsAs missing x = x.kind ≡ Absent

-- What is made is erased to what the question is about, once both are plain.
abbrev pub IsErasedBack : Il → Question → Made → Type 0
IsErasedBack il (check w at p e t) m = plain_exp (erased_exp il m.exp) ≡ plain_exp e
IsErasedBack il (infer w at e) m = plain_exp (erased_exp il m.exp) ≡ plain_exp e
IsErasedBack il (item w t element e) m = plain_exp (erased_exp il m.exp) ≡ plain_exp e
IsErasedBack il (hole w at passed filling t) m = FillsAs filling (erased il.defs m.exp)

-- Where the declared types are those of definitions, what answers a question is erased to what
-- the question is about, whatever is round it.
abbrev pub AnswersErase : Type 0
AnswersErase = (il : Il) (D : Decls) (S : Scope) → IsTableOf il.defs D
    → (q : Question) (m : Made) → Answered D S q (Gives m) → IsErasedBack il q m
