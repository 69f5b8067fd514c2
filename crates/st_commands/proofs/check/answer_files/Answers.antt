use Rattle.std.proofs.Common.{◌≡◌, subst}
use Rattle.std.specs.Prelude.{IfOk}
use Rattle.st_commands.specs.Checking.{Prints}
use Rattle.st_elab_def.specs.declared.elaborated.Elaborated.{Elaborated}
use Rattle.st_source.specs.inner.Specifying.{Specifies}
use Rattle.st_commands.proofs.FilesGive.{files_print, files_refuse}
use Rattle.st_commands.proofs.check.answer_files.Goals as goal

pub returns-in-Accepted : goal.returns-in-Accepted
returns-in-Accepted c =
    files_print c.args.printed c.args.names.now c.args.files.now c.in-Accepted.definitions c.in-Accepted.elaborated c.in-Accepted.modes c.accepted.result
    (subst (Specifies c.args.names.now c.args.files.now) c.in-Accepted.is c.in_ok-specification.ensures) c.accepted.ensures.status
    (subst (λ ds. IfOk c.accepted.result (λ answer. (x : Elaborated) → x.il ≡ c.in-Accepted.elaborated.il → Prints c.args.printed ds x answer.bytes.items)) c.as_slice.ensures c.accepted.ensures.bytes)

pub returns-in-Refused : goal.returns-in-Refused
returns-in-Refused c =
    files_refuse c.args.printed c.args.names.now c.args.files.now c.in-Refused.answer (subst (Specifies c.args.names.now c.args.files.now) c.in-Refused.is c.in_ok-specification.ensures)
