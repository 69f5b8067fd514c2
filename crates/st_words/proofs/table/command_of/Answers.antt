use Rattle.std.proofs.Common.{subst}
use Rattle.std.proofs.lemmas.Result.{MatchResult-from_err}
use Rattle.st_words.specs.Table.{Asks}
use Rattle.st_words.proofs.table.command_of.Goals as goal

pub returns-in_err-take_make-in-Make : goal.returns-in_err-take_make-in-Make
returns-in_err-take_make-in-Make c =
    MatchResult-from_err c.from_residual-in_err-take_make-in-Make.result _ _ c.from_residual-in_err-take_make-in-Make.ensures.0
    (λ fault command asks. let made = subst (λ name. Asks name c.args.given command) c.in-Make.is asks in c.in_err-take_make-in-Make.ensures made.0 made.1)
