use Rattle.std.proofs.Common.{◌∙◌}
use Rattle.std.proofs.lemmas.Result.{MatchResult-from_err}
use Rattle.st_words.proofs.table.take_run.Goals as goal

pub returns-in_err-goal : goal.returns-in_err-goal
returns-in_err-goal c =
    MatchResult-from_err c.from_residual-in_err-goal.result _ _ c.from_residual-in_err-goal.ensures.0
    (λ fault relation term files fuel depth takes. c.in_err-goal.ensures (record { relation = relation; term = term; files = files }) (c.into_vec.ensures ∙ takes.0, takes.1))
