use Rattle.std.proofs.Common.{sym, ◌∙◌, ap}
use Rattle.st_semantics.specs.Evaluation.{applied}
use Rattle.st_match.proofs.evaluation.operated.Goals as goal

pub returns-in_ok-outcome-in-Values : goal.returns-in_ok-outcome-in-Values
returns-in_ok-outcome-in-Values c = λ es f h. c.in_ok-outcome-in-Values.ensures es f h ∙ sym (ap (applied f) c.in-Values.is)
