use Rattle.std.proofs.Common.{ap, ◌∙◌, [], ◌∷◌, ◌++◌, Some}
use Rattle.st_any_table.proofs.equal.one_waits.Goals as goal

pub returns-clause-node : goal.returns-clause-node
returns-clause-node c = (c.in_ok-number.number, (c.in_ok-number.ensures.number, ap Some (c.in_ok-push.ensures.ok ∙ ap (λ ns. ns ++ c.in_ok-number.number ∷ []) c.new-numbers.ensures)))
