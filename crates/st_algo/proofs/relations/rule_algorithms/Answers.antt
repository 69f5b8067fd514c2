use Rattle.std.proofs.Common.{ap, ◌∙◌, ℕ}
use Rattle.std.specs.Option.{option_map}
use Rattle.st_il.specs.declared.definition.RuleDef.{RuleDef}
use Rattle.st_algo.specs.Lowered.{rule_algorithm, order_at}
use Rattle.st_algo.proofs.NumberedRows.{numbered_next}
use Rattle.st_algo.proofs.relations.rule_algorithms.Goals as goal

pub loop-i-preserved : goal.loop-i-preserved
loop-i-preserved c =
    numbered_next (λ (r : ℕ × RuleDef). option_map (rule_algorithm c.args.directions.now.il.now r.1) (order_at c.args.orders.now r.0)) c.args.rules.now c.loop-i.i c.index-rules-i.result c.in_ok-algorithm.algorithm c.loop-i.row _ _
    c.loop-i-test.true c.index-rules-i.is (c.in_ok-algorithm.ensures ∙ ap (option_map (rule_algorithm c.args.directions.now.il.now c.index-rules-i.result.now)) c.order_at-order.ensures) c.loop-i.invariant c.in_ok-push.ensures.ok
