use Rattle.st_il.specs.Definitions.{rules_from, rules_in}
use Rattle.st_order.proofs.Following.{following}
use Rattle.st_order.proofs.RuleParts.{rules_head}
use Rattle.st_order.proofs.rules.rules_of.Goals as goal

pub loop-definition-preserved : goal.loop-definition-preserved
loop-definition-preserved c =
    following (λ ds. rules_from c.args.name.now (rules_in ds)) (rules_head c.args.name.now) c.as_slice-defs.result.now c.loop-definition.definition-index c.definition-item.result _ _ _
    c.loop-definition-test.true c.definition-item.is c.loop-definition.invariant c.in_ok-push_rule.ensures
