use Rattle.st_il.specs.Definitions.{relations_in}
use Rattle.st_order.proofs.Following.{following}
use Rattle.st_order.proofs.RuleParts.{relations_head}
use Rattle.st_order.proofs.rules.relations_of.Goals as goal

pub loop-definition-preserved : goal.loop-definition-preserved
loop-definition-preserved c =
    following relations_in relations_head c.as_slice-defs.result.now c.loop-definition.definition-index c.definition-item.result _ _ _ c.loop-definition-test.true c.definition-item.is
    c.loop-definition.invariant c.in_ok-push_relation.ensures
