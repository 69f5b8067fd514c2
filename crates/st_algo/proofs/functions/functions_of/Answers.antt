use Rattle.st_il.specs.Definitions.{funs_in}
use Rattle.st_order.proofs.Following.{following}
use Rattle.st_algo.proofs.GroupParts.{functions_head}
use Rattle.st_algo.proofs.functions.functions_of.Goals as goal

pub loop-definition-preserved : goal.loop-definition-preserved
loop-definition-preserved c =
    following funs_in functions_head c.as_slice-defs.result.now c.loop-definition.definition-index c.definition-item.result _ _ _ c.loop-definition-test.true c.definition-item.is
    c.loop-definition.invariant c.in_ok-push_function.ensures
