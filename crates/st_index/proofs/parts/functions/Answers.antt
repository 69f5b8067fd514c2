use Rattle.st_il.specs.Definitions.{funs_in}
use Rattle.st_index.proofs.PlaceParts.{following}
use Rattle.st_index.proofs.DefinitionParts.{functions_head}
use Rattle.st_index.proofs.parts.functions.Goals as goal

pub loop-definition-preserved : goal.loop-definition-preserved
loop-definition-preserved c =
    following funs_in functions_head c.args.defs.now c.loop-definition.definition-index c.definition-item.result _ _ _ c.loop-definition-test.true c.definition-item.is
    c.loop-definition.invariant c.in_ok-push_function.ensures
