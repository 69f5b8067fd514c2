use Rattle.st_il.specs.Definitions.{relations_in}
use Rattle.st_index.proofs.PlaceParts.{following}
use Rattle.st_index.proofs.DefinitionParts.{relations_head}
use Rattle.st_index.proofs.parts.relations.Goals as goal

pub loop-definition-preserved : goal.loop-definition-preserved
loop-definition-preserved c =
    following relations_in relations_head c.args.defs.now c.loop-definition.definition-index c.definition-item.result _ _ _ c.loop-definition-test.true c.definition-item.is
    c.loop-definition.invariant c.in_ok-push_relation.ensures
