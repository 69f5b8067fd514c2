use Rattle.st_il.specs.Definitions.{syntaxes_in}
use Rattle.st_index.proofs.PlaceParts.{following}
use Rattle.st_index.proofs.DefinitionParts.{syntaxes_head}
use Rattle.st_index.proofs.parts.syntaxes.Goals as goal

pub loop-definition-preserved : goal.loop-definition-preserved
loop-definition-preserved c =
    following syntaxes_in syntaxes_head c.args.defs.now c.loop-definition.definition-index c.definition-item.result _ _ _ c.loop-definition-test.true c.definition-item.is
    c.loop-definition.invariant c.in_ok-push_syntax.ensures
