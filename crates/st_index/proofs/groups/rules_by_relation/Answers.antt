use Rattle.std.proofs.Common.{refl, ap, ◌∙◌}
use Rattle.st_il.specs.Definitions.{rules_from, rules_in}
use Rattle.st_index.proofs.DefinitionParts.{rules_head}
use Rattle.st_index.specs.inner.Groups.{members}
use Rattle.st_index.proofs.PlaceParts.{following, ended}
use Rattle.st_index.proofs.groups.rules_by_relation.Goals as goal

pub loop-definition-preserved : goal.loop-definition-preserved
loop-definition-preserved c q =
    following (λ ds. rules_from q (rules_in ds)) (rules_head q) c.as_slice-defs.result.now c.loop-definition.definition-index c.definition-item.result (members c.loop-definition.groups.entries q) _ _
    c.loop-definition-test.true c.definition-item.is (c.loop-definition.invariant q) (c.in_ok-add_rule.ensures q)

pub returns : goal.returns
returns c q =
    ended (λ ds. rules_from q (rules_in ds)) refl c.as_slice-defs.result.now c.loop-definition.definition-index (members c.loop-definition.groups.entries q) _ c.loop-definition-test.false (c.loop-definition.invariant q)
    ∙ ap (λ ds. rules_from q (rules_in ds)) c.as_slice-defs.ensures
