use Rattle.std.proofs.Common.{refl, ap, ◌∙◌}
use Rattle.st_il.specs.Definitions.{clauses_from, clauses_in}
use Rattle.st_index.specs.inner.Groups.{members}
use Rattle.st_index.proofs.DefinitionParts.{clauses_head}
use Rattle.st_index.proofs.PlaceParts.{following, ended}
use Rattle.st_index.proofs.groups.clauses_by_function.Goals as goal

pub loop-definition-preserved : goal.loop-definition-preserved
loop-definition-preserved c q =
    following (λ ds. clauses_from q (clauses_in ds)) (clauses_head q) c.as_slice-defs.result.now c.loop-definition.definition-index c.definition-item.result (members c.loop-definition.groups.entries q) _ _
    c.loop-definition-test.true c.definition-item.is (c.loop-definition.invariant q) (c.in_ok-add_clause.ensures q)

pub returns : goal.returns
returns c q =
    ended (λ ds. clauses_from q (clauses_in ds)) refl c.as_slice-defs.result.now c.loop-definition.definition-index (members c.loop-definition.groups.entries q) _ c.loop-definition-test.false (c.loop-definition.invariant q)
    ∙ ap (λ ds. clauses_from q (clauses_in ds)) c.as_slice-defs.ensures
