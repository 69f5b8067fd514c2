use Rattle.std.proofs.Common.{ℕ}
use Rattle.st_il.specs.declared.definition.RelationDef.{RelationDef}
use Rattle.st_algo.specs.Lowered.{relation_algorithms}
use Rattle.st_algo.proofs.NumberedRows.{numbered_next}
use Rattle.st_algo.proofs.relations.all_relations.Goals as goal

pub loop-i-preserved : goal.loop-i-preserved
loop-i-preserved c =
    numbered_next (λ (r : ℕ × RelationDef). relation_algorithms c.args.directions.now.il.now c.args.modes.now r.0 r.1) c.as_slice-relations.result.now c.loop-i.i c.index-relations-i.result c.in_ok-row.row c.loop-i.rows _ _
    c.loop-i-test.true c.index-relations-i.is c.in_ok-row.ensures c.loop-i.invariant c.in_ok-push.ensures.ok
