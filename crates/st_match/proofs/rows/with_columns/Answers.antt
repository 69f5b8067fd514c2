use Rattle.std.proofs.Common.{[], ◌∷◌}
use Rattle.st_semantics.specs.Iterations.{kind_of, index_of}
use Rattle.st_match.proofs.AreRows.{columns_step}
use Rattle.st_match.proofs.rows.with_columns.Goals as goal

pub loop-name-preserved : goal.loop-name-preserved
loop-name-preserved c =
    columns_step (kind_of c.args.how.now) (index_of c.args.how.now) c.args.names.now c.args.row.now (c.args.env.now ∷ []) c.loop-name.found c.as_slice.result.now c.in_ok-found-2.found
    c.loop-name.name-index c.name-item.result c.loop-name-test.true c.name-item.is c.as_slice.ensures c.loop-name.invariant c.in_ok-found-2.ensures
