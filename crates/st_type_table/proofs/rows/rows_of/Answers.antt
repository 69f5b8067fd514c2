use Rattle.std.proofs.Common.{◌∙◌, subst}
use Rattle.st_type_table.specs.inner.Search.{IsReversed}
use Rattle.st_type_table.proofs.RowsLemmas.{AreRows-reversed}
use Rattle.st_type_table.proofs.rows.rows_of.Goals as goal

pub returns : goal.returns
returns c = AreRows-reversed c.args.ranks.now c.in_ok-rows.rows
    (subst (λ g. IsReversed g c.in_ok-rows.rows) (c.as_slice.ensures ∙ c.in_ok-graph.ensures) c.in_ok-rows.ensures)
