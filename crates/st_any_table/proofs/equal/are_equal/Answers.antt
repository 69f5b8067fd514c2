use Rattle.std.proofs.Common.{◌↔◌, ◌<◌, subst}
use Rattle.std.specs.Prelude.{IsTrue, slice_index}
use Rattle.st_type_table.specs.Same.{Same}
use Rattle.st_type_table.specs.inner.Graph.{AreRanks}
use Rattle.st_any_table.proofs.PairsLemmas.{ranked-answer}
use Rattle.st_any_table.proofs.equal.are_equal.Goals as goal

pub returns : goal.returns
returns c = ranked-answer c.in_ok-graph.graph c.in_ok-ranks.ranks (Same c.args.survey.now.defs c.args.left.now c.args.right.now) c.is_ranked.result
    (subst (λ g. AreRanks g c.in_ok-ranks.ranks) c.as_slice.ensures c.in_ok-ranks.ensures) c.in_ok-graph.ensures
    (subst (λ rs. IsTrue c.is_ranked.result ↔ (0 < slice_index rs 0)) c.as_slice-2.ensures c.is_ranked.ensures)
