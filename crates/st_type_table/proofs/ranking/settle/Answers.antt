use Rattle.std.proofs.Common.{◌∙◌}
use Rattle.st_type_table.proofs.RankingLemmas.{walk-start}
use Rattle.st_type_table.proofs.ranking.settle.Goals as goal

pub walk-requires : goal.walk-requires
walk-requires c = walk-start c.args.graph.now c.deref_mut.result.now c.deref_mut-2.result.now c.deref_mut-3.result.now
    (c.deref_mut.ensures.value ∙ c.in_ok-ranks.ensures) (c.deref_mut-2.ensures.value ∙ c.in_ok-seen.ensures) (c.deref_mut-3.ensures.value ∙ c.in_ok-passed.ensures)
