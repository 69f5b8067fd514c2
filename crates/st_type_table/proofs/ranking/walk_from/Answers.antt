use Rattle.std.proofs.Common.{subst}
use Rattle.st_type_table.specs.inner.Ranking.{ComesTo}
use Rattle.st_type_table.proofs.RankingLemmas.{come-first}
use Rattle.st_type_table.proofs.ranking.walk_from.Goals as goal

pub walk-init : goal.walk-init
walk-init c = come-first c.args.graph.now c.args.ranks.now c.args.before c.args.seen.now c.args.passed.now c.args.start c.come_to.new.seen c.come_to.new.path.items c.requires.ranking c.requires.within
    (subst (λ p. ComesTo c.args.seen.now p c.args.start c.come_to.new.seen c.come_to.new.path.items) c.new-path.ensures.items c.in_ok-come_to.ensures)
