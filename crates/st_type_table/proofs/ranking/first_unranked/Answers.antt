use Rattle.std.proofs.Common.{refl}
use Rattle.st_type_table.proofs.RankingLemmas.{RankedTo-next, RankedTo-all, get-stops, beyond-get}
use Rattle.st_type_table.proofs.ranking.first_unranked.Goals as goal

pub loop-at-preserved : goal.loop-at-preserved
loop-at-preserved c = RankedTo-next c.args.positions.now c.args.ranks.now c.loop-at.at c.loop-at.invariant (c.if-not-is_ranked.ensures.0 refl)

pub returns-then-not-is_ranked-clause-stops : goal.returns-then-not-is_ranked-clause-stops
returns-then-not-is_ranked-clause-stops c = get-stops c.args.positions.now c.args.ranks.now c.loop-at.at (λ h. let f = c.if-not-is_ranked.ensures.1 h in cc)

pub returns-clause-ranked : goal.returns-clause-ranked
returns-clause-ranked c = RankedTo-all c.args.positions.now c.args.ranks.now c.loop-at.at c.loop-at.invariant c.loop-at-test.false

pub returns-clause-stops : goal.returns-clause-stops
returns-clause-stops c = λ j e. absurd (beyond-get c.args.positions.now j e)
