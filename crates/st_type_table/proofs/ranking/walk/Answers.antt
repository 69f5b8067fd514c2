use Rattle.std.proofs.Common.{arith}
use Rattle.st_type_table.proofs.GraphLemmas.{Closed-exact}
use Rattle.st_type_table.proofs.RankingLemmas.{walk-closed}
use Rattle.st_type_table.proofs.ranking.walk.Goals as goal

pub returns : goal.returns
returns c =
    let r = c.loop-start.invariant.0 in
    let h = c.loop-start-test.false in
    Closed-exact c.args.graph.now c.loop-start.ranks c.loop-start.count r.so_far
    (walk-closed c.args.graph.now c.loop-start.ranks c.loop-start.count c.loop-start.seen c.loop-start.passed r (λ i l. c.loop-start.invariant.1 i (omega (arith, h, l))))
