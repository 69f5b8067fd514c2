use Rattle.std.proofs.Common.{arith}
use Rattle.st_any_table.proofs.RanksLemmas.{IsPass-start, IsPass-next, IsPass-closed}
use Rattle.st_any_table.proofs.ranks.pass.Goals as goal

pub nodes-init : goal.nodes-init
nodes-init c = IsPass-start c.args.graph.now c.args.ranks.now c.args.before c.requires

pub rank_one-count-requires-clause-so_far : goal.rank_one-count-requires-clause-so_far
rank_one-count-requires-clause-so_far c = c.nodes.invariant.so_far

pub rank_one-count-requires-clause-within : goal.rank_one-count-requires-clause-within
rank_one-count-requires-clause-within c = let h = c.nodes-test.true in let w = c.nodes.invariant.within in omega (arith, h, w)

pub nodes-preserved : goal.nodes-preserved
nodes-preserved c = let h = c.nodes-test.true in
    IsPass-next c.args.graph.now c.args.before c.nodes.ranks c.rank_one-count.new.ranks c.nodes.count c.rank_one-count.result c.nodes.at _ c.nodes.invariant (omega (arith, h)) c.rank_one-count.ensures.so_far c.rank_one-count.ensures.ranked

pub returns-clause-so_far : goal.returns-clause-so_far
returns-clause-so_far c = c.nodes.invariant.so_far

pub returns-clause-more : goal.returns-clause-more
returns-clause-more c = c.nodes.invariant.more

pub returns-clause-closed : goal.returns-clause-closed
returns-clause-closed c = let h = c.nodes-test.false in IsPass-closed c.args.graph.now c.args.before c.nodes.ranks c.nodes.count c.nodes.at c.nodes.invariant (omega (arith, h))
