use Rattle.std.proofs.Common.{rules}
use Rattle.st_search.proofs.OrderedLaws.{less_there, equal_there, greater_there, at_last}
use Rattle.st_search.proofs.ordered.position.Goals as goal

pub returns-in-Less : goal.returns-in-Less
returns-in-Less c = less_there c.args.output.now c.args.found.now c.loop-i.i c.index-found-i.result _ _ c.loop-i-test.true c.index-found-i.is (search rules) (search rules) c.in-Less.ensures.order c.loop-i.invariant

pub returns-in-Equal : goal.returns-in-Equal
returns-in-Equal c = equal_there c.args.output.now c.args.found.now c.loop-i.i c.index-found-i.result _ _ c.loop-i-test.true c.index-found-i.is (search rules) (search rules) c.in-Equal.ensures.order

pub loop-i-preserved : goal.loop-i-preserved
loop-i-preserved c = greater_there c.args.output.now c.args.found.now c.loop-i.i c.index-found-i.result _ _ c.loop-i-test.true c.index-found-i.is (search rules) (search rules) c.in-Greater.ensures.order c.loop-i.invariant

pub returns : goal.returns
returns c = at_last c.args.output.now c.args.found.now (let h = c.loop-i.invariant in search (rules, h))
