use Rattle.std.proofs.Common.{arith}
use Rattle.st_search.proofs.Patterns.{matched_step, matched_short}
use Rattle.st_search.proofs.holes.patterns_of.Goals as goal

pub returns-then-i-holes : goal.returns-then-i-holes
returns-then-i-holes c = matched_short c.args.exps.now c.args.holes.now c.loop-i.i c.loop-i.patterns c.loop-i.invariant c.loop-i-test.true (omega (arith, c.if-i-holes.true))

pub loop-i-preserved : goal.loop-i-preserved
loop-i-preserved c =
    matched_step c.args.exps.now c.args.holes.now c.loop-i.i c.loop-i.patterns c.loop-i.invariant c.index-exps-i.result c.index-holes-i.result c.in_ok-patterns.patterns c.loop-i-test.true c.index-exps-i.is (omega (arith, c.if-i-holes.false)) c.index-holes-i.is c.in_ok-patterns.ensures
