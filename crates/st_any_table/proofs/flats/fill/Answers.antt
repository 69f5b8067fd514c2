use Rattle.std.proofs.Common.{arith}
use Rattle.st_any_table.proofs.FlatsLemmas.{IsFillPass-start, IsFillPass-next, IsFillPass-falls, IsFillPass-end}
use Rattle.st_any_table.proofs.flats.fill.Goals as goal

pub loop-at-init : goal.loop-at-init
loop-at-init c = IsFillPass-start c.args.defs.now c.args.flats.now c.args.cases.now c.requires

pub fill_one-requires-clause-flats : goal.fill_one-requires-clause-flats
fill_one-requires-clause-flats c = c.loop-at.invariant.flats_are

pub loop-at-preserved : goal.loop-at-preserved
loop-at-preserved c = IsFillPass-next c.args.defs.now c.args.flats.now c.loop-at.flats c.fill_one.new.flats c.loop-at.cases c.fill_one.new.cases c.loop-at.changed c.in_ok-filled.filled c.either-changed.result c.loop-at.at c.loop-at.invariant
    c.in_ok-filled.ensures.flats c.in_ok-filled.ensures.fills c.either-changed.ensures

pub returns-clause-flats : goal.returns-clause-flats
returns-clause-flats c = c.loop-at.invariant.flats_are

pub returns-clause-falls : goal.returns-clause-falls
returns-clause-falls c = IsFillPass-falls c.args.defs.now c.args.flats.now c.loop-at.flats c.loop-at.cases c.loop-at.changed c.loop-at.at c.loop-at.invariant

pub returns-clause-filled : goal.returns-clause-filled
returns-clause-filled c = let h = c.loop-at-test.false in let l = c.len-at-end.ensures in
    IsFillPass-end c.args.defs.now c.args.flats.now c.loop-at.flats c.loop-at.cases c.loop-at.changed c.loop-at.at c.loop-at.invariant (omega (arith, h, l))
