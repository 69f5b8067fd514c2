use Rattle.std.proofs.Common.{drop}
use Rattle.st_order.specs.inner.Parts.{exps_in}
use Rattle.st_order.proofs.HoleParts.{at_holes_next, at_holes_end, drop_all}
use Rattle.st_order.proofs.directed.at_holes.Goals as goal

pub loop-i-preserved : goal.loop-i-preserved
loop-i-preserved c =
    at_holes_next c.args.input c.args.mask.now c.args.exps.now c.loop-i.i c.index-exps-i.result _ _ _ c.loop-i-test.true c.index-exps-i.is c.loop-i.invariant c.in_ok-push_at_hole.ensures

pub returns : goal.returns
returns c =
    let beyond = c.loop-i-test.false in
    at_holes_end c.args.input (drop c.loop-i.i c.args.mask.now) c.args.exps.now (drop c.loop-i.i c.args.exps.now) (exps_in c.loop-i.found) _ (drop_all c.args.exps.now c.loop-i.i beyond) c.loop-i.invariant
