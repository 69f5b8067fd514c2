use Rattle.std.proofs.Common.{◌+◌, ◌-◌, length, arith}
use Rattle.st_order.specs.inner.Index.{names_in}
use Rattle.st_order.proofs.SameSelection.{begun, continued, stopped, continues_end}
use Rattle.st_order.proofs.selection.select.Goals as goal

pub loop-step-init : goal.loop-step-init
loop-step-init c =
    begun c.args.directions.now.il.now (length c.args.premises.now) (length c.args.premises.now - 0) _ (names_in c.args.names.now) _ (omega arith) c.new-order.ensures c.in_ok-left.ensures c.in_ok-bound.ensures

pub loop-step-preserved : goal.loop-step-preserved
loop-step-preserved c =
    let within = c.loop-step-test.true in
    continued c.args.directions.now.il.now (length c.args.premises.now - c.loop-step._step) (length c.args.premises.now - (c.loop-step._step + 1)) _ _ _ c.in_ok-taken.taken (omega (arith, within))
    c.loop-step.invariant c.in_ok-taken.ensures c.if-not-taken.false

pub returns-then-not-taken : goal.returns-then-not-taken
returns-then-not-taken c =
    let within = c.loop-step-test.true in
    stopped c.args.directions.now.il.now (length c.args.premises.now - c.loop-step._step) (length c.args.premises.now - (c.loop-step._step + 1)) _ _ _ c.in_ok-taken.taken (omega (arith, within))
    c.loop-step.invariant c.in_ok-taken.ensures c.if-not-taken.true

pub returns : goal.returns
returns c =
    let beyond = c.loop-step-test.false in
    continues_end c.args.directions.now.il.now (length c.args.premises.now - c.loop-step._step) _ _ (omega (arith, beyond)) c.loop-step.invariant
