use Rattle.st_order.specs.inner.Index.{names_in}
use Rattle.st_modes.proofs.Running.{open_same, open_next, open_stopped, open_end}
use Rattle.st_modes.proofs.one_open.patterns_have_one_open.Goals as goal

pub loop-premise-init : goal.loop-premise-init
loop-premise-init c il = open_same il c.args.premises.now (names_in c.in_ok-bound.bound.keys) (names_in c.args.names.now) c.in_ok-bound.ensures

pub loop-premise-preserved : goal.loop-premise-preserved
loop-premise-preserved c il =
    open_next il c.args.premises.now c.loop-premise.premise-index c.premise-item.result (names_in c.loop-premise.bound.keys) (names_in c.args.names.now) c.loop-premise-test.true c.premise-item.is
    (names_in c.add_variables.new.bound.keys) c.in_ok-has.has (c.in_ok-has.ensures il) c.if-not-has.false c.in_ok-add_variables.ensures (c.loop-premise.invariant il)

pub returns-then-not-has : goal.returns-then-not-has
returns-then-not-has c il =
    open_stopped il c.args.premises.now c.loop-premise.premise-index c.premise-item.result (names_in c.loop-premise.bound.keys) (names_in c.args.names.now) c.loop-premise-test.true c.premise-item.is
    c.in_ok-has.has (c.in_ok-has.ensures il) c.if-not-has.true (c.loop-premise.invariant il)

pub returns : goal.returns
returns c il =
    open_end il c.args.premises.now c.loop-premise.premise-index (names_in c.loop-premise.bound.keys) (names_in c.args.names.now) c.loop-premise-test.false (c.loop-premise.invariant il)
