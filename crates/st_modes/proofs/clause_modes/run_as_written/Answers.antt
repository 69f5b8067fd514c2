use Rattle.std.proofs.Common.{[], ap, not, ◌∙◌}
use Rattle.st_order.specs.inner.Index.{names_in}
use Rattle.st_modes.proofs.Running.{run_same, run_next, run_stopped}
use Rattle.st_modes.proofs.clause_modes.run_as_written.Goals as goal

pub loop-premise-init : goal.loop-premise-init
loop-premise-init c = run_same c.args.directions.now.il.now c.args.premises.now (names_in c.in_ok-bound.bound.keys) (names_in c.args.names.now) c.in_ok-bound.ensures []

pub loop-premise-preserved : goal.loop-premise-preserved
loop-premise-preserved c =
    run_next c.args.directions.now.il.now c.args.premises.now c.loop-premise.premise-index c.premise-item.result (names_in c.loop-premise.bound.keys) (names_in c.args.names.now) c.loop-premise-test.true c.premise-item.is
    (names_in c.add_variables.new.bound.keys) c.in_ok-class.class c.in_ok-class.ensures (c.is_none.ensures ∙ ap not c.if-is_none.false) c.in_ok-add_variables.ensures c.loop-premise.invariant

pub returns-then-is_none : goal.returns-then-is_none
returns-then-is_none c =
    run_stopped c.args.directions.now.il.now c.args.premises.now c.loop-premise.premise-index c.premise-item.result (names_in c.loop-premise.bound.keys) (names_in c.args.names.now) c.loop-premise-test.true c.premise-item.is
    c.in_ok-class.class c.in_ok-class.ensures (c.is_none.ensures ∙ ap not c.if-is_none.true) c.loop-premise.invariant
