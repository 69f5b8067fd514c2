use Rattle.st_iltext.specs.Written.{name_of}
use Rattle.st_ilread.proofs.NameOrder.{follow_step, follow_fails, follow_end, ordered_variables}
use Rattle.st_ilread.proofs.variable.are_in_order.Goals as goal

pub loop-variable-preserved : goal.loop-variable-preserved
loop-variable-preserved c =
    follow_step name_of _ _ _ _ _ _ c.loop-variable.invariant c.loop-variable-test.true c.variable-item.is c.follows.ensures c.if-not-follows.false

pub returns-then-not-follows : goal.returns-then-not-follows
returns-then-not-follows c =
    ordered_variables _ _ _ _ c.in-Some.ensures.cases.0 (follow_fails name_of _ _ _ _ _ _ c.loop-variable.invariant c.loop-variable-test.true c.variable-item.is c.follows.ensures c.if-not-follows.true)

pub returns : goal.returns
returns c =
    ordered_variables _ _ _ _ c.in-Some.ensures.cases.0 (follow_end name_of _ _ _ _ c.loop-variable.invariant c.loop-variable-test.false)
