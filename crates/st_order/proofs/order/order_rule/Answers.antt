use Rattle.std.proofs.Common.{◌∙◌}
use Rattle.std.specs.Prelude.{Ok, Err}
use Rattle.st_order.proofs.EndingParts.{none_there, has_few, answered, refusal, exact, out_of_memory}
use Rattle.st_order.proofs.order.order_rule.Goals as goal

pub unreachable-requires : goal.unreachable-requires
unreachable-requires c = none_there c.in_ok-found.found _ c.requires c.in_ok-found.ensures c.in_default.is

pub order_of-requires : goal.order_of-requires
order_of-requires c = has_few c.in_ok-found.found _ c.in-Some.found c.requires c.in_ok-found.ensures c.in-Some.is

pub returns-in_err-found-clause-order : goal.returns-in_err-found-clause-order
returns-in_err-found-clause-order c r e = out_of_memory _ _ c.from_residual.ensures.1

pub returns-in_err-found-clause-exact : goal.returns-in_err-found-clause-exact
returns-in_err-found-clause-exact c r e = exact c.args.il.now r _ (out_of_memory _ _ c.from_residual.ensures.1)

pub returns-in_err-order-clause-order : goal.returns-in_err-order-clause-order
returns-in_err-order-clause-order c r e = out_of_memory _ _ c.from_residual-in_err-order.ensures.1

pub returns-in_err-order-clause-exact : goal.returns-in_err-order-clause-exact
returns-in_err-order-clause-exact c r e = exact c.args.il.now r _ (out_of_memory _ _ c.from_residual-in_err-order.ensures.1)

pub returns-in-Ok-clause-order : goal.returns-in-Ok-clause-order
returns-in-Ok-clause-order c r e = answered c.args.il.now c.in_ok-found.found _ c.in-Some.found r c.in_ok-order.order c.in_ok-order.ensures c.in_ok-found.ensures c.in-Some.is e ∙ c.in-Ok.is

pub returns-in-Ok-clause-exact : goal.returns-in-Ok-clause-exact
returns-in-Ok-clause-exact c r e =
    exact c.args.il.now r (Ok c.in-Ok.order) (answered c.args.il.now c.in_ok-found.found _ c.in-Some.found r c.in_ok-order.order c.in_ok-order.ensures c.in_ok-found.ensures c.in-Some.is e ∙ c.in-Ok.is)

pub returns-in-Err-clause-order : goal.returns-in-Err-clause-order
returns-in-Err-clause-order c r e =
    refusal _ c.refused.result c.in-Err.fault c.refused.ensures (answered c.args.il.now c.in_ok-found.found _ c.in-Some.found r c.in_ok-order.order c.in_ok-order.ensures c.in_ok-found.ensures c.in-Some.is e ∙ c.in-Err.is)

pub returns-in-Err-clause-exact : goal.returns-in-Err-clause-exact
returns-in-Err-clause-exact c r e =
    exact c.args.il.now r (Err c.refused.result)
    (refusal _ c.refused.result c.in-Err.fault c.refused.ensures (answered c.args.il.now c.in_ok-found.found _ c.in-Some.found r c.in_ok-order.order c.in_ok-order.ensures c.in_ok-found.ensures c.in-Some.is e ∙ c.in-Err.is))
