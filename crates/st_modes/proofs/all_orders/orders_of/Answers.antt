use Rattle.std.proofs.Common.{sym, ap, ◌∙◌, [], Some, None}
use Rattle.std.specs.Option.{option_copied}
use Rattle.st_order.specs.Known.{all_now}
use Rattle.st_modes.proofs.AreOrders.{has_orders, rules_are, few_under}
use Rattle.st_modes.proofs.all_orders.orders_of.Goals as goal

pub orders_by-requires-clause-few : goal.orders_by-requires-clause-few
orders_by-requires-clause-few c =
    few_under c.args.indexed.now c.requires c.args.relation.now.name c.as_slice.result.now
    (ap all_now c.as_slice.ensures ∙ rules_are c.args.indexed.now c.requires c.args.relation.now.name (Some c.in-Some.rules.now) (sym c.at.ensures ∙ ap option_copied c.in-Some.is))

pub returns-in_ok-found-in-Some : goal.returns-in_ok-found-in-Some
returns-in_ok-found-in-Some c =
    has_orders c.args.indexed.now.directions.il.now c.args.relation.now c.in_ok-directed.directed (all_now c.as_slice.result.now) c.in_ok-found-in-Some.found c.in_ok-directed.ensures
    (ap all_now c.as_slice.ensures ∙ rules_are c.args.indexed.now c.requires c.args.relation.now.name (Some c.in-Some.rules.now) (sym c.at.ensures ∙ ap option_copied c.in-Some.is))
    c.in_ok-found-in-Some.ensures

pub returns-in_ok-found-in-None : goal.returns-in_ok-found-in-None
returns-in_ok-found-in-None c =
    has_orders c.args.indexed.now.directions.il.now c.args.relation.now c.in_ok-directed.directed [] c.in_ok-found-in-None.found c.in_ok-directed.ensures
    (rules_are c.args.indexed.now c.requires c.args.relation.now.name None (sym c.at.ensures ∙ ap option_copied c.in-None.is)) c.in_ok-found-in-None.ensures
