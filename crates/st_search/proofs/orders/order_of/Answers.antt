use Rattle.std.proofs.Common.{rules, ◌≡◌, [], sym, ◌∙◌}
use Rattle.st_search.proofs.PremiseOrders.{no_premises}
use Rattle.st_search.proofs.orders.order_of.Goals as goal

pub returns-then-is_empty : goal.returns-then-is_empty
returns-then-is_empty c = λ order is_order.
    let none : c.args.rule.now.premises ≡ [] = search rules in
    c.new.ensures ∙ sym (no_premises c.args.search.now.setting.index.now c.args.rule.now order none is_order)
