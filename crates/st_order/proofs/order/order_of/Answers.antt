use Rattle.std.proofs.Common.{◌∙◌, ap}
use Rattle.st_semantics.specs.OrderOf.{order_of}
use Rattle.st_order.proofs.order.order_of.Goals as goal

pub returns : goal.returns
returns c = c.in_ok-order.ensures ∙ ap (λ z. order_of z c.args.rule.now) c.in_ok-directions.ensures.1
