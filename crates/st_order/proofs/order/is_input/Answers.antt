use Rattle.st_order.proofs.EndingParts.{closed_input}
use Rattle.st_order.proofs.order.is_input.Goals as goal

pub returns : goal.returns
returns c =
    closed_input c.args.exp.now c.push_vars.new.names c.new-names.result c.is_empty.result c.is_pattern.result c.is_pattern.ensures c.if-is_pattern.false c.is_empty.ensures c.in_ok-push_vars.ensures c.new-names.ensures
