use Rattle.st_order.proofs.EndingParts.{rule_has_few, has_none}
use Rattle.st_order.proofs.order.has_rule.Goals as goal

pub returns-in_default : goal.returns-in_default
returns-in_default c = has_none c.in_ok-found.found _ c.in_ok-found.ensures c.in_default.is

pub returns : goal.returns
returns c = rule_has_few c.in_ok-found.found _ c.in-Some.found c.len.result c.in_ok-found.ensures c.in-Some.is c.len.ensures
