use Rattle.st_answers.specs.OrderTexts.{rule_line}
use Rattle.st_answers.proofs.OrderLines.{few_at, order_at, one_more_now}
use Rattle.st_answers.proofs.ordering.add_rules.Goals as goal

pub add_rule-requires-clause-few : goal.add_rule-requires-clause-few
add_rule-requires-clause-few c = few_at c.args.rules.now c.loop-index.index c.index-rules-index.result c.requires.few c.loop-index-test.true c.index-rules-index.is

pub add_rule-requires-clause-order : goal.add_rule-requires-clause-order
add_rule-requires-clause-order c =
    order_at c.args.directions.now.il.now c.args.rules.now c.args.orders.now c.loop-index.index c.index-rules-index.result c.index-orders-index.result c.requires.orders c.loop-index-test.true
    c.index-rules-index.is c.index-orders-index.is

pub loop-index-preserved : goal.loop-index-preserved
loop-index-preserved c =
    one_more_now (rule_line c.args.directions.now.il.now) c.args.rules.now c.loop-index.index c.index-rules-index.result c.args.bytes.now.items c.loop-index.bytes.items c.add_rule.new.bytes.items
    c.loop-index-test.true c.index-rules-index.is c.loop-index.invariant c.in_ok-add_rule.ensures
