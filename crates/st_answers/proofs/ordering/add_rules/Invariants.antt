use Rattle.std.proofs.Common.{◌≡◌, ◌++◌, take, flat_map}
use Rattle.st_order.specs.Known.{all_now}
use Rattle.st_answers.specs.OrderTexts.{rule_line}
use Rattle.st_answers.proofs.ordering.add_rules.Given as goal

abbrev pub invariant-loop-index : goal.invariant-loop-index
invariant-loop-index l = l.bytes.items ≡ l.initial.bytes.items ++ flat_map (rule_line l.directions.il.now) (take l.index (all_now l.rules))
