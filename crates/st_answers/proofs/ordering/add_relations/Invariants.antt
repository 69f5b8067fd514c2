use Rattle.std.proofs.Common.{◌≡◌, ◌++◌, take, flat_map}
use Rattle.st_order.specs.Known.{all_now}
use Rattle.st_answers.specs.OrderTexts.{relation_lines}
use Rattle.st_answers.proofs.ordering.add_relations.Given as goal

abbrev pub invariant-loop-number : goal.invariant-loop-number
invariant-loop-number l = l.bytes.items ≡ l.initial.bytes.items ++ flat_map (relation_lines l.directions.il.now) (take l.number (all_now l.declared))
