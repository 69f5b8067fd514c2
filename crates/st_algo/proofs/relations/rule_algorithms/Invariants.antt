use Rattle.std.proofs.Common.{◌≡◌, ◌++◌, drop}
use Rattle.std.specs.List.{enumerate_from}
use Rattle.st_order.specs.Known.{all_now}
use Rattle.st_algo.specs.Lowered.{rule_algorithms}
use Rattle.st_algo.proofs.relations.rule_algorithms.Given as goal

abbrev pub invariant-loop-i : goal.invariant-loop-i
invariant-loop-i l =
    l.row ++ rule_algorithms l.directions.il.now l.orders (enumerate_from l.i (all_now (drop l.i l.rules))) ≡ rule_algorithms l.directions.il.now l.orders (enumerate_from 0 (all_now l.rules))
