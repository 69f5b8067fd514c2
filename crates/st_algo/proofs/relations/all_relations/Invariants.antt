use Rattle.std.proofs.Common.{◌≡◌, ◌++◌, drop}
use Rattle.std.specs.List.{enumerate_from}
use Rattle.st_order.specs.Known.{all_now}
use Rattle.st_algo.specs.Lowered.{all_relations}
use Rattle.st_algo.proofs.relations.all_relations.Given as goal

abbrev pub invariant-loop-i : goal.invariant-loop-i
invariant-loop-i l =
    l.rows ++ all_relations l.directions.il.now l.modes (enumerate_from l.i (all_now (drop l.i l.relations))) ≡ all_relations l.directions.il.now l.modes (enumerate_from 0 (all_now l.relations))
