use Rattle.std.proofs.Common.{◌≡◌, ◌++◌, drop, map}
use Rattle.st_order.specs.Known.{all_now}
use Rattle.st_algo.specs.Lowered.{clause_algorithm}
use Rattle.st_algo.proofs.functions.clause_algorithms.Given as goal

abbrev pub invariant-loop-clause : goal.invariant-loop-clause
invariant-loop-clause l =
    l.row ++ map (clause_algorithm l.directions.il.now) (all_now (drop l.clause-index l.clauses)) ≡ map (clause_algorithm l.directions.il.now) (all_now l.clauses)
