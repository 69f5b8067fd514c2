use Rattle.std.proofs.Common.{◌≡◌, ◌++◌, drop, map}
use Rattle.st_order.specs.Known.{all_now}
use Rattle.st_algo.specs.Lowered.{fun_algorithms}
use Rattle.st_algo.proofs.functions.all_functions.Given as goal

abbrev pub invariant-loop-function : goal.invariant-loop-function
invariant-loop-function l =
    l.rows ++ map (fun_algorithms l.directions.il.now) (all_now (drop l.function-index l.functions)) ≡ map (fun_algorithms l.directions.il.now) (all_now l.functions)
