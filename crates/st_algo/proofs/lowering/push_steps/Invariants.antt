use Rattle.std.proofs.Common.{◌≡◌, ◌++◌, drop}
use Rattle.st_order.specs.inner.Index.{names_in}
use Rattle.st_order.specs.Known.{all_now}
use Rattle.st_algo.specs.Lowered.{steps_of}
use Rattle.st_algo.proofs.lowering.push_steps.Given as goal

abbrev pub invariant-loop-prem : goal.invariant-loop-prem
invariant-loop-prem l =
    l.steps ++ steps_of l.directions.il.now (names_in l.bound.keys) (all_now (drop l.prem-index l.prems))
    ≡ l.initial.steps ++ steps_of l.directions.il.now (names_in l.initial.bound.keys) (all_now l.prems)
