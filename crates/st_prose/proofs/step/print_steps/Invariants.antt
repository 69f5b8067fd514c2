use Rattle.std.proofs.Common.{◌≡◌, ◌+◌, ◌++◌, drop, flat_map}
use Rattle.std.specs.List.{enumerate_from}
use Rattle.st_prose.specs.ProseText.{step_line}
use Rattle.st_prose.proofs.step.print_steps.Given as goal

abbrev pub invariant-loop-i : goal.invariant-loop-i
invariant-loop-i l =
    l.out.items ++ flat_map (step_line l.index) (enumerate_from (l.i + 1) (drop l.i l.steps))
    ≡ l.initial.out.items ++ flat_map (step_line l.index) (enumerate_from 1 l.steps)
