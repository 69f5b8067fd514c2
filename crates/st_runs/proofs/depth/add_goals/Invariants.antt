use Rattle.std.proofs.Common.{◌≡◌, ◌++◌, drop}
use Rattle.std.specs.List.{flat_map}
use Rattle.st_runs.specs.RunTexts.{goal_line}
use Rattle.st_runs.proofs.depth.add_goals.Given as goal

abbrev pub invariant-loop-goal : goal.invariant-loop-goal
invariant-loop-goal l = l.bytes.items ++ flat_map goal_line (drop l.goal-index l.goals) ≡ l.initial.bytes.items ++ flat_map goal_line l.goals
