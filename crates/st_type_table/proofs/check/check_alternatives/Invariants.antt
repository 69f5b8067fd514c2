use Rattle.std.proofs.Common.{◌<◌, ◌≤◌, length, take}
use Rattle.st_type_table.specs.Breach.{on_alternatives, run}
use Rattle.st_type_table.proofs.CheckLemmas.{Rest}
use Rattle.st_type_table.proofs.check.check_alternatives.Given as goal

abbrev pub invariant-loop-at : goal.invariant-loop-at
invariant-loop-at l = Rest l.defs (on_alternatives l.target l.at (take l.at l.parts) (run l.at l.to l.parts)) (on_alternatives l.target l.from (take l.from l.parts) (run l.from l.to l.parts))
    × (l.at < length l.parts → l.at ≤ l.reach)
