use Rattle.std.proofs.Common.{◌↔◌, drop}
use Rattle.st_match.specs.inner.Fitting.{FitAll}
use Rattle.st_match.proofs.matching.all_fit.Given as goal

-- the patterns have the values where those that are left have theirs
abbrev pub invariant-loop-i : goal.invariant-loop-i
invariant-loop-i l =
    FitAll l.sought.types.now l.sought.patterns.now l.sought.values.now l.env
    ↔ FitAll l.sought.types.now (drop l.i l.sought.patterns.now) (drop l.i l.sought.values.now) l.env
