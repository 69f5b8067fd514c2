use Rattle.std.proofs.Common.{◌≡◌, length}
use Rattle.st_scan.specs.Gaps.{gap, between}
use Rattle.st_scan.proofs.gap.skip_gap.Given as goal

-- the rest has the same gap
abbrev pub invariant-between : goal.invariant-between
invariant-between l = gap between l.rest ≡ gap between l.bytes

abbrev pub decreases-between : goal.decreases-between
decreases-between l = length l.rest
