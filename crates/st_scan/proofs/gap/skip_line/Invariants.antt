use Rattle.std.proofs.Common.{◌≡◌, ◌≤◌, length}
use Rattle.st_scan.specs.Gaps.{gap, line}
use Rattle.st_scan.proofs.gap.skip_line.Given as goal

abbrev pub invariant-line : goal.invariant-line
invariant-line l = record { same : gap line l.bytes ≡ gap line l.rest; shorter : length l.rest ≤ length l.bytes }

abbrev pub decreases-line : goal.decreases-line
decreases-line l = length l.rest
