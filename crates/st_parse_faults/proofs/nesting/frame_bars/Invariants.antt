use Rattle.std.proofs.Common.{◌≡◌, ◌+◌, ◌≤◌, length, reverse}
use Rattle.st_parse_faults.specs.inner.Seen as seen
use Rattle.st_parse_faults.proofs.nesting.frame_bars.Given as goal

abbrev pub invariant-open : goal.invariant-open
invariant-open l = (seen.frame_bars (reverse l.frames) ≡ l.found + seen.frame_bars (reverse l.rest)) × (l.found + length l.rest ≤ length l.frames)

abbrev pub decreases-open : goal.decreases-open
decreases-open l = length l.rest
