use Rattle.std.proofs.Common.{◌≡◌, length, reverse}
use Rattle.std.specs.List.{list_any}
use Rattle.st_parse_faults.specs.inner.Limits.{tally_passes}
use Rattle.st_parse_faults.proofs.tally.some_pass.Given as goal

abbrev pub invariant-open : goal.invariant-open
invariant-open l = list_any tally_passes (reverse l.tallies) ≡ list_any tally_passes (reverse l.rest)

abbrev pub decreases-open : goal.decreases-open
decreases-open l = length l.rest
