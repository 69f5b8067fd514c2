use Rattle.std.proofs.Common.{◌≡◌, length}
use Rattle.st_scan.specs.Faults.{closes_text}
use Rattle.st_scan.proofs.text.closes_text.Given as goal

-- the rest is closed where the whole is
abbrev pub invariant-line : goal.invariant-line
invariant-line l = closes_text l.rest ≡ closes_text l.bytes

abbrev pub decreases-line : goal.decreases-line
decreases-line l = length l.rest
