use Rattle.std.proofs.Common.{◌≡◌, ◌≤◌, ◌+◌, length}
use Rattle.st_order.specs.inner.Arrow.{pieces, leads, started}
use Rattle.st_order.proofs.arrow.sides_of.Given as goal

abbrev pub invariant-parts : goal.invariant-parts
invariant-parts l = record {
  same : leads l.scan (pieces l.rest) ≡ leads started (pieces l.tag);
  depth : l.scan.depth + length l.rest ≤ length l.tag;
  holes : l.scan.holes + length l.rest ≤ length l.tag;
}

abbrev pub decreases-parts : goal.decreases-parts
decreases-parts l = length l.rest
