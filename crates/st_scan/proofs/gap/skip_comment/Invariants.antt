use Rattle.std.proofs.Common.{◌≡◌, ℕ, ◌+◌, ◌≤◌, List, length}
use Rattle.st_scan.specs.Gaps.{gap, comment}
use Rattle.st_scan.proofs.gap.skip_comment.Given as goal

abbrev pub invariant-comment : goal.invariant-comment
invariant-comment l = record {
  same : (start : List ℕ) → gap (comment start 0) l.bytes ≡ gap (comment start l.open) l.rest;
  shorter : l.open + length l.rest ≤ length l.bytes;
}

abbrev pub decreases-comment : goal.decreases-comment
decreases-comment l = length l.rest
