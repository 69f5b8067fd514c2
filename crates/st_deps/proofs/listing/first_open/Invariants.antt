use Rattle.std.proofs.Common.{◌≡◌, ◌≤◌, ◌<◌, ℕ, true, Some, slice_get}
use Rattle.st_deps.proofs.listing.first_open.Given as goal

abbrev pub invariant-loop-at : goal.invariant-loop-at
invariant-loop-at l =
    (k b : ℕ) → l.from ≤ k → k < l.at → slice_get l.cited k ≡ Some b → slice_get l.is_listed b ≡ Some true
