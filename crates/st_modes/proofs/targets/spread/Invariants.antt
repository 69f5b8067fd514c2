use Rattle.std.proofs.Common.{◌≡◌, ◌≤◌, ◌+◌, ◌-◌, ◌++◌, ◌∷◌, [], length, take}
use Rattle.st_order.specs.inner.Index.{names_in}
use Rattle.st_modes.specs.inner.Reaching.{HasWalked, cited_under, all_cited, unseen}
use Rattle.st_modes.proofs.targets.spread.Given as goal

abbrev pub invariant-walk : goal.invariant-walk
invariant-walk l = record {
  walked : HasWalked (names_in l.fn.found.keys ++ l.target ∷ []) (cited_under l.citing.entries) l.front (names_in l.found.keys);
  kept : take (length (names_in l.fn.found.keys)) (names_in l.found.keys) ≡ names_in l.fn.found.keys;
  longer : length (names_in l.fn.found.keys) ≤ length (names_in l.found.keys);
}

abbrev pub decreases-walk : goal.decreases-walk
decreases-walk l = unseen (names_in l.found.keys) (all_cited l.citing.entries) + (length (names_in l.found.keys) - l.front)
