use Rattle.std.proofs.Common.{◌≡◌, ◌||◌, ◌&&◌, ℕ, List, take, bytes_eq}
use Rattle.st_il.specs.Names.{has_name}
use Rattle.st_order.specs.inner.Index.{names_in}
use Rattle.st_modes.specs.inner.Reaching.{cited_under}
use Rattle.st_modes.proofs.cited_by.push_under_all.Given as goal

abbrev pub invariant-loop-key : goal.invariant-loop-key
invariant-loop-key l =
    (p q : List ℕ) → has_name (cited_under l.found.entries q) p ≡ (has_name (cited_under l.initial.found.entries q) p || (has_name (names_in (take l.key-index l.keys)) q && bytes_eq p l.name))
