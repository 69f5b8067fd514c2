use Rattle.std.proofs.Common.{◌+◌, ◌-◌, length}
use Rattle.st_order.specs.inner.Index.{names_in}
use Rattle.st_modes.specs.inner.Reaching.{HasWalked, cited_under, all_cited, unseen}
use Rattle.st_modes.proofs.reaching.reached.Given as goal

abbrev pub invariant-walk : goal.invariant-walk
invariant-walk l = HasWalked (cited_under l.first.entries l.name) (cited_under l.cited.entries) l.front (names_in l.found.keys)

abbrev pub decreases-walk : goal.decreases-walk
decreases-walk l = unseen (names_in l.found.keys) (all_cited l.cited.entries) + (length (names_in l.found.keys) - l.front)
