use Rattle.std.proofs.Common.{◌↔◌, ◌<◌, sym, subst, ℕ, List, length}
use Rattle.st_graph.specs.Graph.{Stands}
use Rattle.st_deps.proofs.ListingLemmas.{listing-begins}
use Rattle.st_deps.proofs.listing.begin.Goals as goal

pub settle_all-requires-clause-listing : goal.settle_all-requires-clause-listing
settle_all-requires-clause-listing c =
    listing-begins c.args.rows.now c.new.result.items c.in_ok-vec.field-0.items c.in_ok-vec-2.field-0.items c.in_ok-empty_rows.field-0.items c.new-2.result.keys c.deref.result.now c.new.ensures.items
    (c.in_ok-vec.ensures.items_if_clones_equal (λ y h. cc)) (c.in_ok-vec-2.ensures.items_if_clones_equal (λ y h. cc)) c.in_ok-empty_rows.ensures c.new-2.ensures.empty
    (subst (λ (z : List ℕ). (a : ℕ) → Stands z a ↔ (a < length c.args.rows.now)) (sym c.deref.ensures.value) c.in_ok-groups.ensures)
