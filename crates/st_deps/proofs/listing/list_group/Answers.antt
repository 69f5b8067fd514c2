use Rattle.std.proofs.Common.{◌≡◌, refl, sym, ap, ◌∙◌, subst, ℕ, true, false, List, [], ◌∷◌, ◌++◌, length, set, Some, slice_get, arith}
use Rattle.std.proofs.lemmas.Option.{slice_get_read}
use Rattle.st_graph.proofs.Positions.{get-within}
use Rattle.st_deps.specs.inner.Listing as lists
use Rattle.st_deps.proofs.ListingLemmas.{list-keeps, opens-set}
use Rattle.st_deps.proofs.listing.list_group.Goals as goal

pub index_mut-requires : goal.index_mut-requires
index_mut-requires c =
    let l = c.requires.listing.0 in
    let n = get-within c.args.listing.now.is_listed.items c.args.group false (l.is_open c.args.group (0, refl)) in
    let o = c.args.listing.now.is_listed.ok.0 in omega (arith, n, o)

pub index-requires : goal.index-requires
index-requires c =
    let l = c.requires.listing.0 in
    let n = get-within c.args.listing.now.is_listed.items c.args.group false (l.is_open c.args.group (0, refl)) in
    let s = l.listed_size in
    let z = l.waiting_size in
    let o = c.args.listing.now.waiting.ok.0 in omega (arith, n, s, z, o)

pub settle_all-requires-clause-listing : goal.settle_all-requires-clause-listing
settle_all-requires-clause-listing c =
    let w = c.args.listing.now in
    let l = c.requires.listing.0 in
    let n = get-within w.is_listed.items c.args.group false (l.is_open c.args.group (0, refl)) in
    let s = l.listed_size in
    let z = l.waiting_size in
    let there : slice_get w.waiting.items c.args.group ≡ Some c.index.result.now =
    slice_get_read w.waiting.items (length w.waiting.items) c.args.group c.index.result.now refl (omega (arith, n, s, z)) c.index.ensures in
    subst (λ (order : List ℕ). lists.IsListing c.args.rows.now order (set w.is_listed.items c.args.group true) w.met.items w.waiting.items w.ready.keys c.as_slice.result.now) (sym c.in_ok-push.ensures.items)
    (subst (λ (row : List ℕ). lists.IsListing c.args.rows.now (w.order.items ++ c.args.group ∷ []) (set w.is_listed.items c.args.group true) w.met.items w.waiting.items w.ready.keys row)
    (sym (c.as_slice.ensures ∙ c.in_ok-waiting.ensures))
    (list-keeps c.args.rows.now w.order.items w.is_listed.items w.met.items w.waiting.items w.ready.keys c.args.group l c.requires.listing.1 c.index.result.now there))

pub returns-clause-fewer : goal.returns-clause-fewer
returns-clause-fewer c =
    let l = c.requires.listing.0 in
    let e : lists.opens c.settle_all.new.listing.is_listed.items ≡ lists.opens (set c.args.listing.now.is_listed.items c.args.group true) = ap lists.opens c.in_ok-settle_all.ensures.same in
    let h = opens-set c.args.listing.now.is_listed.items c.args.group (l.is_open c.args.group (0, refl)) in omega (arith, e, h)
