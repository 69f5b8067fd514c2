use Rattle.std.proofs.Common.{◌≡◌, refl, sym, ap, ◌∙◌, subst, ℕ, Bool, List, length, set, Some, slice_get, arith}
use Rattle.std.proofs.lemmas.Option.{slice_get_read}
use Rattle.st_graph.specs.Graph.{Stands}
use Rattle.st_deps.specs.inner.Listing as lists
use Rattle.st_deps.proofs.ListingLemmas.{settle-waits, settle-ready}
use Rattle.st_deps.proofs.listing.settle.Goals as goal

pub index-requires : goal.index-requires
index-requires c =
    let h = c.requires.within in
    let s = c.requires.listing.1.met_size in
    let o = c.args.listing.now.met.ok.0 in omega (arith, h, s, o)

pub first_open-at-requires : goal.first_open-at-requires
first_open-at-requires c = λ b s.
    let there : slice_get c.args.rows.now c.args.group ≡ Some c.index-rows-group.result =
    slice_get_read c.args.rows.now (length c.args.rows.now) c.args.group c.index-rows-group.result refl c.requires.within c.index-rows-group.is in
    let h = c.requires.rows c.args.group b (c.index-rows-group.result, (there, subst (λ (z : List ℕ). Stands z b) c.as_slice-cited.ensures s)) in
    let z = c.requires.listing.1.listed_size in
    let e : length c.deref.result.now ≡ length c.args.listing.now.is_listed.items = ap length c.deref.ensures.value in omega (arith, h, z, e)

pub index_mut-requires : goal.index_mut-requires
index_mut-requires c =
    let h = c.requires.within in
    let s = c.requires.listing.1.met_size in
    let o = c.args.listing.now.met.ok.0 in omega (arith, h, s, o)

pub index_mut-requires-in-Some : goal.index_mut-requires-in-Some
index_mut-requires-in-Some c =
    let there : slice_get c.args.rows.now c.args.group ≡ Some c.index-rows-group.result =
    slice_get_read c.args.rows.now (length c.args.rows.now) c.args.group c.index-rows-group.result refl c.requires.within c.index-rows-group.is in
    let found = c.in-Some.ensures.lookup in
    let cited : slice_get c.as_slice-cited.result.now c.first_open-at.result ≡ Some c.in-Some.other.now =
    slice_get_read c.as_slice-cited.result.now (length c.as_slice-cited.result.now) c.first_open-at.result c.in-Some.other.now refl found.3.0 found.1 in
    let h = c.requires.rows c.args.group c.in-Some.other.now (c.index-rows-group.result, (there, (c.first_open-at.result, ap (λ (z : List ℕ). slice_get z c.first_open-at.result) (sym c.as_slice-cited.ensures) ∙ cited))) in
    let s = c.requires.listing.1.waiting_size in
    let o = c.args.listing.now.waiting.ok.0 in omega (arith, h, s, o)

pub returns-in_ok-push-in-Some-clause-listing : goal.returns-in_ok-push-in-Some-clause-listing
returns-in_ok-push-in-Some-clause-listing c = λ rest l.
    let w = c.args.listing.now in
    let there : slice_get c.args.rows.now c.args.group ≡ Some c.index-rows-group.result =
    slice_get_read c.args.rows.now (length c.args.rows.now) c.args.group c.index-rows-group.result refl c.requires.within c.index-rows-group.is in
    let found = c.in-Some.ensures.lookup in
    let cited : slice_get c.as_slice-cited.result.now c.first_open-at.result ≡ Some c.in-Some.other.now =
    slice_get_read c.as_slice-cited.result.now (length c.as_slice-cited.result.now) c.first_open-at.result c.in-Some.other.now refl found.3.0 found.1 in
    let h = c.requires.within in
    let m = l.met_size in
    let was : slice_get w.met.items c.args.group ≡ Some c.index.result.now = slice_get_read w.met.items (length w.met.items) c.args.group c.index.result.now refl (omega (arith, h, m)) c.index.ensures in
    let b = c.requires.rows c.args.group c.in-Some.other.now (c.index-rows-group.result, (there, (c.first_open-at.result, ap (λ (z : List ℕ). slice_get z c.first_open-at.result) (sym c.as_slice-cited.ensures) ∙ cited))) in
    let n = l.waiting_size in
    let had : slice_get w.waiting.items c.in-Some.other.now ≡ Some c.index_mut-in-Some.result.now =
    slice_get_read w.waiting.items (length w.waiting.items) c.in-Some.other.now c.index_mut-in-Some.result.now refl (omega (arith, b, n)) c.index_mut-in-Some.ensures.value in
    subst (λ (z : List ℕ). lists.IsListing c.args.rows.now w.order.items w.is_listed.items (set w.met.items c.args.group c.first_open-at.result) (set w.waiting.items c.in-Some.other.now z) w.ready.keys rest)
    (sym c.in_ok-push-in-Some.ensures.ok)
    (settle-waits c.args.rows.now w.order.items w.is_listed.items w.met.items w.waiting.items w.ready.keys c.args.group rest l c.as_slice-cited.result.now (there ∙ ap Some (sym c.as_slice-cited.ensures))
    c.index.result.now c.first_open-at.result was (λ k b low high e. ap (λ (z : List Bool). slice_get z b) (sym c.deref.ensures.value) ∙ c.first_open-at.ensures.met k b low high e)
    c.in-Some.other.now c.index_mut-in-Some.result.now cited (ap (λ (z : List Bool). slice_get z c.in-Some.other.now) (sym c.deref.ensures.value) ∙ c.first_open-at.ensures.is_open c.in-Some.other.now cited) had)

pub returns-in_ok-make_ready-in-None-clause-listing : goal.returns-in_ok-make_ready-in-None-clause-listing
returns-in_ok-make_ready-in-None-clause-listing c = λ rest l.
    let w = c.args.listing.now in
    let there : slice_get c.args.rows.now c.args.group ≡ Some c.index-rows-group.result =
    slice_get_read c.args.rows.now (length c.args.rows.now) c.args.group c.index-rows-group.result refl c.requires.within c.index-rows-group.is in
    let h = c.requires.within in
    let m = l.met_size in
    let was : slice_get w.met.items c.args.group ≡ Some c.index.result.now = slice_get_read w.met.items (length w.met.items) c.args.group c.index.result.now refl (omega (arith, h, m)) c.index.ensures in
    settle-ready c.args.rows.now w.order.items w.is_listed.items w.met.items w.waiting.items w.ready.keys c.args.group rest l c.as_slice-cited.result.now (there ∙ ap Some (sym c.as_slice-cited.ensures))
    c.index.result.now c.first_open-at.result was (λ k b low high e. ap (λ (z : List Bool). slice_get z b) (sym c.deref.ensures.value) ∙ c.first_open-at.ensures.met k b low high e)
    c.make_ready.new.ready.keys c.in-None.ensures.lookup.3 c.in_ok-make_ready-in-None.ensures
