use Rattle.std.proofs.Common.{◌≡◌, suc, refl, sym, ◌∙◌, subst, ◌<◌, length, set, take, arith}
use Rattle.std.specs.Prelude.{slice_index}
use Rattle.std.proofs.lemmas.List.{length-map}
use Rattle.st_type_table.specs.inner.Graph.{node_of}
use Rattle.st_type_table.specs.inner.Flat.{AllKnownParts, alternatives_in}
use Rattle.st_type_table.proofs.RankLemmas.{Filling, ready, fill-start, fill-then, filled}
use Rattle.st_type_table.proofs.ReachLemmas.{flat-from, ready-parts}
use Rattle.st_type_table.proofs.RowsLemmas.{row-of, row-ranked, rank-within}
use Rattle.st_type_table.proofs.SearchLemmas.{take-number, take-whole}
use Rattle.st_type_table.proofs.flat.fill_rank.Goals as goal

pub bounds-rows-rank : goal.bounds-rows-rank
bounds-rows-rank c =
    let a = c.requires.rows.size in
    let b : length c.args.ranks.now ≡ length c.args.defs.now = c.requires.ranks.size ∙ length-map c.args.defs.now (node_of c.args.defs.now) in
    omega (arith, a, b)

pub loop-position-init : goal.loop-position-init
loop-position-init c = fill-start c.args.defs.now c.args.ranks.now c.args.rank c.args.flats.now.items c.requires.flats

pub nth-requires : goal.nth-requires
nth-requires c =
    let b : length c.args.ranks.now ≡ length c.args.defs.now = c.requires.ranks.size ∙ length-map c.args.defs.now (node_of c.args.defs.now) in
    let h : c.args.rank < length c.args.rows.now = let a = c.requires.rows.size in omega (arith, a, b) in
    let ranked : slice_index c.args.ranks.now (slice_index c.as_slice-row.result.now c.loop-position.position-index) ≡ suc c.args.rank =
    row-ranked c.args.ranks.now c.args.rows.now c.args.rank c.as_slice-row.result.now c.index-rows-rank.result c.requires.rows h c.as_slice-row.ensures c.index-rows-rank.is c.loop-position.position-index c.loop-position-test.true in
    let w = rank-within c.args.ranks.now (slice_index c.as_slice-row.result.now c.loop-position.position-index) c.args.rank ranked in
    omega (arith, w, b)

pub flat_of_body-requires-clause-known : goal.flat_of_body-requires-clause-known
flat_of_body-requires-clause-known c =
    let b : length c.args.ranks.now ≡ length c.args.defs.now = c.requires.ranks.size ∙ length-map c.args.defs.now (node_of c.args.defs.now) in
    let h : c.args.rank < length c.args.rows.now = let a = c.requires.rows.size in omega (arith, a, b) in
    let ranked : slice_index c.args.ranks.now (slice_index c.as_slice-row.result.now c.loop-position.position-index) ≡ suc c.args.rank =
    row-ranked c.args.ranks.now c.args.rows.now c.args.rank c.as_slice-row.result.now c.index-rows-rank.result c.requires.rows h c.as_slice-row.ensures c.index-rows-rank.is c.loop-position.position-index c.loop-position-test.true in
    subst (λ z. AllKnownParts c.args.defs.now z (alternatives_in c.nth.result.now)) (sym c.deref.ensures.value)
    (ready-parts c.args.defs.now c.loop-position.flats.items (alternatives_in c.nth.result.now)
    (ready c.args.defs.now c.args.ranks.now c.requires.ranks c.loop-position.flats.items c.args.rank (slice_index c.as_slice-row.result.now c.loop-position.position-index) c.nth.result.now
    c.loop-position.invariant.lower c.nth.ensures ranked))

pub loop-position-preserved : goal.loop-position-preserved
loop-position-preserved c =
    let b : length c.args.ranks.now ≡ length c.args.defs.now = c.requires.ranks.size ∙ length-map c.args.defs.now (node_of c.args.defs.now) in
    let h : c.args.rank < length c.args.rows.now = let a = c.requires.rows.size in omega (arith, a, b) in
    let ranked : slice_index c.args.ranks.now (slice_index c.as_slice-row.result.now c.loop-position.position-index) ≡ suc c.args.rank =
    row-ranked c.args.ranks.now c.args.rows.now c.args.rank c.as_slice-row.result.now c.index-rows-rank.result c.requires.rows h c.as_slice-row.ensures c.index-rows-rank.is c.loop-position.position-index c.loop-position-test.true in
    let position = slice_index c.as_slice-row.result.now c.loop-position.position-index in
    let known = ready c.args.defs.now c.args.ranks.now c.requires.ranks c.loop-position.flats.items c.args.rank position c.nth.result.now c.loop-position.invariant.lower c.nth.ensures ranked in
    subst (Filling c.args.defs.now c.args.ranks.now c.args.rank (set c.loop-position.flats.items position c.in_ok-flat.flat))
    (sym (take-number c.as_slice-row.result.now c.loop-position.position-index c.loop-position-test.true))
    (fill-then c.args.defs.now c.args.ranks.now c.args.rank c.loop-position.flats.items (set c.loop-position.flats.items position c.in_ok-flat.flat)
    (take c.loop-position.position-index c.as_slice-row.result.now) position c.nth.result.now c.in_ok-flat.flat c.loop-position.invariant c.nth.ensures ranked
    (flat-from c.args.defs.now c.loop-position.flats.items (alternatives_in c.nth.result.now) c.in_ok-flat.flat known c.in_ok-flat.ensures)
    c.in_ok-flat.ensures.reached refl)

pub returns : goal.returns
returns c =
    let b : length c.args.ranks.now ≡ length c.args.defs.now = c.requires.ranks.size ∙ length-map c.args.defs.now (node_of c.args.defs.now) in
    let h : c.args.rank < length c.args.rows.now = let a = c.requires.rows.size in omega (arith, a, b) in
    filled c.args.defs.now c.args.ranks.now c.args.rank c.loop-position.flats.items c.as_slice-row.result.now
    (subst (Filling c.args.defs.now c.args.ranks.now c.args.rank c.loop-position.flats.items) (take-whole c.as_slice-row.result.now c.loop-position.position-index c.loop-position-test.false) c.loop-position.invariant)
    (λ i q. (row-of c.args.ranks.now c.args.rows.now c.args.rank c.as_slice-row.result.now c.index-rows-rank.result c.requires.rows h c.as_slice-row.ensures c.index-rows-rank.is i).1 q)
