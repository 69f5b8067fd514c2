use Rattle.std.proofs.Common.{sym, ap, ◌∙◌, subst, ℕ, suc, List, false, slice_get, slice_index_or, drop, drop-cons, add-one, arith}
use Rattle.st_graph.proofs.Positions.{get-within}
use Rattle.st_deps.specs.inner.Listings.{IsListing}
use Rattle.st_deps.proofs.listing.settle_all.Goals as goal

pub settle-requires-clause-within : goal.settle-requires-clause-within
settle-requires-clause-within c =
    let l = c.loop-group.invariant.listing in
    let d = drop-cons c.args.groups.now c.loop-group.group-index 0 c.loop-group-test.true in
    let o = l.pends (slice_index_or c.args.groups.now c.loop-group.group-index 0) (0, ap (λ (z : List ℕ). slice_get z 0) d) in
    let n = get-within c.loop-group.listing.is_listed.items (slice_index_or c.args.groups.now c.loop-group.group-index 0) false o in
    let s = l.listed_size in omega (arith, n, s)

pub loop-group-preserved : goal.loop-group-preserved
loop-group-preserved c =
    let d = drop-cons c.args.groups.now c.loop-group.group-index 0 c.loop-group-test.true in
    record {
      listing =
          subst (λ (k : ℕ). IsListing c.args.rows.now c.settle.new.listing (drop k c.args.groups.now)) (sym (add-one c.loop-group.group-index))
          (c.in_ok-settle.ensures.listing (drop (suc c.loop-group.group-index) c.args.groups.now) (subst (IsListing c.args.rows.now c.loop-group.listing) d c.loop-group.invariant.listing));
      same = c.in_ok-settle.ensures.same ∙ c.loop-group.invariant.same;
    }
