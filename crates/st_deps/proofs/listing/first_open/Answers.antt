use Rattle.std.proofs.Common.{◌≡◌, ◌⊎◌, ap, sym, ◌∙◌, inl, inr, ℕ, ◌<◌, ◌≤◌, Some, true, length, slice_get, slice_index_or, arith}
use Rattle.std.proofs.lemmas.Option.{slice_get-get_or}
use Rattle.st_graph.proofs.Positions.{below-next, get-within}
use Rattle.st_deps.proofs.ListingLemmas.{cited-listed}
use Rattle.st_deps.proofs.listing.first_open.Goals as goal

pub bounds-is_listed-cited : goal.bounds-is_listed-cited
bounds-is_listed-cited c = c.requires (slice_index_or c.args.cited.now c.loop-at.at 0) (c.loop-at.at, slice_get-get_or c.args.cited.now c.loop-at.at 0 c.loop-at-test.true)

pub returns-then-not-is_listed-cited-clause-is_open : goal.returns-then-not-is_listed-cited-clause-is_open
returns-then-not-is_listed-cited-clause-is_open c = λ b e. cited-listed c.args.cited.now c.args.is_listed.now c.loop-at.at b _ _ e (c.requires b (c.loop-at.at, e)) c.if-not-is_listed-cited.true

pub loop-at-preserved : goal.loop-at-preserved
loop-at-preserved c = λ k b low high e. by k b low e (below-next k c.loop-at.at (omega (arith, high)))
  where
    by : (k b : ℕ) → c.args.from ≤ k → slice_get c.args.cited.now k ≡ Some b → (k < c.loop-at.at) ⊎ (k ≡ c.loop-at.at) → slice_get c.args.is_listed.now b ≡ Some true
    by k b low e (inl less) = c.loop-at.invariant k b low less e
    by k b low e (inr same) =
        let f : slice_get c.args.cited.now c.loop-at.at ≡ Some b = ap (slice_get c.args.cited.now) (sym same) ∙ e in
        cited-listed c.args.cited.now c.args.is_listed.now c.loop-at.at b _ _ f (c.requires b (c.loop-at.at, f)) c.if-not-is_listed-cited.false

pub returns-clause-is_open : goal.returns-clause-is_open
returns-clause-is_open c = λ b e. let n = get-within c.args.cited.now (length c.args.cited.now) b e in absurd (omega (arith, n))
