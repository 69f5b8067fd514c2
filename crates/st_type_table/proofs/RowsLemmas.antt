-- The rows of ranks are the arrows of a graph, turned round.
use Rattle.std.proofs.Common.{◌≡◌, ◌↔◌, refl, sym, ap, ◌∙◌, subst, ℕ, zero, suc, ◌<◌, List, [], ◌∷◌, map, length, get_or, Some, arith, inl, inr}
use Rattle.std.specs.Prelude.{slice_index}
use Rattle.std.proofs.lemmas.List.{length-map}
use Rattle.std.proofs.lemmas.Option.{slice_get_read}
use Rattle.st_type_table.specs.inner.Graph.{IsOne}
use Rattle.st_type_table.specs.inner.Ranking.{WaitsFor}
use Rattle.st_type_table.specs.inner.Search.{IsReversed}
use Rattle.st_type_table.specs.inner.Rows.{row_number, AreRows}
use Rattle.st_type_table.proofs.IsOneLemmas.{one-at}

waits-row : (ranks : List ℕ) (i r : ℕ) → WaitsFor (map row_number ranks) i r → slice_index ranks i ≡ suc r
waits-row [] i r w = let e = w.1.0 in cc
waits-row (zero ∷ ranks) zero r w =
    let e : Some (Some []) ≡ Some (Some w.0) = w.1.0 in
    let s : [] ≡ w.0 = cc in
    absurd (subst (λ ns. IsOne ns r) (sym s) w.1.1)
waits-row (suc k ∷ ranks) zero r w =
    let e : Some (Some (k ∷ [])) ≡ Some (Some w.0) = w.1.0 in
    let s : k ∷ [] ≡ w.0 = cc in
    by (subst (λ ns. IsOne ns r) (sym s) w.1.1)
  where
    by : IsOne (k ∷ []) r → suc k ≡ suc r
    by (inl q) = ap suc (sym q)
    by (inr q) = absurd q
waits-row (k ∷ ranks) (suc i) r w = waits-row ranks i r w

row-waits : (ranks : List ℕ) (i r : ℕ) → slice_index ranks i ≡ suc r → WaitsFor (map row_number ranks) i r
row-waits [] i r e = absurd (omega (arith, e))
row-waits (zero ∷ ranks) zero r e = absurd (omega (arith, e))
row-waits (suc k ∷ ranks) zero r e = (k ∷ [], (refl, inl (let q : r ≡ k = omega (arith, e) in q)))
row-waits (k ∷ ranks) (suc i) r e = row-waits ranks i r e

pub AreRows-reversed : (ranks : List ℕ) (rows : List (List ℕ)) → IsReversed (map row_number ranks) rows → AreRows ranks rows
AreRows-reversed ranks rows reversed = record {
  size = reversed.size ∙ length-map ranks row_number;
  exact = λ r row e i.
      let k = reversed.rows r row e i in
      (λ m. waits-row ranks i r (k.0 m), λ q. k.1 (row-waits ranks i r q));
}

-- a number that is no position has no rank
pub rank-within : (xs : List ℕ) (k r : ℕ) → slice_index xs k ≡ suc r → k < length xs
rank-within [] k r e = absurd (omega (arith, e))
rank-within (x ∷ xs) zero r e = omega arith
rank-within (x ∷ xs) (suc k) r e = let h = rank-within xs k r e in omega (arith, h)

-- the row of a rank, as it is read
pub row-of : (ranks : List ℕ) (rows : List (List ℕ)) (rank : ℕ) (slice row : List ℕ) → AreRows ranks rows → rank < length rows → slice ≡ row → row ≡ get_or rows rank row
    → (i : ℕ) → IsOne slice i ↔ (slice_index ranks i ≡ suc rank)
row-of ranks rows rank slice row right h s e =
    subst (λ z. (i : ℕ) → IsOne z i ↔ (slice_index ranks i ≡ suc rank)) (sym s) (right.exact rank row (slice_get_read rows (length rows) rank row refl h e))

-- what stands in the row of a rank has it
pub row-ranked : (ranks : List ℕ) (rows : List (List ℕ)) (rank : ℕ) (slice row : List ℕ) → AreRows ranks rows → rank < length rows → slice ≡ row → row ≡ get_or rows rank row
    → (k : ℕ) → k < length slice → slice_index ranks (slice_index slice k) ≡ suc rank
row-ranked ranks rows rank slice row right h s e k less = (row-of ranks rows rank slice row right h s e (slice_index slice k)).0 (one-at slice k less)
