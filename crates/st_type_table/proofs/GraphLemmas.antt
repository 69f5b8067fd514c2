-- Ranks of positions: one rank more, and that where no more can be ranked all that end are.
use Rattle.std.proofs.Common.{◌≡◌, ◌≢◌, refl, sym, ap, ◌∙◌, subst, ℕ, zero, suc, ◌<◌, ◌≤◌, List, [], ◌∷◌, length, get_or, set, Option, Some, None, arith, inl, inr, ◌⊎◌, get_or-set_other, get_or-set_same, replicate}
use Rattle.std.specs.Prelude.{slice_get, slice_index}
use Rattle.st_type_table.specs.inner.Graph.{Graph, EndsAt, IsOne, AllRanked, IsClosed, SoFar, AreRanks, ranked}

pub same_position : (i j : ℕ) → (i ≡ j) ⊎ (i ≢ j)
same_position zero zero = inl refl
same_position zero (suc j) = inr (λ e. cc)
same_position (suc i) zero = inr (λ e. cc)
same_position (suc i) (suc j) = by (same_position i j)
  where
    by : (i ≡ j) ⊎ (i ≢ j) → (suc i ≡ suc j) ⊎ (suc i ≢ suc j)
    by (inl e) = inl (ap suc e)
    by (inr d) = inr (λ e. d (omega (arith, e)))

pub ranked-le : (rs : List ℕ) → ranked rs ≤ length rs
ranked-le [] = omega arith
ranked-le (zero ∷ rs) = let h = ranked-le rs in omega (arith, h)
ranked-le (suc r ∷ rs) = let h = ranked-le rs in omega (arith, h)

-- where one is not ranked, not all are
pub ranked-lt : (rs : List ℕ) (i : ℕ) → i < length rs → get_or rs i 0 ≡ 0 → ranked rs < length rs
ranked-lt [] i h e = absurd (omega arith)
ranked-lt (zero ∷ rs) zero h e = let k = ranked-le rs in omega (arith, k)
ranked-lt (suc r ∷ rs) zero h e = cc
ranked-lt (zero ∷ rs) (suc i) h e = let k = ranked-lt rs i (omega arith) e in omega (arith, k)
ranked-lt (suc r ∷ rs) (suc i) h e = let k = ranked-lt rs i (omega arith) e in omega (arith, k)

pub ranked-set : (rs : List ℕ) (i r : ℕ) → i < length rs → get_or rs i 0 ≡ 0 → ranked (set rs i (suc r)) ≡ suc (ranked rs)
ranked-set [] i r h e = absurd (omega arith)
ranked-set (zero ∷ rs) zero r h e = refl
ranked-set (suc q ∷ rs) zero r h e = cc
ranked-set (zero ∷ rs) (suc i) r h e = ranked-set rs i r (omega arith) e
ranked-set (suc q ∷ rs) (suc i) r h e = ap suc (ranked-set rs i r (omega arith) e)

-- a position that waits for ranked ones alone is ranked
pub SoFar-set : (graph : Graph) (ranks : List ℕ) (count i : ℕ) (node : Option (List ℕ)) → SoFar graph ranks count → i < length ranks → slice_get graph i ≡ Some node
    → get_or ranks i 0 ≡ 0 → AllRanked node ranks → SoFar graph (set ranks i (suc count)) (suc count)
SoFar-set graph ranks count i None s h e z all = absurd all
SoFar-set graph ranks count i (Some next) s h e z all = record {
  size = length-kept ranks i (suc count) ∙ s.size;
  counted = ap suc s.counted ∙ sym (ranked-set ranks i count h z);
  below = λ j. below j (same_position j i);
  sound = λ j p. sound j (same_position j i) p;
  falls = λ j k others p g m. falls j k others (same_position j i) p g m;
}
  where
    here : get_or (set ranks i (suc count)) i 0 ≡ suc count
    here = get_or-set_same ranks i (suc count) 0 h

    there : (j : ℕ) → j ≢ i → get_or (set ranks i (suc count)) j 0 ≡ get_or ranks j 0
    there j d = get_or-set_other ranks i j (suc count) 0 d

    length-kept : (rs : List ℕ) (i r : ℕ) → length (set rs i r) ≡ length rs
    length-kept [] i r = refl
    length-kept (x ∷ rs) zero r = refl
    length-kept (x ∷ rs) (suc i) r = ap suc (length-kept rs i r)

    below : (j : ℕ) → (j ≡ i) ⊎ (j ≢ i) → get_or (set ranks i (suc count)) j 0 ≤ suc count
    below j (inl q) = let a : get_or (set ranks i (suc count)) j 0 ≡ suc count = ap (λ z. get_or (set ranks i (suc count)) z 0) q ∙ here in omega (arith, a)
    below j (inr d) = let a = there j d in let b = s.below j in omega (arith, a, b)

    waits : (k : ℕ) → IsOne next k → (k ≢ i) × (0 < get_or ranks k 0)
    waits k m = (λ q. let a : get_or ranks k 0 ≡ 0 = ap (λ z. get_or ranks z 0) q ∙ z in let b = all k m in omega (arith, a, b), all k m)

    sound : (j : ℕ) → (j ≡ i) ⊎ (j ≢ i) → 0 < get_or (set ranks i (suc count)) j 0 → EndsAt graph j
    sound j (inl q) p = subst (EndsAt graph) (sym q) (EndsAt.ends next e (λ k m. s.sound k (all k m)))
    sound j (inr d) p = s.sound j (let a = there j d in omega (arith, a, p))

    falls : (j k : ℕ) (others : List ℕ) → (j ≡ i) ⊎ (j ≢ i) → 0 < get_or (set ranks i (suc count)) j 0 → slice_get graph j ≡ Some (Some others) → IsOne others k
        → (0 < get_or (set ranks i (suc count)) k 0) × (get_or (set ranks i (suc count)) k 0 < get_or (set ranks i (suc count)) j 0)
    falls j k others (inl q) p g m =
        let same : Some (Some next) ≡ Some (Some others) = sym e ∙ ap (slice_get graph) (sym q) ∙ g in
        let is : next ≡ others = cc in
        let w = waits k (subst (λ ns. IsOne ns k) (sym is) m) in
        let a = there k w.0 in
        let b = s.below k in
        let f : get_or (set ranks i (suc count)) j 0 ≡ suc count = ap (λ z. get_or (set ranks i (suc count)) z 0) q ∙ here in
        let u = w.1 in
        (omega (arith, a, u), omega (arith, a, b, f))
    falls j k others (inr d) p g m =
        let a = there j d in
        let f = s.falls j k others (omega (arith, a, p)) g m in
        let other : k ≢ i = λ q. let y : get_or ranks k 0 ≡ 0 = ap (λ z. get_or ranks z 0) q ∙ z in let x = f.0 in omega (arith, x, y) in
        let b = there k other in
        let x = f.0 in
        let y = f.1 in
        (omega (arith, b, x), omega (arith, a, b, y))

pub zero-at : (n i : ℕ) → ◌≡◌ {A = ℕ} (get_or (replicate n 0) i 0) 0
zero-at zero i = refl
zero-at (suc n) zero = refl
zero-at (suc n) (suc i) = zero-at n i

-- beyond the end there is nothing
pub beyond : (graph : Graph) (i : ℕ) (there : Option (List ℕ)) → slice_get graph i ≡ Some there → i < length graph
beyond [] i there e = cc
beyond (x ∷ xs) zero there e = omega arith
beyond (x ∷ xs) (suc i) there e = let h = beyond xs i there e in omega (arith, h)

-- where no more can be ranked, all that end are
pub Closed-exact : (graph : Graph) (ranks : List ℕ) (count : ℕ) → SoFar graph ranks count → IsClosed graph ranks → AreRanks graph ranks
Closed-exact graph ranks count s closed = record { size = s.size; exact = λ i. (s.sound i, complete i); bounded = bounded; falls = s.falls }
  where
    bounded : (i : ℕ) → slice_index ranks i ≤ length graph
    bounded i = let a = s.below i in let b = s.counted in let c = ranked-le ranks in let d = s.size in omega (arith, a, b, c, d)

    positive : (r : ℕ) → (r ≡ 0 → ⊥) → 0 < r
    positive zero h = absurd (h refl)
    positive (suc r) h = omega arith

    complete : (i : ℕ) → EndsAt graph i → 0 < slice_index ranks i
    complete i (EndsAt.ends next g all) = positive (slice_index ranks i) (λ z. closed i (Some next) g z (λ j m. complete j (all j m)))

-- at the start none is ranked
pub SoFar-start : (graph : Graph) (ranks : List ℕ) → length ranks ≡ length graph → ((i : ℕ) → get_or ranks i 0 ≡ 0) → SoFar graph ranks 0
SoFar-start graph ranks size zeros = record {
  size = size;
  counted = none ranks zeros;
  below = λ i. let z = zeros i in omega (arith, z);
  sound = λ i p. absurd (let z = zeros i in omega (arith, z, p));
  falls = λ i j next p g m. absurd (let z = zeros i in omega (arith, z, p));
}
  where
    none : (rs : List ℕ) → ((i : ℕ) → get_or rs i 0 ≡ 0) → 0 ≡ ranked rs
    none [] zs = refl
    none (zero ∷ rs) zs = none rs (λ i. zs (suc i))
    none (suc r ∷ rs) zs = let z : suc r ≡ 0 = zs 0 in cc
