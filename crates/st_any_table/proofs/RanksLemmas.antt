-- Ranks that are given in passes.
use Rattle.std.proofs.Common.{◌≡◌, ◌≢◌, ◌↔◌, refl, sym, ap, ◌∙◌, subst, ℕ, zero, suc, ◌+◌, ◌<◌, ◌≤◌, List, [], ◌∷◌, length, get_or, replicate, Bool, true, false, Option, Some, arith, inl, inr, ◌⊎◌}
use Rattle.std.specs.Prelude.{IsTrue, not, slice_get, slice_index}
use Rattle.st_type_table.specs.inner.Graph.{Graph, IsOne, AllRanked, IsClosed, SoFar}
use Rattle.st_type_table.proofs.GraphLemmas.{SoFar-start, zero-at, same_position, ranked-le, ranked-lt, beyond}
use Rattle.st_any_table.specs.inner.Ranks.{HaveRanks, IsDone, IsRanked, IsPass}

have-to : (ranks is : List ℕ) → HaveRanks ranks is → (j : ℕ) → IsOne is j → 0 < slice_index ranks j
have-to ranks [] h j m = absurd m
have-to ranks (i ∷ is) h j (inl e) = subst (λ z. 0 < slice_index ranks z) (sym e) h.0
have-to ranks (i ∷ is) h j (inr m) = have-to ranks is h.1 j m

have-from : (ranks is : List ℕ) → ((j : ℕ) → IsOne is j → 0 < slice_index ranks j) → HaveRanks ranks is
have-from ranks [] h = tt
have-from ranks (i ∷ is) h = (h i (inl refl), have-from ranks is (λ j m. h j (inr m)))

-- what is answered of all that a waited waits for
pub ready-some : (ranks is next : List ℕ) (waited : Option (List ℕ)) (r : Bool) → waited ≡ Some next → is ≡ next → (IsTrue r ↔ HaveRanks ranks is) → IsTrue r ↔ AllRanked waited ranks
ready-some ranks is next waited r e q h = subst (λ n. IsTrue r ↔ AllRanked n ranks) (sym e) (subst (λ n. IsTrue r ↔ AllRanked (Some n) ranks) q (λ y. have-to ranks is (h.0 y), λ a. h.1 (have-from ranks is a)))

pub SoFar-within : (graph : Graph) (ranks : List ℕ) (count : ℕ) → SoFar graph ranks count → count ≤ length graph
SoFar-within graph ranks count s = let a = s.counted in let b = ranked-le ranks in let c = s.size in omega (arith, a, b, c)

-- where one has no rank there is room for one more
pub SoFar-room : (graph : Graph) (ranks : List ℕ) (count i : ℕ) → SoFar graph ranks count → i < length graph → slice_index ranks i ≡ 0 → count < length graph
SoFar-room graph ranks count i s h z =
    let c = s.size in
    let a = s.counted in
    let b = ranked-lt ranks i (omega (arith, h, c)) z in
    omega (arith, a, b, c)

pub IsPass-start : (graph : Graph) (ranks : List ℕ) (before : ℕ) → SoFar graph ranks before → IsPass graph before ranks before (length graph)
IsPass-start graph ranks before s = record {
  so_far = s;
  more = omega arith;
  within = omega arith;
  done = λ q i h waited e z all. let b = beyond graph i waited e in absurd (omega (arith, b, h));
}

pub IsPass-next : (graph : Graph) (before : ℕ) (ranks ranks' : List ℕ) (count count' at at' : ℕ) → IsPass graph before ranks count at → at' + 1 ≡ at → SoFar graph ranks' count'
    → IsRanked graph at' ranks count ranks' count' → IsPass graph before ranks' count' at'
IsPass-next graph before ranks ranks' count count' at at' p e s (inl q) = record {
  so_far = s;
  more = let m = p.more in omega (arith, m, q);
  within = let w = p.within in omega (arith, w, e);
  done = λ c. let m = p.more in absurd (omega (arith, m, q, c));
}
IsPass-next graph before ranks ranks' count count' at at' p e s (inr d) = record {
  so_far = s;
  more = let m = p.more in let q = d.0 in omega (arith, m, q);
  within = let w = p.within in omega (arith, w, e);
  done = λ c i h. subst (λ rs. IsDone graph rs i) (sym d.1) (by c i h (same_position i at'));
}
  where
    by : count' ≡ before → (i : ℕ) → at' ≤ i → (i ≡ at') ⊎ (i ≢ at') → IsDone graph ranks i
    by c i h (inl q) = subst (IsDone graph ranks) (sym q) d.2
    by c i h (inr n) = p.done (let q = d.0 in omega (arith, q, c)) i (omega (arith, h, n, e))

pub IsPass-closed : (graph : Graph) (before : ℕ) (ranks : List ℕ) (count at : ℕ) → IsPass graph before ranks count at → at ≡ 0 → count ≡ before → IsClosed graph ranks
IsPass-closed graph before ranks count at p z c = λ i waited e q all. p.done c i (omega (arith, z)) waited e q all

-- ---- all nodes

pub SoFar-zeros : (graph : Graph) (ranks : List ℕ) → ranks ≡ replicate (length graph) 0 → SoFar graph ranks 0
SoFar-zeros graph ranks e = SoFar-start graph ranks (ap length e ∙ size (length graph)) (λ i. ap (λ rs. get_or rs i 0) e ∙ zero-at (length graph) i)
  where
    size : (n : ℕ) → length {A = ℕ} (replicate n 0) ≡ n
    size zero = refl
    size (suc n) = ap suc (size n)

-- ---- one waited

pub not-ranked : (ranks : List ℕ) (i : ℕ) → (0 < slice_index ranks i → ⊥) → slice_index ranks i ≡ 0
not-ranked ranks i h = by (slice_index ranks i) h
  where
    by : (r : ℕ) → (0 < r → ⊥) → r ≡ 0
    by zero h = refl
    by (suc r) h = absurd (h (omega arith))

pub done-ranked : (graph : Graph) (ranks : List ℕ) (i : ℕ) → (slice_index ranks i ≡ 0 → ⊥) → IsDone graph ranks i
done-ranked graph ranks i h waited e z all = h z

pub unranked-exact : (ranks : List ℕ) (i : ℕ) (r : Bool) → (IsTrue r ↔ (0 < slice_index ranks i)) → IsTrue (not r) ↔ (slice_index ranks i ≡ 0)
unranked-exact ranks i true h = (λ f. cc, λ z. let k = h.0 refl in absurd (omega (arith, k, z)))
unranked-exact ranks i false h = (λ f. not-ranked ranks i (λ k. let f = h.1 k in cc), λ z. refl)

pub unranked-room : (graph : Graph) (ranks : List ℕ) (count i : ℕ) → SoFar graph ranks count → i < length graph → slice_index ranks i ≡ 0 → count < length ranks
unranked-room graph ranks count i s h z = let a = SoFar-room graph ranks count i s h z in let c = s.size in omega (arith, a, c)

pub done-waiting : (graph : Graph) (ranks : List ℕ) (i : ℕ) (waited : Option (List ℕ)) → slice_get graph i ≡ Some waited → (AllRanked waited ranks → ⊥) → IsDone graph ranks i
done-waiting graph ranks i waited e n other f z all =
    let s : Some waited ≡ Some other = sym e ∙ f in
    let s' : waited ≡ other = cc in
    n (subst (λ y. AllRanked y ranks) (sym s') all)
