-- The names of groups, by their ranks.
use Rattle.std.proofs.Common.{◌≡◌, ◌≢◌, ◌⊎◌, inl, inr, refl, sym, ap, ◌∙◌, subst, ℕ, zero, suc, ◌+◌, ◌<◌, ◌==◌, List, [], ◌∷◌, ◌++◌, length, set, filter, take, map, slice_index_or, Bool, true, false, true≢false, cond, Some, slice_get, if◌then◌else◌, arith}
use Rattle.std.proofs.lemmas.List.{append-nil, length-set, length-take-le}
use Rattle.std.proofs.lemmas.Bool.Decides.{Decides-eqb}
use Rattle.std.proofs.lemmas.Option.{slice_get_read, get_or_from_slice_get}
use Rattle.st_graph.specs.Graph.{Stands}
use Rattle.st_graph.proofs.Positions.{same_position, get-none, get-same, set-other, set-here, take-more}
use Rattle.st_deps.specs.Cited.{Name}
use Rattle.st_deps.specs.inner.Members.{of_rank, AreMembers}

-- ---- one definition after another

-- the names, so far, of those of a rank
abbrev pub one_more : ℕ → ℕ → Name → List Name
one_more c rank name = if rank == c then name ∷ [] else []

of_rank-push : (c : ℕ) (ranks : List ℕ) (names : List Name) (rank : ℕ) (name : Name) → length ranks ≡ length names
    → of_rank c (ranks ++ rank ∷ []) (names ++ name ∷ []) ≡ of_rank c ranks names ++ one_more c rank name
of_rank-push c [] [] rank name n = by (rank == c)
  where
    by : (t : Bool) → (if t then name ∷ [] else []) ≡ (if t then name ∷ [] else [])
    by t = refl
of_rank-push c [] (x ∷ names) rank name n = absurd (omega (arith, n))
of_rank-push c (r ∷ ranks) [] rank name n = absurd (omega (arith, n))
of_rank-push c (r ∷ ranks) (x ∷ names) rank name n = by (r == c) (of_rank-push c ranks names rank name (omega (arith, n)))
  where
    by : (t : Bool) → of_rank c (ranks ++ rank ∷ []) (names ++ name ∷ []) ≡ of_rank c ranks names ++ one_more c rank name
        → (if t then x ∷ of_rank c (ranks ++ rank ∷ []) (names ++ name ∷ []) else of_rank c (ranks ++ rank ∷ []) (names ++ name ∷ []))
        ≡ (if t then x ∷ of_rank c ranks names else of_rank c ranks names) ++ one_more c rank name
    by true e = ap (λ (z : List Name). x ∷ z) e
    by false e = e

pub members-more : (names : List Name) (ranks : List ℕ) (count : ℕ) (rows : List (List Name)) (rank : ℕ) (name : Name) (old : List Name)
    → length ranks ≡ length names → AreMembers names ranks count rows → slice_get rows rank ≡ Some old
    → AreMembers (names ++ name ∷ []) (ranks ++ rank ∷ []) count (set rows rank (old ++ name ∷ []))
members-more names ranks count rows rank name old n m there = record {
  size = length-set rows rank (old ++ name ∷ []) ∙ m.size;
  row = λ c less. at c less (same_position rank c);
}
  where
    same-test : (c : ℕ) → rank ≡ c → (rank == c) ≡ true
    same-test c q = (Decides-eqb rank c).1 q

    other-test : (c : ℕ) → rank ≢ c → (t : Bool) → (rank == c) ≡ t → t ≡ false
    other-test c d true e = absurd (d ((Decides-eqb rank c).0 e))
    other-test c d false e = refl

    grown : (c : ℕ) (t : Bool) → (rank == c) ≡ t → of_rank c (ranks ++ rank ∷ []) (names ++ name ∷ []) ≡ of_rank c ranks names ++ (if t then name ∷ [] else [])
    grown c t e = of_rank-push c ranks names rank name n ∙ ap (λ (b : Bool). of_rank c ranks names ++ (if b then name ∷ [] else [])) e

    at : (c : ℕ) → c < count → (rank ≡ c) ⊎ (rank ≢ c) → slice_get (set rows rank (old ++ name ∷ [])) c ≡ Some (of_rank c (ranks ++ rank ∷ []) (names ++ name ∷ []))
    at c less (inl q) =
        let had : of_rank c ranks names ≡ old = get-same rows c (of_rank c ranks names) old (m.row c less) (ap (slice_get rows) (sym q) ∙ there) in
        ap (slice_get (set rows rank (old ++ name ∷ []))) (sym q) ∙ set-here rows rank (old ++ name ∷ []) old there
        ∙ ap Some (ap (λ (z : List Name). z ++ name ∷ []) (sym had) ∙ sym (grown c true (same-test c q)))
    at c less (inr d) =
        set-other rows rank c (old ++ name ∷ []) (λ e. d (sym e)) ∙ m.row c less
        ∙ ap Some (sym (grown c false (other-test c d (rank == c) refl) ∙ append-nil (of_rank c ranks names)))

map-push : {A B : Type 0} (f : A → B) (xs : List A) (x : A) → map f (xs ++ x ∷ []) ≡ map f xs ++ f x ∷ []
map-push f [] x = refl
map-push f (y ∷ xs) x = ap (λ zs. f y ∷ zs) (map-push f xs x)

-- the names of one more group
pub ordered-more : (members : List (List Name)) (order : List ℕ) (k : ℕ) (item : List Name) (groups more : List (List Name)) → k < length order → slice_index_or order k 0 < length members
    → item ≡ slice_index_or members (slice_index_or order k 0) item → groups ≡ map (λ (c : ℕ). slice_index_or members c []) (take k order) → more ≡ groups ++ item ∷ []
    → more ≡ map (λ (c : ℕ). slice_index_or members c []) (take (k + 1) order)
ordered-more members order k item groups more less within is are grown =
    let at : slice_get members (slice_index_or order k 0) ≡ Some item = slice_get_read members (length members) (slice_index_or order k 0) item refl within is in
    let same : slice_index_or members (slice_index_or order k 0) [] ≡ item = get_or_from_slice_get members (slice_index_or order k 0) item [] at in
    grown ∙ ap (λ (z : List (List Name)). z ++ item ∷ []) are ∙ ap (λ (z : List Name). map (λ (c : ℕ). slice_index_or members c []) (take k order) ++ z ∷ []) (sym same)
    ∙ sym (map-push (λ (c : ℕ). slice_index_or members c []) (take k order) (slice_index_or order k 0)) ∙ ap (map (λ (c : ℕ). slice_index_or members c [])) (sym (take-more order k 0 less))

-- the names of one more definition
pub members-next : (names : List Name) (ranks : List ℕ) (count k : ℕ) (rows : List (List Name)) (name : Name) (old : List Name) → length ranks ≡ length names → k < length names
    → name ≡ slice_index_or names k name → AreMembers (take k names) (take k ranks) count rows → slice_get rows (slice_index_or ranks k 0) ≡ Some old
    → AreMembers (take (k + 1) names) (take (k + 1) ranks) count (set rows (slice_index_or ranks k 0) (old ++ name ∷ []))
members-next names ranks count k rows name old size less is m there =
    let one = length-take-le k names (omega (arith, less)) in
    let two = length-take-le k ranks (omega (arith, less, size)) in
    subst (λ (z : List Name). AreMembers z (take (k + 1) ranks) count (set rows (slice_index_or ranks k 0) (old ++ name ∷ []))) (sym (take-more names k name less ∙ ap (λ (z : Name). take k names ++ z ∷ []) (sym is)))
    (subst (λ (z : List ℕ). AreMembers (take k names ++ name ∷ []) z count (set rows (slice_index_or ranks k 0) (old ++ name ∷ []))) (sym (take-more ranks k 0 (omega (arith, less, size))))
    (members-more (take k names) (take k ranks) count rows (slice_index_or ranks k 0) name old (omega (arith, one, two)) m there))

-- ---- which names they are

pub of_rank-sound : (c : ℕ) (ranks : List ℕ) (names : List Name) (k : ℕ) (x : Name) → slice_get (of_rank c ranks names) k ≡ Some x
    → (i : ℕ) × ((slice_get names i ≡ Some x) × (slice_get ranks i ≡ Some c))
of_rank-sound c [] names k x e = absurd (get-none k x e)
of_rank-sound c (r ∷ ranks) [] k x e = absurd (get-none k x e)
of_rank-sound c (r ∷ ranks) (y ∷ names) k x e = by (r == c) refl k e (λ m f. of_rank-sound c ranks names m x f)
  where
    later : (i : ℕ) × ((slice_get names i ≡ Some x) × (slice_get ranks i ≡ Some c)) → (i : ℕ) × ((slice_get (y ∷ names) i ≡ Some x) × (slice_get (r ∷ ranks) i ≡ Some c))
    later (i, (f, g)) = (suc i, (f, g))

    by : (t : Bool) → (r == c) ≡ t → (k : ℕ) → slice_get (if t then y ∷ of_rank c ranks names else of_rank c ranks names) k ≡ Some x
        → ((m : ℕ) → slice_get (of_rank c ranks names) m ≡ Some x → (i : ℕ) × ((slice_get names i ≡ Some x) × (slice_get ranks i ≡ Some c)))
        → (i : ℕ) × ((slice_get (y ∷ names) i ≡ Some x) × (slice_get (r ∷ ranks) i ≡ Some c))
    by true h zero f more = (0, (f, ap Some ((Decides-eqb r c).0 h)))
    by true h (suc k) f more = later (more k f)
    by false h k f more = later (more k f)

pub of_rank-complete : (c : ℕ) (ranks : List ℕ) (names : List Name) (i : ℕ) (x : Name) → slice_get names i ≡ Some x → slice_get ranks i ≡ Some c → Stands (of_rank c ranks names) x
of_rank-complete c [] names i x e f = absurd (get-none i c f)
of_rank-complete c (r ∷ ranks) [] i x e f = absurd (get-none i x e)
of_rank-complete c (r ∷ ranks) (y ∷ names) zero x e f =
    let same : r ≡ c = cc in by (r == c) ((Decides-eqb r c).1 same)
  where
    by : (t : Bool) → t ≡ true → Stands (if t then y ∷ of_rank c ranks names else of_rank c ranks names) x
    by true h = (0, e)
    by false h = absurd (true≢false (sym h))
of_rank-complete c (r ∷ ranks) (y ∷ names) (suc i) x e f = by (r == c) (of_rank-complete c ranks names i x e f)
  where
    by : (t : Bool) → Stands (of_rank c ranks names) x → Stands (if t then y ∷ of_rank c ranks names else of_rank c ranks names) x
    by true (k, g) = (suc k, g)
    by false s = s

-- they are those that pass a test of the rank
pub of_rank-filter : (c : ℕ) (test : Name → Bool) (ranks : List ℕ) (names : List Name) → length ranks ≡ length names
    → ((i d : ℕ) (x : Name) → slice_get names i ≡ Some x → slice_get ranks i ≡ Some d → test x ≡ (d == c)) → of_rank c ranks names ≡ filter test names
of_rank-filter c test [] [] n h = refl
of_rank-filter c test [] (x ∷ names) n h = absurd (omega (arith, n))
of_rank-filter c test (r ∷ ranks) [] n h = absurd (omega (arith, n))
of_rank-filter c test (r ∷ ranks) (x ∷ names) n h =
    by (r == c) (test x) (h 0 r x refl refl) (of_rank-filter c test ranks names (omega (arith, n)) (λ i d y e f. h (suc i) d y e f))
  where
    by : (t u : Bool) → u ≡ t → of_rank c ranks names ≡ filter test names
        → (if t then x ∷ of_rank c ranks names else of_rank c ranks names) ≡ cond u (x ∷ filter test names) (filter test names)
    by true true q e = ap (λ (z : List Name). x ∷ z) e
    by true false q e = absurd (true≢false (sym q))
    by false true q e = absurd (true≢false q)
    by false false q e = e

-- ---- filters

module _ {A : Type 0} (test : A → Bool) where
  pub filter-passes : (xs : List A) (k : ℕ) (x : A) → slice_get (filter test xs) k ≡ Some x → test x ≡ true
  filter-passes [] k x e = absurd (get-none k x e)
  filter-passes (y ∷ xs) k x e = by (test y) refl k e (λ m f. filter-passes xs m x f)
    where
      by : (t : Bool) → test y ≡ t → (k : ℕ) → slice_get (cond t (y ∷ filter test xs) (filter test xs)) k ≡ Some x
          → ((m : ℕ) → slice_get (filter test xs) m ≡ Some x → test x ≡ true) → test x ≡ true
      by true h zero f more = let same : x ≡ y = cc in ap test same ∙ h
      by true h (suc k) f more = more k f
      by false h k f more = more k f

  pub filter-keeps : (xs : List A) (k : ℕ) (x : A) → slice_get xs k ≡ Some x → test x ≡ true → Stands (filter test xs) x
  filter-keeps [] k x e h = absurd (get-none k x e)
  filter-keeps (y ∷ xs) zero x e h = let same : y ≡ x = cc in by (test y) (ap test same ∙ h)
    where
      by : (t : Bool) → t ≡ true → Stands (cond t (y ∷ filter test xs) (filter test xs)) x
      by true q = (0, e)
      by false q = absurd (true≢false (sym q))
  filter-keeps (y ∷ xs) (suc k) x e h = by (test y) (filter-keeps xs k x e h)
    where
      by : (t : Bool) → Stands (filter test xs) x → Stands (cond t (y ∷ filter test xs) (filter test xs)) x
      by true (m, f) = (suc m, f)
      by false s = s
