-- The ranks of groups, told one definition after another.
use Rattle.std.proofs.Common.{◌≡◌, ◌⊎◌, inl, inr, refl, sym, ap, ◌∙◌, subst, ℕ, zero, suc, ◌<◌, List, [], ◌∷◌, ◌++◌, length, Bool, true, false, nat_eq, Some, slice_get, slice_index_or, if◌then◌else◌, ◌||◌, arith}
use Rattle.std.specs.List.{list_any}
use Rattle.std.proofs.lemmas.List.{length_push}
use Rattle.std.proofs.lemmas.Bool.Decides.{Decides-eqb}
use Rattle.std.proofs.lemmas.Option.{get_or_from_slice_get}
use Rattle.indexmap.specs.IndexSet.{insert_key}
use Rattle.st_graph.specs.Graph.{Stands}
use Rattle.st_graph.proofs.Positions.{below-next, get-none, get-front, get-push, get-last, get-within, get-at}
use Rattle.st_deps.specs.inner.Ranks.{AreMet, AreRanks}
use Rattle.st_deps.proofs.TableLemmas.{or-true}

-- a number is one of these, or none of them is equal to it
any-stands : (x : ℕ) (xs : List ℕ) → list_any (nat_eq x) xs ≡ true → Stands xs x
any-stands x [] e = let no : ⊥ = cc in absurd no
any-stands x (y ∷ xs) e = by (nat_eq x y) refl e (λ f. any-stands x xs f)
  where
    later : Stands xs x → Stands (y ∷ xs) x
    later (k, f) = (suc k, f)

    by : (b : Bool) → nat_eq x y ≡ b → (b || list_any (nat_eq x) xs) ≡ true → (list_any (nat_eq x) xs ≡ true → Stands xs x) → Stands (y ∷ xs) x
    by true h f more = (0, ap Some (sym ((Decides-eqb x y).0 h)))
    by false h f more = later (more f)

stands-any : (x : ℕ) (xs : List ℕ) (k : ℕ) → slice_get xs k ≡ Some x → list_any (nat_eq x) xs ≡ true
stands-any x [] k e = absurd (get-none k x e)
stands-any x (y ∷ xs) zero e = let same : x ≡ y = cc in ap (λ (b : Bool). b || list_any (nat_eq x) xs) ((Decides-eqb x y).1 same)
stands-any x (y ∷ xs) (suc k) e = or-true (nat_eq x y) (list_any (nat_eq x) xs) (stands-any x xs k e)

module _ (numbers met ranks : List ℕ) (a : AreMet numbers met ranks) (x c : ℕ) where
  -- the number was met
  met-again : slice_get met c ≡ Some x → AreMet (numbers ++ x ∷ []) met (ranks ++ c ∷ [])
  met-again e = record {
    size = let p = length_push ranks c in let q = length_push numbers x in let s = a.size in omega (arith, p, q, s);
    has_place = λ i d f. place i d (get-push ranks c i d f);
    within = λ i d f. inside i d (get-push ranks c i d f);
    distinct = a.distinct;
    used = λ d l. front d (a.used d l);
    rising = λ i d b f l. rises i d b l (get-push ranks c i b f);
  }
    where
      s : length ranks ≡ length numbers
      s = a.size

      place : (i d : ℕ) → (slice_get ranks i ≡ Some d) ⊎ ((i ≡ length ranks) × (c ≡ d)) → slice_get met d ≡ slice_get (numbers ++ x ∷ []) i
      place i d (inl f) =
          let l = get-within ranks i d f in
          let there = get-at numbers i (omega (arith, l, s)) in
          a.has_place i d f ∙ there.1 ∙ sym (get-front numbers (x ∷ []) i there.0 there.1)
      place i d (inr (f, g)) =
          let at : i ≡ length numbers = f ∙ s in ap (slice_get met) (sym g) ∙ e ∙ sym (get-last numbers x) ∙ ap (slice_get (numbers ++ x ∷ [])) (sym at)

      inside : (i d : ℕ) → (slice_get ranks i ≡ Some d) ⊎ ((i ≡ length ranks) × (c ≡ d)) → d < length met
      inside i d (inl f) = a.within i d f
      inside i d (inr (f, g)) = let l = get-within met c x e in omega (arith, l, g)

      front : (d : ℕ) → Stands ranks d → Stands (ranks ++ c ∷ []) d
      front d (k, f) = (k, get-front ranks (c ∷ []) k d f)

      before : (i d : ℕ) → i ≡ length ranks → Stands ranks d → (j : ℕ) × ((j < i) × (slice_get (ranks ++ c ∷ []) j ≡ Some d))
      before i d q (k, f) = let l = get-within ranks k d f in (k, (omega (arith, l, q), get-front ranks (c ∷ []) k d f))

      old : (i d : ℕ) → (j : ℕ) × ((j < i) × (slice_get ranks j ≡ Some d)) → (j : ℕ) × ((j < i) × (slice_get (ranks ++ c ∷ []) j ≡ Some d))
      old i d (j, (l, f)) = (j, (l, get-front ranks (c ∷ []) j d f))

      rises : (i d b : ℕ) → d < b → (slice_get ranks i ≡ Some b) ⊎ ((i ≡ length ranks) × (c ≡ b)) → (j : ℕ) × ((j < i) × (slice_get (ranks ++ c ∷ []) j ≡ Some d))
      rises i d b l (inl f) = old i d (a.rising i d b f l)
      rises i d b l (inr (f, g)) = let h = get-within met c x e in before i d f (a.used d (omega (arith, l, g, h)))

  -- the number is met for the first time
  met-first : (Stands met x → ⊥) → slice_get (met ++ x ∷ []) c ≡ Some x → AreMet (numbers ++ x ∷ []) (met ++ x ∷ []) (ranks ++ c ∷ [])
  met-first new e = record {
    size = let p = length_push ranks c in let q = length_push numbers x in let s = a.size in omega (arith, p, q, s);
    has_place = λ i d f. place i d (get-push ranks c i d f);
    within = λ i d f. inside i d (get-push ranks c i d f);
    distinct = λ d b y f g. two d b y (get-push met x d y f) (get-push met x b y g);
    used = λ d l. uses d l;
    rising = λ i d b f l. rises i d b l (get-push ranks c i b f);
  }
    where
      s : length ranks ≡ length numbers
      s = a.size

      last : (slice_get met c ≡ Some x) ⊎ ((c ≡ length met) × (x ≡ x)) → c ≡ length met
      last (inl f) = absurd (new (c, f))
      last (inr (f, g)) = f

      is : c ≡ length met
      is = last (get-push met x c x e)

      place : (i d : ℕ) → (slice_get ranks i ≡ Some d) ⊎ ((i ≡ length ranks) × (c ≡ d)) → slice_get (met ++ x ∷ []) d ≡ slice_get (numbers ++ x ∷ []) i
      place i d (inl f) =
          let l = get-within ranks i d f in
          let there = get-at numbers i (omega (arith, l, s)) in
          get-front met (x ∷ []) d there.0 (a.has_place i d f ∙ there.1) ∙ sym (get-front numbers (x ∷ []) i there.0 there.1)
      place i d (inr (f, g)) =
          let at : i ≡ length numbers = f ∙ s in
          ap (slice_get (met ++ x ∷ [])) (sym g) ∙ e ∙ sym (get-last numbers x) ∙ ap (slice_get (numbers ++ x ∷ [])) (sym at)

      inside : (i d : ℕ) → (slice_get ranks i ≡ Some d) ⊎ ((i ≡ length ranks) × (c ≡ d)) → d < length (met ++ x ∷ [])
      inside i d (inl f) = let l = a.within i d f in let p = length_push met x in omega (arith, l, p)
      inside i d (inr (f, g)) = let p = length_push met x in let q = is in omega (arith, p, q, g)

      two : (d b y : ℕ) → (slice_get met d ≡ Some y) ⊎ ((d ≡ length met) × (x ≡ y)) → (slice_get met b ≡ Some y) ⊎ ((b ≡ length met) × (x ≡ y)) → d ≡ b
      two d b y (inl f) (inl g) = a.distinct d b y f g
      two d b y (inl f) (inr (g, h)) = absurd (new (d, f ∙ ap Some (sym h)))
      two d b y (inr (f, h)) (inl g) = absurd (new (b, g ∙ ap Some (sym h)))
      two d b y (inr (f, h)) (inr (g, k)) = f ∙ sym g

      front : (d : ℕ) → Stands ranks d → Stands (ranks ++ c ∷ []) d
      front d (k, f) = (k, get-front ranks (c ∷ []) k d f)

      uses-by : (d : ℕ) → (d < length met) ⊎ (d ≡ length met) → Stands (ranks ++ c ∷ []) d
      uses-by d (inl l) = front d (a.used d l)
      uses-by d (inr q) = let same : c ≡ d = is ∙ sym q in (length ranks, get-last ranks c ∙ ap Some same)

      uses : (d : ℕ) → d < length (met ++ x ∷ []) → Stands (ranks ++ c ∷ []) d
      uses d l = let p = length_push met x in uses-by d (below-next d (length met) (omega (arith, l, p)))

      before : (i d : ℕ) → i ≡ length ranks → Stands ranks d → (j : ℕ) × ((j < i) × (slice_get (ranks ++ c ∷ []) j ≡ Some d))
      before i d q (k, f) = let l = get-within ranks k d f in (k, (omega (arith, l, q), get-front ranks (c ∷ []) k d f))

      old : (i d : ℕ) → (j : ℕ) × ((j < i) × (slice_get ranks j ≡ Some d)) → (j : ℕ) × ((j < i) × (slice_get (ranks ++ c ∷ []) j ≡ Some d))
      old i d (j, (l, f)) = (j, (l, get-front ranks (c ∷ []) j d f))

      rises : (i d b : ℕ) → d < b → (slice_get ranks i ≡ Some b) ⊎ ((i ≡ length ranks) × (c ≡ b)) → (j : ℕ) × ((j < i) × (slice_get (ranks ++ c ∷ []) j ≡ Some d))
      rises i d b l (inl f) = old i d (a.rising i d b f l)
      rises i d b l (inr (f, g)) = let q = is in before i d f (a.used d (omega (arith, l, g, q)))

  -- a further number, and its place among those met
  pub met-more : (met' : List ℕ) → met' ≡ insert_key nat_eq met x → slice_get met' c ≡ Some x → AreMet (numbers ++ x ∷ []) met' (ranks ++ c ∷ [])
  met-more met' e f = subst (λ (m : List ℕ). AreMet (numbers ++ x ∷ []) m (ranks ++ c ∷ [])) (sym e) (by (list_any (nat_eq x) met) refl (ap (λ (m : List ℕ). slice_get m c) (sym e) ∙ f))
    where
      no : list_any (nat_eq x) met ≡ false → Stands met x → ⊥
      no h (k, g) = let q : true ≡ false = sym (stands-any x met k g) ∙ h in let n : ⊥ = cc in n

      by : (b : Bool) → list_any (nat_eq x) met ≡ b → slice_get (if b then met else met ++ x ∷ []) c ≡ Some x
          → AreMet (numbers ++ x ∷ []) (if b then met else met ++ x ∷ []) (ranks ++ c ∷ [])
      by true h g = met-again g
      by false h g = met-first (no h) g

-- in the end
pub ranks_are : (numbers met ranks : List ℕ) → AreMet numbers met ranks → AreRanks numbers ranks (length met)
ranks_are numbers met ranks a = record {
  size = a.size;
  within = a.within;
  number_of = λ c. slice_index_or met c 0;
  has_number = λ i c e. has i c e (get-at met c (a.within i c e));
  only = λ c d l h e. one c d e (get-at met c l) (get-at met d h);
  used = a.used;
  rising = a.rising;
}
  where
    has : (i c : ℕ) → slice_get ranks i ≡ Some c → (x : ℕ) × (slice_get met c ≡ Some x) → slice_get numbers i ≡ Some (slice_index_or met c 0)
    has i c e (x, f) = sym (a.has_place i c e) ∙ f ∙ ap Some (sym (get_or_from_slice_get met c x 0 f))

    one : (c d : ℕ) → slice_index_or met c 0 ≡ slice_index_or met d 0 → (x : ℕ) × (slice_get met c ≡ Some x) → (y : ℕ) × (slice_get met d ≡ Some y) → c ≡ d
    one c d e (x, f) (y, g) =
        let same : x ≡ y = sym (get_or_from_slice_get met c x 0 f) ∙ e ∙ get_or_from_slice_get met d y 0 g in a.distinct c d x f (g ∙ ap Some (sym same))
