-- Names that are borrowed in a set, and names of which no two are equal.
use Rattle.std.proofs.Common.{◌≡◌, ◌≢◌, ℕ, ◌+◌, ◌<◌, Bool, true, false, not, true≢false, eqb, List, [], ◌∷◌, ◌++◌, length, take, get_or, refl, sym, ap, subst, ◌∙◌, arith, length-take, if◌then◌else◌}
use Rattle.std.specs.Bool.{Decides}
use Rattle.std.specs.Borrow.{Bor}
use Rattle.std.specs.Cmp.Lexicographic.{pointwise}
use Rattle.std.specs.List.{Contains, list_any}
use Rattle.std.proofs.lemmas.List.{length-map, get_or-map, map-append, get_or-take, get_or_default, take_more}
use Rattle.std.proofs.lemmas.List.Folds.{Any-from_list_any, list_any_at}
use Rattle.std.proofs.lemmas.List.Quantifiers.{all_pairs_push}
use Rattle.std.proofs.lemmas.Slice.Eq.{bytes_eq-Decides}
use Rattle.indexmap.specs.IndexSet.{insert_key}
use Rattle.st_il.specs.Small.{AreDistinct}
use Rattle.st_small.specs.inner.Names.{names_of, Adds}

-- a test for a name finds it exactly where it is
pub any_name : (test : Bor (List ℕ) → Bool) (name : List ℕ) → ((key : Bor (List ℕ)) → Decides (test key) (key.now ≡ name))
    → (keys : List (Bor (List ℕ))) → Decides (list_any test keys) (Contains (names_of keys) name)
any_name test name decides keys = (found keys, has keys)
  where
    found : (ks : List (Bor (List ℕ))) → list_any test ks ≡ true → Contains (names_of ks) name
    found ks h = by (Any-from_list_any test ks h).0 (Any-from_list_any test ks h).1 (Any-from_list_any test ks h).2 (Any-from_list_any test ks h).3 (Any-from_list_any test ks h).4
      where
        by : (k : ℕ) (x : Bor (List ℕ)) → k < length ks → get_or ks k x ≡ x → test x ≡ true → Contains (names_of ks) name
        by k x within at passes =
            let within-names : k < length (names_of ks) = rw length-map within in
            (k, within-names, get_or-map (λ key. key.now) ks k x name within ∙ ap (λ key. key.now) at ∙ (decides x).0 passes)

    has : (ks : List (Bor (List ℕ))) → Contains (names_of ks) name → list_any test ks ≡ true
    has [] h = absurd (omega (arith, h.1))
    has (x ∷ ks) h =
        let within : h.0 < length (x ∷ ks) = simp length-map at h.1 in
        list_any_at test (x ∷ ks) h.0 x within
        ((decides (get_or (x ∷ ks) h.0 x)).1 (sym (get_or-map (λ key. key.now) (x ∷ ks) h.0 x name within) ∙ h.2))

pub Decides-same : (name : List ℕ) (key : Bor (List ℕ)) → Decides (pointwise eqb name key.now) (key.now ≡ name)
Decides-same name key =
    let d = bytes_eq-Decides name key.now in (λ h. sym (d.0 h), λ h. d.1 (sym h))

-- what `insert` leaves of the names
pub name_added : (name : Bor (List ℕ)) (keys new : List (Bor (List ℕ))) (added : Bool)
    → added ≡ not (list_any (λ key. pointwise eqb name.now key.now) keys)
    → new ≡ insert_key (λ x y. pointwise eqb x.now y.now) keys name
    → Adds (names_of keys) name.now (names_of new) added
name_added name keys new added a n = by (list_any (λ key. pointwise eqb name.now key.now) keys) refl
  where
    found : Decides (list_any (λ key. pointwise eqb name.now key.now) keys) (Contains (names_of keys) name.now)
    found = any_name (λ key. pointwise eqb name.now key.now) name.now (Decides-same name.now) keys

    by : (b : Bool) → list_any (λ key. pointwise eqb name.now key.now) keys ≡ b → Adds (names_of keys) name.now (names_of new) added
    by true e = subst (Adds (names_of keys) name.now (names_of new)) (sym (a ∙ ap not e)) (found.0 e)
    by false e =
        let more : names_of new ≡ names_of keys ++ name.now ∷ [] =
        ap names_of (n ∙ ap (λ c. if c then keys else keys ++ name ∷ []) e) ∙ map-append (λ key. key.now) keys (name ∷ []) in
        subst (Adds (names_of keys) name.now (names_of new)) (sym (a ∙ ap not e)) ((λ h. true≢false (sym (found.1 h) ∙ e)), more)

-- a name that stands before its place is there twice
repeated : (xs : List (List ℕ)) (i : ℕ) (d : List ℕ) → i < length xs → Contains (take i xs) (get_or xs i d) → AreDistinct xs → ⊥
repeated xs i d within h distinct =
    let before : h.0 < i = omega (arith, length-take i xs, h.1) in
    distinct h.0 i (get_or xs i d) before within
    (sym (get_or-take i xs h.0 (get_or xs i d) before) ∙ h.2 ∙ get_or_default xs i d (get_or xs i d) within)

-- one more name that is not among them
distinct_more : (xs : List (List ℕ)) (i : ℕ) (d : List ℕ) → i < length xs → (Contains (take i xs) (get_or xs i d) → ⊥)
    → AreDistinct (take i xs) → AreDistinct (take (i + 1) xs)
distinct_more xs i d within new distinct =
    subst AreDistinct (sym (take_more xs i d within))
    (all_pairs_push (λ one other. one ≢ other) (take i xs) (get_or xs i d) distinct
    (λ k e before same. new (k, before, get_or_default (take i xs) k (get_or xs i d) e before ∙ same)))

-- a name that is added to the names before it
pub names_more : (xs : List (List ℕ)) (i : ℕ) (name : List ℕ) (old new : List (List ℕ)) (added : Bool) → i < length xs
    → name ≡ get_or xs i name → old ≡ take i xs → AreDistinct (take i xs) → Adds old name new added → added ≡ true
    → (new ≡ take (i + 1) xs) × AreDistinct (take (i + 1) xs)
names_more xs i name old new added within at kept distinct adds is_added =
    let adds-new = subst (Adds old name new) is_added adds in (
      adds-new.1 ∙ ap (λ ys. ys ++ name ∷ []) kept ∙ ap (λ y. take i xs ++ y ∷ []) at ∙ sym (take_more xs i name within),
      distinct_more xs i name within (λ h. adds-new.0 (subst (λ ys. Contains ys name) (sym kept) (subst (Contains (take i xs)) (sym at) h))) distinct,
    )

-- a name that is not added is there twice
pub names_again : (xs : List (List ℕ)) (i : ℕ) (name : List ℕ) (old new : List (List ℕ)) (added : Bool) → i < length xs
    → name ≡ get_or xs i name → old ≡ take i xs → Adds old name new added → added ≡ false → AreDistinct xs → ⊥
names_again xs i name old new added within at kept adds not_added =
    let there = subst (Adds old name new) not_added adds in
    repeated xs i name within (subst (Contains (take i xs)) at (subst (λ ys. Contains ys name) kept there))
