-- The first of several members, found among those of which a fact holds.
use Rattle.std.proofs.Common.{◌≡◌, refl, sym, ◌∙◌, ap, subst, ℕ, zero, suc, ◌+◌, ◌<◌, Bool, true, false, true≢false, if◌then◌else◌, List, [], ◌∷◌, ◌++◌, length, map, get_or, drop, slice_get, Some, None, All, find, filter, arith}
use Rattle.std.specs.Borrow.{Bor}
use Rattle.std.specs.Option.{option_map}
use Rattle.std.proofs.lemmas.List.{length-map}
use Rattle.std.proofs.lemmas.List.Elements.{All-nil, All-cons}
use Rattle.std.proofs.lemmas.Option.{slice_get_within, slice_get-map}
use Rattle.st_il.specs.Names.{Name}
use Rattle.st_il.specs.Definitions.{IsFirst}
use Rattle.st_order.specs.Known.{all_now}
use Rattle.st_modes.specs.inner.Sifted.{Sifted, none, kept, left_out}
use Rattle.st_modes.specs.inner.Targets.{IsLeastOf}
use Rattle.st_semantics.proofs.HoleSums.{drop_there}

module _ {A : Type 0} (P : A → Type 0) where
  -- ---- one more member

  pub sifted_kept : {xs ys : List A} (x : A) → Sifted P xs ys → P x → Sifted P (xs ++ x ∷ []) (ys ++ x ∷ [])
  sifted_kept x none h = kept x [] [] h none
  sifted_kept x (kept y xs ys g s) h = kept y (xs ++ x ∷ []) (ys ++ x ∷ []) g (sifted_kept x s h)
  sifted_kept x (left_out y xs ys g s) h = left_out y (xs ++ x ∷ []) (ys ++ x ∷ []) g (sifted_kept x s h)

  pub sifted_left_out : {xs ys : List A} (x : A) → Sifted P xs ys → (P x → ⊥) → Sifted P (xs ++ x ∷ []) ys
  sifted_left_out x none h = left_out x [] [] h none
  sifted_left_out x (kept y xs ys g s) h = kept y (xs ++ x ∷ []) ys g (sifted_left_out x s h)
  sifted_left_out x (left_out y xs ys g s) h = left_out y (xs ++ x ∷ []) ys g (sifted_left_out x s h)

  -- the same fact in other words
  pub sifted_as : (Q : A → Type 0) → ((x : A) → P x → Q x) → ((x : A) → Q x → P x) → {xs ys : List A} → Sifted P xs ys → Sifted Q xs ys
  sifted_as Q to from none = none
  sifted_as Q to from (kept x xs ys g s) = kept x xs ys (to x g) (sifted_as Q to from s)
  sifted_as Q to from (left_out x xs ys g s) = left_out x xs ys (λ q. g (from x q)) (sifted_as Q to from s)

  -- those that pass a test
  pub sifted_by_test : (test : A → Bool) → ((x : A) → test x ≡ true → P x) → ((x : A) → P x → test x ≡ true) → (xs : List A) → Sifted P xs (filter test xs)
  sifted_by_test test to from [] = none
  sifted_by_test test to from (x ∷ xs) = by (test x) refl (sifted_by_test test to from xs)
    where
      by : (b : Bool) → test x ≡ b → Sifted P xs (filter test xs) → Sifted P (x ∷ xs) (if b then x ∷ filter test xs else filter test xs)
      by true e s = kept x xs (filter test xs) (to x e) s
      by false e s = left_out x xs (filter test xs) (λ h. true≢false (sym (from x h) ∙ e)) s

  -- ---- the first one that passes a test

  module _ (R : A → Type 0) (test : A → Bool) (whole : (x : A) → R x → P x) (passes : (x : A) → R x → test x ≡ true) (holds : (x : A) → P x → test x ≡ true → R x) where
    abbrev NotR : A → Type 0
    NotR x = R x → ⊥

    pub none_first : {xs ys : List A} → Sifted P xs ys → find test ys ≡ None → All NotR xs
    none_first none h = All-nil NotR
    none_first (kept x xs ys g s) h = by (test x) refl h (none_first s)
      where
        by : (b : Bool) → test x ≡ b → (if b then Some x else find test ys) ≡ None → (find test ys ≡ None → All NotR xs) → All NotR (x ∷ xs)
        by true e h more = cc
        by false e h more = All-cons NotR x xs (λ r. true≢false (sym (passes x r) ∙ e)) (more h)
    none_first (left_out x xs ys g s) h = All-cons NotR x xs (λ r. g (whole x r)) (none_first s h)

    later : (x y : A) (xs : List A) → NotR x → IsFirst R xs y → IsFirst R (x ∷ xs) y
    later x y xs n f = record {
      before = x ∷ f.before;
      after = f.after;
      split = ap (λ z. x ∷ z) f.split;
      not_before = All-cons NotR x f.before n f.not_before;
      holds = f.holds;
    }

    pub first_found : {xs ys : List A} (y : A) → Sifted P xs ys → find test ys ≡ Some y → IsFirst R xs y
    first_found y none h = cc
    first_found y (kept x xs ys g s) h = by (test x) refl h (first_found y s)
      where
        by : (b : Bool) → test x ≡ b → (if b then Some x else find test ys) ≡ Some y → (find test ys ≡ Some y → IsFirst R xs y) → IsFirst R (x ∷ xs) y
        by true e h more =
            let same : x ≡ y = cc in
            record {
              before = [];
              after = xs;
              split = ap (λ z. z ∷ xs) same;
              not_before = All-nil NotR;
              holds = subst R same (holds x g e);
            }
        by false e h more = later x y xs (λ r. true≢false (sym (passes x r) ∙ e)) (more h)
    first_found y (left_out x xs ys g s) h = later x y xs (λ r. g (whole x r)) (first_found y s h)

-- ---- the first one, by the number of its name

-- a member that is left
pub sifted_holds : {A : Type 0} (P : A → Type 0) {xs ys : List A} → Sifted P xs ys → (i : ℕ) (y : A) → slice_get ys i ≡ Some y → P y
sifted_holds P none i y e = cc
sifted_holds P (kept x xs ys g s) zero y e = let same : x ≡ y = cc in subst P same g
sifted_holds P (kept x xs ys g s) (suc i) y e = sifted_holds P s i y e
sifted_holds P (left_out x xs ys g s) i y e = sifted_holds P s i y e

module _ {A : Type 0} (P R : A → Type 0) (whole : (x : A) → R x → P x) where
  abbrev Fails : A → Type 0
  Fails x = R x → ⊥

  all_fail : {xs ys : List A} → Sifted P xs ys → ((j : ℕ) (y : A) → slice_get ys j ≡ Some y → R y → ⊥) → All Fails xs
  all_fail none h = All-nil Fails
  all_fail (kept x xs ys g s) h = All-cons Fails x xs (h 0 x refl) (all_fail s (λ j y e. h (suc j) y e))
  all_fail (left_out x xs ys g s) h = All-cons Fails x xs (λ r. g (whole x r)) (all_fail s h)

  behind : (x y : A) (xs : List A) → Fails x → IsFirst R xs y → IsFirst R (x ∷ xs) y
  behind x y xs n f = record {
    before = x ∷ f.before;
    after = f.after;
    split = ap (λ z. x ∷ z) f.split;
    not_before = All-cons Fails x f.before n f.not_before;
    holds = f.holds;
  }

  first_there : {xs ys : List A} → Sifted P xs ys → (i : ℕ) (y : A) → slice_get ys i ≡ Some y → R y → ((j : ℕ) (z : A) → j < i → slice_get ys j ≡ Some z → R z → ⊥) → IsFirst R xs y
  first_there none i y e r h = cc
  first_there (kept x xs ys g s) zero y e r h =
      let same : x ≡ y = cc in
      record {
        before = [];
        after = xs;
        split = ap (λ z. z ∷ xs) same;
        not_before = All-nil Fails;
        holds = r;
      }
  first_there (kept x xs ys g s) (suc i) y e r h = behind x y xs (h 0 x (omega arith) refl) (first_there s i y e r (λ j z lt f. h (suc j) z (omega arith) f))
  first_there (left_out x xs ys g s) i y e r h = behind x y xs (λ q. g (whole x q)) (first_there s i y e r h)

  module _ (name : A → Name) (Q : Name → Type 0) (needs : (x : A) → R x → Q (name x)) where
    named_there : (ys : List A) (j : ℕ) (y : A) → slice_get ys j ≡ Some y → slice_get (map name ys) j ≡ Some (name y)
    named_there ys j y e = slice_get-map name ys j ∙ ap (option_map name) e

    pub none_least : {xs ys : List A} → Sifted P xs ys → IsLeastOf Q (map name ys) None → All Fails xs
    none_least {xs} {ys} s h = all_fail s (λ j y e r. h j (name y) (named_there ys j y e) (needs y r))

    pub first_least : {xs ys : List A} → Sifted P xs ys → (i : ℕ) (y : A) → IsLeastOf Q (map name ys) (Some i) → slice_get ys i ≡ Some y → R y → IsFirst R xs y
    first_least {xs} {ys} s i y h e r = first_there s i y e r (λ j z lt f q. h.3 j (name z) lt (named_there ys j z f) (needs z q))

-- what holds of the name at the least number
pub least_holds : {A : Type 0} (name : A → Name) (Q : Name → Type 0) (ys : List A) (i : ℕ) (y : A) → IsLeastOf Q (map name ys) (Some i) → slice_get ys i ≡ Some y → Q (name y)
least_holds name Q ys i y h e =
    let one : Some (name y) ≡ Some h.0 = sym (slice_get-map name ys i ∙ ap (option_map name) e) ∙ h.1 in
    let same : name y ≡ h.0 = cc in
    subst Q (sym same) h.2

pub least_within : {A : Type 0} (name : A → Name) (Q : Name → Type 0) (ys : List A) (i : ℕ) → IsLeastOf Q (map name ys) (Some i) → i < length ys
least_within name Q ys i h =
    let within : i < length (map name ys) = slice_get_within (map name ys) i h.0 h.1 in
    let long : length (map name ys) ≡ length ys = length-map ys name in
    omega arith

-- ---- the first of what is referred to

module _ {A : Type 0} (test : A → Bool) (xs : List (Bor A)) (i : ℕ) (x : Bor A) (within : i < length xs) (here : x ≡ get_or xs i x) where
  by_test : (b : Bool) → test x.now ≡ b → find test (all_now (drop i xs)) ≡ (if b then Some x.now else find test (all_now (drop (i + 1) xs)))
  by_test b e = ap (λ z. find test (all_now z)) (drop_there xs i x within here) ∙ ap (λ c. if c then Some x.now else find test (all_now (drop (i + 1) xs))) e

  pub found_here : test x.now ≡ true → find test (all_now (drop i xs)) ≡ Some x.now
  found_here e = by_test true e

  pub found_later : test x.now ≡ false → find test (all_now (drop i xs)) ≡ find test (all_now (drop (i + 1) xs))
  found_later e = by_test false e
