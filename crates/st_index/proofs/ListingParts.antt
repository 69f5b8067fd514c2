-- The first of each name in a list: its number, and what is found there.
use Rattle.std.proofs.Common.{◌≡◌, refl, sym, ap, ◌∙◌, subst, ℕ, zero, suc, ◌+◌, ◌≤◌, Bool, true, false, true≢false, cond, not, if◌then◌else◌, List, [], ◌∷◌, take, length, slice_get, Option, Some, None, arith, add-one, bytes_eq}
use Rattle.std.proofs.lemmas.Bool.{lt-ltb}
use Rattle.std.proofs.Math.Dec.{leb-suc-suc}
use Rattle.std.specs.Prelude.{nat_lt, position, find, is_some, MatchOption}
use Rattle.std.specs.Borrow.{Bor}
use Rattle.std.specs.List.{position_or_len}
use Rattle.std.specs.Option.{option_map}
use Rattle.st_il.specs.Names.{Name}
use Rattle.st_index.specs.Names.{at}
use Rattle.st_index.specs.Numbers.{IsFirstNamed}
use Rattle.st_index.specs.inner.Listings.{adding, AreNumbers}
use Rattle.st_index.proofs.InsertionLemmas.{same-equal}
use Rattle.st_index.proofs.PlaceParts.{take_whole}

-- ---- what is added under a name

pub add-found : (entries : List (Bor (List ℕ) × ℕ)) (name : Name) (number p : ℕ) → at entries name ≡ Some p → (q : Name) → at entries q ≡ adding (at entries q) (bytes_eq q name) number
add-found entries name number p found q = by (at entries q) (bytes_eq q name) refl refl
  where
    by : (o : Option ℕ) (b : Bool) → at entries q ≡ o → bytes_eq q name ≡ b → o ≡ adding o b number
    by (Some n) b e s = refl
    by None false e s = refl
    by None true e s = let f : Some p ≡ None = sym found ∙ ap (at entries) (sym (same-equal q name s)) ∙ e in cc

pub add-new : (entries new : List (Bor (List ℕ) × ℕ)) (name : Name) (number : ℕ) → at entries name ≡ None
    → ((q : Name) → at new q ≡ (if bytes_eq q name then Some number else at entries q)) → (q : Name) → at new q ≡ adding (at entries q) (bytes_eq q name) number
add-new entries new name number none put q = put q ∙ by (at entries q) (bytes_eq q name) refl refl
  where
    by : (o : Option ℕ) (b : Bool) → at entries q ≡ o → bytes_eq q name ≡ b → (if b then Some number else o) ≡ adding o b number
    by (Some n) true e s = let f : Some n ≡ None = sym e ∙ ap (at entries) (same-equal q name s) ∙ none in cc
    by (Some n) false e s = refl
    by None b e s = refl

-- ---- the first that passes a test

-- the number of the first one, member by member
position-cons : {A : Type 0} (test : A → Bool) (x : A) (xs : List A) → position test (x ∷ xs) ≡ (if test x then Some 0 else option_map suc (position test xs))
position-cons test x xs = by (test x)
  where
    counted : (c : Bool) (n : ℕ) → cond c (Some (suc n)) None ≡ option_map suc (cond c (Some n) None)
    counted true n = refl
    counted false n = refl

    by : (b : Bool) → cond (nat_lt (cond (not b) (1 + position_or_len test xs) 0) (suc (length xs))) (Some (cond (not b) (1 + position_or_len test xs) 0)) None
        ≡ (if b then Some 0 else option_map suc (cond (nat_lt (position_or_len test xs) (length xs)) (Some (position_or_len test xs)) None))
    by true = ap (λ c. cond c (Some 0) None) (lt-ltb 0 (suc (length xs)) (omega arith))
    by false =
        let more : 1 + position_or_len test xs ≡ suc (position_or_len test xs) = omega arith in
        ap (λ n. cond (nat_lt n (suc (length xs))) (Some n) None) more
        ∙ ap (λ c. cond c (Some (suc (position_or_len test xs))) None) (leb-suc-suc (suc (position_or_len test xs)) (length xs))
        ∙ counted (nat_lt (position_or_len test xs) (length xs)) (position_or_len test xs)

map-adding : (o : Option ℕ) (b : Bool) (k : ℕ) → option_map suc (adding o b k) ≡ adding (option_map suc o) b (suc k)
map-adding (Some p) b k = refl
map-adding None true k = refl
map-adding None false k = refl

position-next : {A : Type 0} (test : A → Bool) (xs : List A) (k : ℕ) (x : A) → slice_get xs k ≡ Some x → position test (take (suc k) xs) ≡ adding (position test (take k xs)) (test x) k
position-next test [] k x e = cc
position-next test (y ∷ ys) zero x e = let s : y ≡ x = cc in position-cons test y [] ∙ ap (λ z. if test z then Some 0 else None) s
position-next test (y ∷ ys) (suc k) x e =
    position-cons test y (take (suc k) ys) ∙ ap (λ o. if test y then Some 0 else option_map suc o) (position-next test ys k x e) ∙ by (test y)
    ∙ ap (λ o. adding o (test x) (suc k)) (sym (position-cons test y (take k ys)))
  where
    by : (b : Bool) → (if b then Some 0 else option_map suc (adding (position test (take k ys)) (test x) k)) ≡ adding (if b then Some 0 else option_map suc (position test (take k ys))) (test x) (suc k)
    by true = refl
    by false = map-adding (position test (take k ys)) (test x) k

-- what stands at the number of the first one, and that it is found
record First {A : Type 0} (test : A → Bool) (xs : List A) (number : ℕ) : Type 0 where
  pub one : A
  pub is : slice_get xs number ≡ Some one
  pub found : find test xs ≡ Some one
  pub passes : test one ≡ true

first-at : {A : Type 0} (test : A → Bool) (xs : List A) (number : ℕ) → position test xs ≡ Some number → First test xs number
first-at test [] number e = absurd (true≢false (sym (ap is_some e)))
first-at {A} test (x ∷ xs) number e = by (test x) (position test xs) refl refl (first-at test xs) (sym (position-cons test x xs) ∙ e)
  where
    by : (b : Bool) (o : Option ℕ) → test x ≡ b → position test xs ≡ o → ((p : ℕ) → position test xs ≡ Some p → First test xs p) → (if b then Some 0 else option_map suc o) ≡ Some number → First test (x ∷ xs) number
    by true o t f next h =
        let n : 0 ≡ number = cc in
        record { one = x; is = ap (slice_get (x ∷ xs)) (sym n); found = ap (λ c. cond c (Some x) (find test xs)) t; passes = t }
    by false None t f next h = absurd (true≢false (sym (ap is_some h)))
    by false (Some p) t f next h =
        let n : suc p ≡ number = cc in
        let r : First test xs p = next p f in
        record { one = r.one; is = ap (slice_get (x ∷ xs)) (sym n) ∙ r.is; found = ap (λ c. cond c (Some x) (find test xs)) t ∙ r.found; passes = r.passes }

first-none : {A : Type 0} (test : A → Bool) (xs : List A) → position test xs ≡ None → find test xs ≡ None
first-none test [] e = refl
first-none test (x ∷ xs) e = by (test x) (position test xs) refl refl (first-none test xs) (sym (position-cons test x xs) ∙ e)
  where
    by : (b : Bool) (o : Option ℕ) → test x ≡ b → position test xs ≡ o → (position test xs ≡ None → find test xs ≡ None) → (if b then Some 0 else option_map suc o) ≡ None → find test (x ∷ xs) ≡ None
    by true o t f next h = absurd (true≢false (ap is_some h))
    by false (Some p) t f next h = absurd (true≢false (ap is_some h))
    by false None t f next h = ap (λ c. cond c (Some x) (find test xs)) t ∙ next f

-- ---- the numbers of names

module _ {A : Type 0} (name_of : A → Name) where
  pub numbers-next : (xs : List A) (k : ℕ) (x : A) (name : Name) (entries new : List (Bor (List ℕ) × ℕ)) → slice_get xs k ≡ Some x → name ≡ name_of x → AreNumbers name_of (take k xs) entries
      → ((q : Name) → at new q ≡ adding (at entries q) (bytes_eq q name) k) → AreNumbers name_of (take (k + 1) xs) new
  numbers-next xs k x name entries new e n so_far added q =
      added q ∙ ap (λ o. adding o (bytes_eq q name) k) (so_far q) ∙ ap (λ z. adding (position (λ y. bytes_eq q (name_of y)) (take k xs)) (bytes_eq q z) k) n
      ∙ sym (position-next (λ y. bytes_eq q (name_of y)) xs k x e) ∙ ap (λ n. position (λ y. bytes_eq q (name_of y)) (take n xs)) (sym (add-one k))

  pub numbers-whole : (xs : List A) (k : ℕ) (entries : List (Bor (List ℕ) × ℕ)) → length xs ≤ k → AreNumbers name_of (take k xs) entries → AreNumbers name_of xs entries
  numbers-whole xs k entries h so_far = subst (λ ys. AreNumbers name_of ys entries) (take_whole xs k h) so_far

  pub is-first : (xs : List A) (name : Name) (number : ℕ) → position (λ x. bytes_eq name (name_of x)) xs ≡ Some number → IsFirstNamed name_of xs number name
  is-first xs name number e =
      let f : First (λ x. bytes_eq name (name_of x)) xs number = first-at (λ x. bytes_eq name (name_of x)) xs number e in
      record { declared = f.one; is = f.is; found = f.found; named = sym (same-equal name (name_of f.one) f.passes) }

  pub is-none : (xs : List A) (name : Name) → position (λ x. bytes_eq name (name_of x)) xs ≡ None → find (λ x. bytes_eq name (name_of x)) xs ≡ None
  is-none xs name e = first-none (λ x. bytes_eq name (name_of x)) xs e

  -- what is read at the number of the first one is what is found
  pub found-at : (xs : List A) (name : Name) (number : ℕ) (o : Option A) → position (λ x. bytes_eq name (name_of x)) xs ≡ Some number → o ≡ slice_get xs number → o ≡ find (λ x. bytes_eq name (name_of x)) xs
  found-at xs name number o e read =
      let f : First (λ x. bytes_eq name (name_of x)) xs number = first-at (λ x. bytes_eq name (name_of x)) xs number e in
      read ∙ f.is ∙ sym f.found

  pub first-or-none : (xs : List A) (name : Name) (o : Option ℕ) → o ≡ position (λ x. bytes_eq name (name_of x)) xs
      → MatchOption o (find (λ x. bytes_eq name (name_of x)) xs ≡ None) (λ number. IsFirstNamed name_of xs number name)
  first-or-none xs name None e = is-none xs name (sym e)
  first-or-none xs name (Some number) e = is-first xs name number (sym e)
