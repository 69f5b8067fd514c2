-- Names in sets and under which things stand, after one is added.
use Rattle.std.proofs.Common.{◌≡◌, refl, sym, ap, ◌∙◌, ℕ, Bool, true, false, true≢false, eqb, bytes_eq, ◌||◌, if◌then◌else◌, Some, List, [], ◌∷◌, ◌++◌}
use Rattle.std.specs.Borrow.{Bor}
use Rattle.std.specs.Cmp.Lexicographic.{pointwise}
use Rattle.std.specs.List.{list_any}
use Rattle.std.proofs.lemmas.List.Folds.{list_any-append}
use Rattle.std.proofs.lemmas.Slice.Eq.{bytes_eq-Decides}
use Rattle.indexmap.specs.IndexMap.{insert_entry}
use Rattle.indexmap.specs.IndexSet.{insert_key}
use Rattle.st_index.specs.Names.{at}

-- ---- the same name

pub same-equal : (p q : List ℕ) → bytes_eq p q ≡ true → p ≡ q
same-equal p q h = (bytes_eq-Decides p q).0 h

-- ---- tests of lists

or-absorbed : (a b : Bool) → (b ≡ true → a ≡ true) → a ≡ (a || b)
or-absorbed true b h = refl
or-absorbed false true h = h refl
or-absorbed false false h = refl

or-last : (a b : Bool) → (a || (b || false)) ≡ (a || b)
or-last true b = refl
or-last false true = refl
or-last false false = refl

-- a test that finds one more
pub any-more : {A : Type 0} (test : A → Bool) (xs : List A) (x : A) → list_any test (xs ++ x ∷ []) ≡ (list_any test xs || test x)
any-more test xs x = list_any-append test xs (x ∷ []) ∙ or-last (list_any test xs) (test x)

-- a test finds what another one finds, where each that passes the other passes it
pub any-implied : {A : Type 0} (one other : A → Bool) (xs : List A) → ((x : A) → one x ≡ true → other x ≡ true) → list_any one xs ≡ true → list_any other xs ≡ true
any-implied one other [] h k = k
any-implied one other (x ∷ xs) h k = by (one x) (other x) refl refl (any-implied one other xs h)
  where
    by : (a b : Bool) → one x ≡ a → other x ≡ b → (list_any one xs ≡ true → list_any other xs ≡ true) → (other x || list_any other xs) ≡ true
    by true b is_a is_b more = ap (λ c. c || list_any other xs) (h x is_a)
    by false true is_a is_b more = ap (λ c. c || list_any other xs) is_b
    by false false is_a is_b more =
        ap (λ c. c || list_any other xs) is_b ∙ more (sym (ap (λ c. c || list_any one xs) is_a) ∙ k)

-- what `insert` leaves of a set, by a test that passes what is equal to what passes
pub any-insert : {A : Type 0} (eq : A → A → Bool) (test : A → Bool) (keys new : List A) (x : A)
    → ((y : A) → eq x y ≡ true → test x ≡ true → test y ≡ true)
    → new ≡ insert_key eq keys x → list_any test new ≡ (list_any test keys || test x)
any-insert eq test keys new x keeps n = by (list_any (eq x) keys) refl
  where
    by : (b : Bool) → list_any (eq x) keys ≡ b → list_any test new ≡ (list_any test keys || test x)
    by true e =
        ap (list_any test) (n ∙ ap (λ c. if c then keys else keys ++ x ∷ []) e)
        ∙ or-absorbed (list_any test keys) (test x) (λ h. any-implied (eq x) test keys (λ y k. keeps y k h) e)
    by false e =
        ap (list_any test) (n ∙ ap (λ c. if c then keys else keys ++ x ∷ []) e) ∙ any-more test keys x

-- ---- things under names

if-same : {A : Type 0} (b : Bool) (x y z : A) → (if b then x else (if b then y else z)) ≡ (if b then x else z)
if-same true x y z = refl
if-same false x y z = refl

if-apart : {A : Type 0} (a b : Bool) (x y z : A) → (a ≡ true → b ≡ true → ⊥) → (if a then x else (if b then y else z)) ≡ (if b then y else (if a then x else z))
if-apart true true x y z h = absurd (h refl refl)
if-apart true false x y z h = refl
if-apart false b x y z h = refl

module _ {A : Type 0} (name : Bor (List ℕ)) (value : A) (q : List ℕ) where
  abbrev put_in : List (Bor (List ℕ) × A) → List (Bor (List ℕ) × A)
  put_in es = insert_entry (λ x y. pointwise eqb x.now y.now) es name value

  inserted-by : (e : Bor (List ℕ) × A) (es : List (Bor (List ℕ) × A)) (b : Bool) → pointwise eqb name.now e.0.now ≡ b
      → at (put_in es) q ≡ (if bytes_eq q name.now then Some value else at es q)
      → at (put_in (e ∷ es)) q ≡ (if bytes_eq q name.now then Some value else at (e ∷ es) q)
  inserted-by e es true h more =
      ap (λ c. at (if c then (e.0, value) ∷ es else e ∷ put_in es) q) h
      ∙ sym (if-same (bytes_eq q e.0.now) (Some value) (Some e.1) (at es q))
      ∙ ap (λ p. if bytes_eq q p then Some value else at (e ∷ es) q) (sym (same-equal name.now e.0.now h))
  inserted-by e es false h more =
      ap (λ c. at (if c then (e.0, value) ∷ es else e ∷ put_in es) q) h
      ∙ ap (λ o. if bytes_eq q e.0.now then Some e.1 else o) more
      ∙ if-apart (bytes_eq q e.0.now) (bytes_eq q name.now) (Some e.1) (Some value) (at es q)
      (λ one other. true≢false (sym (ap (λ p. pointwise eqb p e.0.now) (sym (same-equal q name.now other)) ∙ one) ∙ h))

  inserted : (es : List (Bor (List ℕ) × A)) → at (put_in es) q ≡ (if bytes_eq q name.now then Some value else at es q)
  inserted [] = refl
  inserted (e ∷ es) = inserted-by e es (pointwise eqb name.now e.0.now) refl (inserted es)

pub under-insert : {A : Type 0} (entries new : List (Bor (List ℕ) × A)) (name : Bor (List ℕ)) (value : A)
    → new ≡ insert_entry (λ x y. pointwise eqb x.now y.now) entries name value
    → (q : List ℕ) → at new q ≡ (if bytes_eq q name.now then Some value else at entries q)
under-insert entries new name value n q = ap (λ es. at es q) n ∙ inserted name value q entries
