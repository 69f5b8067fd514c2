-- What a name more adds to an index of names.
use Rattle.std.proofs.Common.{◌≡◌, ℕ, ◌+◌, ◌<◌, List, [], ◌∷◌, ◌++◌, length, take, get_or, Bool, true, false, true≢false, eqb, nat_eq, ◌||◌, ◌&&◌, if◌then◌else◌, refl, sym, ap, subst, ◌∙◌, arith}
use Rattle.std.specs.Borrow.{Bor}
use Rattle.std.specs.Cmp.Lexicographic.{pointwise}
use Rattle.std.specs.List.{list_any}
use Rattle.std.proofs.lemmas.List.{take_more}
use Rattle.std.proofs.lemmas.List.Folds.{list_any-append}
use Rattle.std.proofs.lemmas.Slice.Eq.{bytes_eq-Decides}
use Rattle.indexmap.specs.IndexSet.{insert_key}
use Rattle.st_num.specs.Names.{same_name, is_among}
use Rattle.st_parse_automaton.specs.inner.NameIndexes.{has_key, has_length, IsIndex}

same-equal : (p q : List ℕ) → same_name p q ≡ true → p ≡ q
same-equal p q h = (bytes_eq-Decides p q).0 h

-- ---- tests of lists

or_absorbed : (a b : Bool) → (b ≡ true → a ≡ true) → a ≡ (a || b)
or_absorbed true b h = refl
or_absorbed false true h = h refl
or_absorbed false false h = refl

or_last : (a b : Bool) → (a || (b || false)) ≡ (a || b)
or_last true b = refl
or_last false true = refl
or_last false false = refl

-- a test that finds one more
any_more : {A : Type 0} (test : A → Bool) (xs : List A) (x : A) → list_any test (xs ++ x ∷ []) ≡ (list_any test xs || test x)
any_more test xs x = list_any-append test xs (x ∷ []) ∙ or_last (list_any test xs) (test x)

-- a test finds what another one finds, where each that passes the other passes it
any_implied : {A : Type 0} (one other : A → Bool) (xs : List A) → ((x : A) → one x ≡ true → other x ≡ true) → list_any one xs ≡ true → list_any other xs ≡ true
any_implied one other [] h k = k
any_implied one other (x ∷ xs) h k = by (one x) (other x) refl refl (any_implied one other xs h)
  where
    by : (a b : Bool) → one x ≡ a → other x ≡ b → (list_any one xs ≡ true → list_any other xs ≡ true) → (other x || list_any other xs) ≡ true
    by true b is_a is_b more = ap (λ c. c || list_any other xs) (h x is_a)
    by false true is_a is_b more = ap (λ c. c || list_any other xs) is_b
    by false false is_a is_b more =
        ap (λ c. c || list_any other xs) is_b ∙ more (sym (ap (λ c. c || list_any one xs) is_a) ∙ k)

-- what `insert` leaves of a set, by a test that passes what is equal to what passes
any_insert : {A : Type 0} (eq : A → A → Bool) (test : A → Bool) (keys new : List A) (x : A)
    → ((y : A) → eq x y ≡ true → test x ≡ true → test y ≡ true)
    → new ≡ insert_key eq keys x → list_any test new ≡ (list_any test keys || test x)
any_insert eq test keys new x keeps n = by (list_any (eq x) keys) refl
  where
    by : (b : Bool) → list_any (eq x) keys ≡ b → list_any test new ≡ (list_any test keys || test x)
    by true e =
        ap (list_any test) (n ∙ ap (λ c. if c then keys else keys ++ x ∷ []) e)
        ∙ or_absorbed (list_any test keys) (test x) (λ h. any_implied (eq x) test keys (λ y k. keeps y k h) e)
    by false e =
        ap (list_any test) (n ∙ ap (λ c. if c then keys else keys ++ x ∷ []) e) ∙ any_more test keys x

-- ---- the names

among_more : (names : List (List ℕ)) (i : ℕ) (x name : List ℕ) → i < length names → x ≡ get_or names i x
    → is_among name (take (i + 1) names) ≡ (is_among name (take i names) || same_name name x)
among_more names i x name h at =
    ap (is_among name) (take_more names i x h ∙ ap (λ y. take i names ++ y ∷ []) (sym at))
    ∙ any_more (same_name name) (take i names) x

key_insert : (keys new : List (Bor (List ℕ))) (key : Bor (List ℕ)) → new ≡ insert_key (λ x y. pointwise eqb x.now y.now) keys key
    → (name : List ℕ) → has_key new name ≡ (has_key keys name || same_name name key.now)
key_insert keys new key n name =
    any_insert (λ x y. pointwise eqb x.now y.now) (λ (other : Bor (List ℕ)). same_name name other.now) keys new key
    (λ y same passes. subst (λ p. same_name name p ≡ true) (same-equal key.now y.now same) passes) n

-- the keys with the next name
pub key_added : (names : List (List ℕ)) (i : ℕ) (x : List ℕ) (keys new : List (Bor (List ℕ))) (key : Bor (List ℕ))
    → i < length names → x ≡ get_or names i x → key.now ≡ x → new ≡ insert_key (λ x y. pointwise eqb x.now y.now) keys key
    → ((name : List ℕ) → has_key keys name ≡ is_among name (take i names))
    → (name : List ℕ) → has_key new name ≡ is_among name (take (i + 1) names)
key_added names i x keys new key h at same n before name =
    key_insert keys new key n name
    ∙ ap (λ b. b || same_name name key.now) (before name)
    ∙ ap (λ y. is_among name (take i names) || same_name name y) same
    ∙ sym (among_more names i x name h at)

equal_is : (a b : ℕ) → nat_eq a b ≡ true → a ≡ b
equal_is a b h = grind arith

equal_self : (a : ℕ) → nat_eq a a ≡ true
equal_self a = grind arith

length_insert : (lengths new : List ℕ) (n : ℕ) → new ≡ insert_key nat_eq lengths n
    → (m : ℕ) → has_length new m ≡ (has_length lengths m || nat_eq m n)
length_insert lengths new n e m =
    any_insert nat_eq (nat_eq m) lengths new n
    (λ y same passes. subst (λ p. nat_eq m p ≡ true) (equal_is n y same) passes) e

either : (a b c : Bool) → (a || b) ≡ true → (a ≡ true → c ≡ true) → (b ≡ true → c ≡ true) → c ≡ true
either true b c h one other = one refl
either false b c h one other = other h

or_left : (a b : Bool) → a ≡ true → (a || b) ≡ true
or_left a b h = ap (λ c. c || b) h

or_right : (a b : Bool) → b ≡ true → (a || b) ≡ true
or_right true b h = refl
or_right false b h = h

-- the lengths with that of the next name
pub length_added : (names : List (List ℕ)) (i : ℕ) (x : List ℕ) (lengths new : List ℕ) (n : ℕ)
    → i < length names → x ≡ get_or names i x → n ≡ length x → new ≡ insert_key nat_eq lengths n
    → ((name : List ℕ) → is_among name (take i names) ≡ true → has_length lengths (length name) ≡ true)
    → (name : List ℕ) → is_among name (take (i + 1) names) ≡ true → has_length new (length name) ≡ true
length_added names i x lengths new n h at same e before name is_in =
    length_insert lengths new n e (length name)
    ∙ either (is_among name (take i names)) (same_name name x) (has_length lengths (length name) || nat_eq (length name) n)
    (sym (among_more names i x name h at) ∙ is_in)
    (λ k. or_left (has_length lengths (length name)) (nat_eq (length name) n) (before name k))
    (λ k. or_right (has_length lengths (length name)) (nat_eq (length name) n)
    (ap (λ y. nat_eq (length y) n) (same-equal name x k) ∙ ap (λ m. nat_eq (length x) m) same ∙ equal_self (length x)))

-- ---- a name that is looked up

-- a name whose length none of them has is none of them
pub found_by : (names : List (List ℕ)) (lengths : List ℕ) (keys : List (Bor (List ℕ))) (name : List ℕ) → IsIndex names lengths keys
    → (has_length lengths (length name) && has_key keys name) ≡ is_among name names
found_by names lengths keys name index = by (has_length lengths (length name)) (is_among name names) refl refl
  where
    by : (a b : Bool) → has_length lengths (length name) ≡ a → is_among name names ≡ b → (has_length lengths (length name) && has_key keys name) ≡ is_among name names
    by true b p q = ap (λ c. c && has_key keys name) p ∙ index.found name
    by false true p q = absurd (true≢false (sym (index.measured name q) ∙ p))
    by false false p q = ap (λ c. c && has_key keys name) p ∙ sym q
