-- First occurrences, and what is known of the names so far.
use Rattle.std.proofs.Common.{◌≡◌, ℕ, ◌+◌, ◌≤◌, ◌<◌, List, [], ◌∷◌, ◌++◌, length, filter, map, drop, take, get_or, Bool, true, false, not, ◌||◌, ◌&&◌, refl, sym, ap, subst, ◌∙◌, append-nil, append_assoc, arith, eqb, if◌then◌else◌, Some, None, zero, suc}
use Rattle.std.specs.Prelude.{slice_get}
use Rattle.std.specs.Borrow.{Bor}
use Rattle.std.specs.Cmp.Lexicographic.{pointwise}
use Rattle.std.specs.List.{list_any}
use Rattle.std.proofs.lemmas.Grind.{common_steps}
use Rattle.std.proofs.lemmas.List.{map-append, length-map}
use Rattle.std.proofs.lemmas.List.Elements.{filter-append}
use Rattle.std.proofs.lemmas.List.Folds.{list_any-append}
use Rattle.std.proofs.lemmas.Slice.Eq.{bytes_eq-Decides}
use Rattle.indexmap.specs.IndexSet.{insert_key}
use Rattle.st_num.specs.declared.span.Span.{Span}
use Rattle.st_num.specs.declared.token.Token.{Token}
use Rattle.st_num.specs.Names.{same_name}
use Rattle.st_parse_builder.specs.Variables.{Occurrence, occurrence, occurrences}
use Rattle.st_parse_builder.specs.Limits.{first_of_each, place_past}
use Rattle.st_parse_builder.specs.inner.Counting.{spelled, Knows}
use Rattle.st_parse_builder.proofs.Lists.{next_taken, cut}

abbrev differs : Occurrence → Occurrence → Bool
differs first other = not (same_name other.0 first.0)

-- some occurrence has the name
abbrev occurs : List Occurrence → List ℕ → Bool
occurs before name = list_any (λ o. same_name name o.0) before

abbrev is_new : List Occurrence → Occurrence → Bool
is_new before o = not (occurs before o.0)

filter-all : {A : Type 0} (p : A → Bool) (xs : List A) → ((x : A) → p x ≡ true) → filter p xs ≡ xs
filter-all p [] h = refl
filter-all p (x ∷ xs) h =
    ap (λ b. if b then x ∷ filter p xs else filter p xs) (h x) ∙ ap (λ ys. x ∷ ys) (filter-all p xs h)

abbrev keeps : {A : Type 0} → Bool → A → List A → List A
keeps b x xs = if b then x ∷ xs else xs

kept_twice : {A : Type 0} (q : A → Bool) (x : A) (b c : Bool) (xs : List A) → q x ≡ c
    → filter q (keeps b x xs) ≡ keeps (c && b) x (filter q xs)
kept_twice q x true c xs e = ap (λ d. keeps d x (filter q xs)) (e ∙ sym (and-true c))
  where
    and-true : (d : Bool) → (d && true) ≡ d
    and-true true = refl
    and-true false = refl
kept_twice q x false true xs e = refl
kept_twice q x false false xs e = refl

filter-twice :
    {A : Type 0} (p q r : A → Bool) → ((x : A) → r x ≡ (q x && p x)) → (xs : List A)
    → filter q (filter p xs) ≡ filter r xs
filter-twice p q r h [] = refl
filter-twice p q r h (x ∷ xs) =
    kept_twice q x (p x) (q x) (filter p xs) refl
    ∙ ap (λ b. keeps b x (filter q (filter p xs))) (sym (h x))
    ∙ ap (λ ys. keeps (r x) x ys) (filter-twice p q r h xs)

not-or : (b c : Bool) → not (b || c) ≡ (not b && not c)
not-or true c = refl
not-or false c = refl

first-append : (xs ys : List Occurrence)
    → first_of_each (xs ++ ys) ≡ first_of_each xs ++ filter (is_new xs) (first_of_each ys)
first-append [] ys = sym (filter-all (is_new []) (first_of_each ys) (λ x. refl))
first-append (x ∷ xs) ys =
    ap (λ zs. x ∷ filter (differs x) zs) (first-append xs ys)
    ∙ ap (λ zs. x ∷ zs) (filter-append (differs x) (first_of_each xs) (filter (is_new xs) (first_of_each ys)))
    ∙ ap (λ zs. x ∷ filter (differs x) (first_of_each xs) ++ zs)
    (filter-twice (is_new xs) (differs x) (is_new (x ∷ xs))
    (λ y. not-or (same_name y.0 x.0) (occurs xs y.0)) (first_of_each ys))

-- ---- one more occurrence

same_is : (name other : List ℕ) → same_name name other ≡ true → name ≡ other
same_is name other h = (bytes_eq-Decides name other).0 h

occurs-more : (before : List Occurrence) (o : Occurrence) (name : List ℕ)
    → occurs (before ++ o ∷ []) name ≡ (occurs before name || (same_name name o.0 || false))
occurs-more before o name = list_any-append (λ (p : Occurrence). same_name name p.0) before (o ∷ [])

or-absorbs : (b c : Bool) → (c ≡ true → b ≡ true) → b ≡ (b || (c || false))
or-absorbs true c h = refl
or-absorbs false true h = h refl
or-absorbs false false h = refl

-- a name that is known already
knows_again : (limit : ℕ) (before : List Occurrence) (names : List (List ℕ)) (o : Occurrence)
    → list_any (λ known. same_name o.0 known) names ≡ true
    → Knows limit before names → Knows limit (before ++ o ∷ []) names
knows_again limit before names o known k = record {
  same = λ name. k.same name
      ∙ or-absorbs (occurs before name) (same_name name o.0)
      (λ h. ap (occurs before) (same_is name o.0 h) ∙ seen)
      ∙ sym (occurs-more before o name);
  counted = k.counted ∙ ap length (sym firsts);
  within = k.within;
}
  where
    seen : occurs before o.0 ≡ true
    seen = sym (k.same o.0) ∙ known

    firsts : first_of_each (before ++ o ∷ []) ≡ first_of_each before
    firsts = first-append before (o ∷ [])
        ∙ ap (λ b. first_of_each before ++ (if not b then o ∷ [] else [])) seen
        ∙ append-nil (first_of_each before)

longer : {A : Type 0} (xs : List A) (x : A) → length (xs ++ x ∷ []) ≡ length xs + 1
longer xs x = grind (arith, common_steps)

-- a name that is new
knows_more : (limit : ℕ) (before : List Occurrence) (names : List (List ℕ)) (o : Occurrence)
    → list_any (λ known. same_name o.0 known) names ≡ false → length names + 1 ≤ limit
    → Knows limit before names → Knows limit (before ++ o ∷ []) (names ++ o.0 ∷ [])
knows_more limit before names o new room k = record {
  same = λ name. list_any-append (λ known. same_name name known) names (o.0 ∷ [])
      ∙ ap (λ b. b || (same_name name o.0 || false)) (k.same name)
      ∙ sym (occurs-more before o name);
  counted = longer names o.0 ∙ ap (λ n. n + 1) k.counted
      ∙ sym (longer (first_of_each before) o) ∙ ap length (sym firsts);
  within = subst (λ n. n ≤ limit) (sym (longer names o.0)) room;
}
  where
    unseen : occurs before o.0 ≡ false
    unseen = sym (k.same o.0) ∙ new

    firsts : first_of_each (before ++ o ∷ []) ≡ first_of_each before ++ o ∷ []
    firsts = first-append before (o ∷ [])
        ∙ ap (λ b. first_of_each before ++ (if not b then o ∷ [] else [])) unseen

abbrev place : Occurrence → Span
place o = o.1

-- the element that stands there
place_there : (xs : List Occurrence) (o : Occurrence) (ys : List Occurrence) → slice_get (map place (xs ++ o ∷ ys)) (length xs) ≡ Some o.1
place_there [] o ys = refl
place_there (x ∷ xs) o ys = place_there xs o ys

-- a new name where as many are known already
past_known : (limit : ℕ) (before behind : List Occurrence) (names : List (List ℕ)) (o : Occurrence)
    → list_any (λ known. same_name o.0 known) names ≡ false → limit ≤ length names
    → Knows limit before names
    → place_past limit ((before ++ o ∷ []) ++ behind) ≡ Some o.1
past_known limit before behind names o new full k =
    ap (place_past limit) (append_assoc before (o ∷ []) behind)
    ∙ ap (λ os. slice_get (map place os) limit) firsts
    ∙ ap (slice_get (map place (first_of_each before ++ o ∷ rest))) (sym is)
    ∙ place_there (first_of_each before) o rest
  where
    unseen : occurs before o.0 ≡ false
    unseen = sym (k.same o.0) ∙ new

    rest : List Occurrence
    rest = filter (is_new before) (filter (differs o) (first_of_each behind))

    is : length (first_of_each before) ≡ limit
    is = omega (arith, k.counted, k.within, full)

    firsts : first_of_each (before ++ o ∷ behind) ≡ first_of_each before ++ o ∷ rest
    firsts = first-append before (o ∷ behind)
        ∙ ap (λ b. first_of_each before ++ (if not b then o ∷ rest else rest)) unseen

-- ---- a name that is taken down

any-map : {A B : Type 0} (f : A → B) (test : B → Bool) (xs : List A) → list_any (λ x. test (f x)) xs ≡ list_any test (map f xs)
any-map f test [] = refl
any-map f test (x ∷ xs) = ap (λ b. test (f x) || b) (any-map f test xs)

-- these names with one more, where it is new
abbrev with_name : List (List ℕ) → List ℕ → List (List ℕ)
with_name names name = if list_any (λ known. same_name name known) names then names else names ++ name ∷ []

-- what `insert` leaves of the names
pub spelled_insert : (keys new : List (Bor (List ℕ))) (key : Bor (List ℕ)) (name : List ℕ) → new ≡ insert_key (λ x y. pointwise eqb x.now y.now) keys key
    → key.now ≡ name → spelled new ≡ with_name (spelled keys) name
spelled_insert keys new key name n same = ap spelled n ∙ by (list_any (λ x. same_name key.now x.now) keys) refl ∙ ap (with_name (spelled keys)) same
  where
    by : (b : Bool) → list_any (λ (x : Bor (List ℕ)). same_name key.now x.now) keys ≡ b
        → spelled (insert_key (λ x y. pointwise eqb x.now y.now) keys key) ≡ with_name (spelled keys) key.now
    by true e =
        ap (λ c. spelled (if c then keys else keys ++ key ∷ [])) e
        ∙ ap (λ c. if c then spelled keys else spelled keys ++ key.now ∷ []) (sym (sym (any-map (λ (x : Bor (List ℕ)). x.now) (λ known. same_name key.now known) keys) ∙ e))
    by false e =
        ap (λ c. spelled (if c then keys else keys ++ key ∷ [])) e
        ∙ map-append (λ (x : Bor (List ℕ)). x.now) keys (key ∷ [])
        ∙ ap (λ c. if c then spelled keys else spelled keys ++ key.now ∷ []) (sym (sym (any-map (λ (x : Bor (List ℕ)). x.now) (λ known. same_name key.now known) keys) ∙ e))

-- with it there are no more names than the limit allows
pub knows_next : (limit : ℕ) (before : List Occurrence) (names new : List (List ℕ)) (o : Occurrence)
    → new ≡ with_name names o.0 → length new ≤ limit
    → Knows limit before names → Knows limit (before ++ o ∷ []) new
knows_next limit before names new o n fits k = by (list_any (λ known. same_name o.0 known) names) refl
  where
    is : (b : Bool) → list_any (λ known. same_name o.0 known) names ≡ b → new ≡ (if b then names else names ++ o.0 ∷ [])
    is b e = n ∙ ap (λ c. if c then names else names ++ o.0 ∷ []) e

    by : (b : Bool) → list_any (λ known. same_name o.0 known) names ≡ b → Knows limit (before ++ o ∷ []) new
    by true e = subst (Knows limit (before ++ o ∷ [])) (sym (is true e)) (knows_again limit before names o e k)
    by false e =
        subst (Knows limit (before ++ o ∷ [])) (sym (is false e))
        (knows_more limit before names o e (subst (λ m. m ≤ limit) (ap length (is false e) ∙ longer names o.0) fits) k)

-- with it there are more
pub next_past : (limit : ℕ) (before behind : List Occurrence) (names new : List (List ℕ)) (o : Occurrence)
    → new ≡ with_name names o.0 → limit < length new
    → Knows limit before names → place_past limit ((before ++ o ∷ []) ++ behind) ≡ Some o.1
next_past limit before behind names new o n full k = by (list_any (λ known. same_name o.0 known) names) refl
  where
    is : (b : Bool) → list_any (λ known. same_name o.0 known) names ≡ b → limit < length (if b then names else names ++ o.0 ∷ [])
    is b e = subst (λ ns. limit < length ns) (n ∙ ap (λ c. if c then names else names ++ o.0 ∷ []) e) full

    by : (b : Bool) → list_any (λ known. same_name o.0 known) names ≡ b → place_past limit ((before ++ o ∷ []) ++ behind) ≡ Some o.1
    by true e = absurd (omega (arith, is true e, k.within))
    by false e = past_known limit before behind names o e (omega (arith, is false e, longer names o.0)) k

-- ---- all occurrences

-- nothing stands past the end
past_end : (xs : List Occurrence) (n : ℕ) → length xs ≤ n → slice_get (map place xs) n ≡ None
past_end [] n h = refl
past_end (x ∷ xs) zero h = absurd (omega (arith, h))
past_end (x ∷ xs) (suc n) h = past_end xs n (omega (arith, h))

-- the limit is kept
pub none_past : (limit : ℕ) (seen : List Occurrence) (names : List (List ℕ))
    → Knows limit seen names → place_past limit seen ≡ None
none_past limit seen names k = past_end (first_of_each seen) limit (omega (arith, k.counted, k.within))

fewer-filter : {A : Type 0} (p : A → Bool) (xs : List A) → length (filter p xs) ≤ length xs
fewer-filter p [] = omega arith
fewer-filter p (x ∷ xs) = by (p x) (fewer-filter p xs)
  where
    by : (b : Bool) → length (filter p xs) ≤ length xs → length (if b then x ∷ filter p xs else filter p xs) ≤ length (x ∷ xs)
    by true fewer = omega (arith, fewer)
    by false fewer = omega (arith, fewer)

fewer_firsts : (os : List Occurrence) → length (first_of_each os) ≤ length os
fewer_firsts [] = omega arith
fewer_firsts (o ∷ os) = omega (arith, fewer-filter (differs o) (first_of_each os), fewer_firsts os)

-- so few occurrences have no more names than the limit allows
pub few_past : (limit : ℕ) (tokens : List Token) → length tokens ≤ limit → place_past limit (occurrences tokens) ≡ None
few_past limit tokens h =
    past_end (first_of_each (occurrences tokens)) limit
    (omega (arith, h, fewer_firsts (occurrences tokens), length-map tokens occurrence))

-- the occurrences of some tokens, of the next one, and of those behind it
pub next_seen : (tokens : List Token) (i : ℕ) (x : Token) → i < length tokens → x ≡ get_or tokens i x
    → occurrences (take (i + 1) tokens) ≡ occurrences (take i tokens) ++ occurrence x ∷ []
next_seen tokens i x h is =
    ap occurrences (next_taken tokens i x h is) ∙ map-append occurrence (take i tokens) (x ∷ [])

pub all_seen : (tokens : List Token) (i : ℕ) (x : Token) → i < length tokens → x ≡ get_or tokens i x
    → occurrences tokens ≡ (occurrences (take i tokens) ++ occurrence x ∷ []) ++ occurrences (drop (i + 1) tokens)
all_seen tokens i x h is =
    ap occurrences (cut tokens i x h is) ∙ map-append occurrence (take i tokens) (x ∷ drop (i + 1) tokens)
    ∙ sym (append_assoc (occurrences (take i tokens)) (occurrence x ∷ []) (occurrences (drop (i + 1) tokens)))
