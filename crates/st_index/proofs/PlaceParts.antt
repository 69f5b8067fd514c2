-- Where a thing stands in a list, and what stands there.
use Rattle.std.proofs.Common.{◌≡◌, refl, sym, ap, ◌∙◌, ℕ, zero, suc, ◌+◌, ◌<◌, ◌≤◌, false, true≢false, List, [], ◌∷◌, ◌++◌, append_assoc, append-nil, take, drop, length, get_or, map, slice_get, Option, Some, None, arith, add-one}
use Rattle.std.specs.Prelude.{option_and_then, is_some}
use Rattle.std.specs.Borrow.{Bor}
use Rattle.std.specs.Option.{option_map, option_copied}
use Rattle.st_index.specs.Names.{all_now}

pub all_now_append : {A : Type 0} (xs ys : List (Bor A)) → all_now (xs ++ ys) ≡ all_now xs ++ all_now ys
all_now_append [] ys = refl
all_now_append (x ∷ xs) ys = ap (λ z. x.now ∷ z) (all_now_append xs ys)

-- ---- one place

drop_read : {A : Type 0} (xs : List A) (i : ℕ) (x : A) → i < length xs → x ≡ get_or xs i x → drop i xs ≡ x ∷ drop (suc i) xs
drop_read [] i x h e = absurd (omega arith)
drop_read (y ∷ ys) zero x h e = ap (λ z. z ∷ ys) (sym e)
drop_read (y ∷ ys) (suc i) x h e = drop_read ys i x (omega arith) e

-- what stands from a place on, where this is read there
pub drop_there : {A : Type 0} (xs : List A) (i : ℕ) (x : A) → i < length xs → x ≡ get_or xs i x → drop i xs ≡ x ∷ drop (i + 1) xs
drop_there xs i x h e = drop_read xs i x h e ∙ ap (λ n. x ∷ drop n xs) (sym (add-one i))

pub drop_all : {A : Type 0} (xs : List A) (i : ℕ) → length xs ≤ i → drop i xs ≡ []
drop_all [] zero h = refl
drop_all [] (suc i) h = refl
drop_all (x ∷ xs) zero h = absurd (omega (arith, h))
drop_all (x ∷ xs) (suc i) h = drop_all xs i (omega (arith, h))

pub take_whole : {A : Type 0} (xs : List A) (i : ℕ) → length xs ≤ i → take i xs ≡ xs
take_whole [] zero h = refl
take_whole [] (suc i) h = refl
take_whole (x ∷ xs) zero h = absurd (omega (arith, h))
take_whole (x ∷ xs) (suc i) h = ap (λ ys. x ∷ ys) (take_whole xs i (omega (arith, h)))

-- what is read at a place, where references stand
pub now_at : {A : Type 0} (xs : List (Bor A)) (i : ℕ) (x : Bor A) → i < length xs → x ≡ get_or xs i x → slice_get (all_now xs) i ≡ Some x.now
now_at [] i x h e = absurd (omega (arith, h))
now_at (y ∷ ys) zero x h e = ap (λ z. Some z.now) (sym e)
now_at (y ∷ ys) (suc i) x h e = now_at ys i x (omega (arith, h)) e

pub length_now : {A : Type 0} (xs : List (Bor A)) → length (all_now xs) ≡ length xs
length_now [] = refl
length_now (x ∷ xs) = ap suc (length_now xs)

-- the reference at a place, and what it refers to
pub get_now : {A : Type 0} (xs : List (Bor A)) (i : ℕ) → slice_get (all_now xs) i ≡ option_map (λ (r : Bor A). r.now) (slice_get xs i)
get_now [] i = refl
get_now (x ∷ xs) zero = refl
get_now (x ∷ xs) (suc i) = get_now xs i

pub get_second : {A B : Type 0} (xs : List (A × B)) (i : ℕ) → slice_get (map (λ (x : A × B). x.1) xs) i ≡ option_map (λ (x : A × B). x.1) (slice_get xs i)
get_second [] i = refl
get_second (x ∷ xs) zero = refl
get_second (x ∷ xs) (suc i) = get_second xs i

pub copied_now : {A : Type 0} (o : Option (Bor A)) → option_copied o ≡ option_map (λ (r : Bor A). r.now) o
copied_now None = refl
copied_now (Some r) = refl

-- ---- lists, member by member

-- the next member comes after those before it
pub following : {A B : Type 0} (f : List A → List B) → ((x : A) (xs : List A) → f (x ∷ xs) ≡ f (x ∷ []) ++ f xs) → (xs : List A) (i : ℕ) (x : A) (now new whole : List B)
    → i < length xs → x ≡ get_or xs i x → now ++ f (drop i xs) ≡ whole → new ≡ now ++ f (x ∷ []) → new ++ f (drop (i + 1) xs) ≡ whole
following f head xs i x now new whole h e inv n =
    ap (λ z. z ++ f (drop (i + 1) xs)) n ∙ append_assoc now (f (x ∷ [])) (f (drop (i + 1) xs)) ∙ ap (λ z. now ++ z) (sym (head x (drop (i + 1) xs)))
    ∙ ap (λ z. now ++ f z) (sym (drop_there xs i x h e)) ∙ inv

-- all were added
pub ended : {A B : Type 0} (f : List A → List B) → f [] ≡ [] → (xs : List A) (i : ℕ) (now whole : List B) → length xs ≤ i → now ++ f (drop i xs) ≡ whole → now ≡ whole
ended f none xs i now whole h inv = sym (append-nil now) ∙ ap (λ z. now ++ z) (sym (ap f (drop_all xs i h) ∙ none)) ∙ inv

-- ---- what stands at the place of a key

module _ {A : Type 0} (entries : List (Bor (List ℕ) × A)) (found : Option A) where
  -- what is read at the place that there is, or nothing where there is none
  pub placed : (place : Option ℕ) → is_some place ≡ is_some found → ((i : ℕ) → place ≡ Some i → slice_get (map (λ (e : Bor (List ℕ) × A). e.1) entries) i ≡ found)
      → option_and_then (slice_get (map (λ (e : Bor (List ℕ) × A). e.1) entries)) place ≡ found
  placed None h read = by found h
    where
      by : (o : Option A) → false ≡ is_some o → None ≡ o
      by None h = refl
      by (Some x) h = absurd (true≢false (sym h))
  placed (Some i) h read = read i refl

-- the reference that is read at a place, where the references are to these
pub read_now : {A : Type 0} (refs : List (Bor A)) (xs : List A) (i : ℕ) (found : Option (Bor A)) → found ≡ slice_get refs i → all_now refs ≡ xs → option_copied found ≡ slice_get xs i
read_now refs xs i found is all = copied_now found ∙ ap (option_map (λ r. r.now)) is ∙ sym (get_now refs i) ∙ ap (λ ys. slice_get ys i) all
