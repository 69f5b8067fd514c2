-- How far loops over lists have come.
use Rattle.std.proofs.Common.{◌≡◌, ℕ, ◌+◌, ◌<◌, ◌≤◌, List, [], ◌∷◌, ◌++◌, length, flat_map, Bool, get_or, take, drop, map, Option, Some, ap, sym, ◌∙◌, arith}
use Rattle.std.specs.Option.{option_to_list}
use Rattle.std.specs.List.{filter}
use Rattle.std.proofs.lemmas.Grind.{common_steps, flat_map-append}
use Rattle.std.proofs.lemmas.List.Elements.{filter-append}
use Rattle.std.proofs.lemmas.List.{take_more, map-append}

pub next_taken :
    {A : Type 0} (xs : List A) (i : ℕ) (x : A) → i < length xs → x ≡ get_or xs i x → take (i + 1) xs ≡ take i xs ++ x ∷ []
next_taken xs i x h is = take_more xs i x h ∙ ap (λ y. take i xs ++ y ∷ []) (sym is)

pub all_taken : {A : Type 0} (xs : List A) (i : ℕ) → length xs ≤ i → take i xs ≡ xs
all_taken xs i h = grind (arith, common_steps)

-- a list by what was taken, the next item and what is left
pub cut :
    {A : Type 0} (xs : List A) (i : ℕ) (x : A) → i < length xs → x ≡ get_or xs i x → xs ≡ take i xs ++ x ∷ drop (i + 1) xs
cut xs i x h is = grind (arith, common_steps, is)

-- ---- what passes a test, of what items stand for

abbrev pub passing : {A B C : Type 0} → (A → List B) → (B → Bool) → (B → C) → List A → List C
passing parts test place items = map place (filter test (flat_map parts items))

passing-append :
    {A B C : Type 0} (parts : A → List B) (test : B → Bool) (place : B → C) (xs ys : List A)
    → passing parts test place (xs ++ ys) ≡ passing parts test place xs ++ passing parts test place ys
passing-append parts test place xs ys =
    ap (λ zs. map place (filter test zs)) (flat_map-append parts xs ys)
    ∙ ap (map place) (filter-append test (flat_map parts xs) (flat_map parts ys))
    ∙ map-append place (filter test (flat_map parts xs)) (filter test (flat_map parts ys))

-- where nothing passes before an item, and the item has one place that does, that is the first
pub first_passing :
    {A B C : Type 0} (parts : A → List B) (test : B → Bool) (place : B → C) (xs : List A) (i : ℕ) (x : A) (found : Option C) (at : C)
    → i < length xs → x ≡ get_or xs i x → passing parts test place (take i xs) ≡ []
    → option_to_list found ≡ passing parts test place (x ∷ []) → found ≡ Some at
    → (rest : List C) × (passing parts test place xs ≡ at ∷ rest)
first_passing parts test place xs i x found at h is before one some = (
  passing parts test place (drop (i + 1) xs),
  ap (passing parts test place) (cut xs i x h is)
      ∙ passing-append parts test place (take i xs) (x ∷ drop (i + 1) xs)
      ∙ ap (λ front. front ++ passing parts test place (x ∷ drop (i + 1) xs)) before
      ∙ passing-append parts test place (x ∷ []) (drop (i + 1) xs)
      ∙ ap (λ front. front ++ passing parts test place (drop (i + 1) xs)) (sym one ∙ ap option_to_list some),
)
