-- Lists that are collected from the members of another, one member at a time.
use Rattle.std.proofs.Common.{◌≡◌, ℕ, ◌+◌, ◌<◌, ◌≤◌, sym, ap, ◌∙◌, List, [], ◌∷◌, ◌++◌, length, drop, get_or, append_assoc, append-nil}
use Rattle.std.proofs.lemmas.List.{drop_all}
use Rattle.st_ilcheck.proofs.Drops.{from}

module _ {A B : Type 0} (F : List A → List B) (f : A → List B) (xs : List A) (i : ℕ) where
  pub walk-next : ((x : A) (rest : List A) → F (x ∷ rest) ≡ f x ++ F rest) → (x : A) (found longer : List B) → i < length xs → x ≡ get_or xs i x → longer ≡ found ++ f x
      → found ++ F (drop i xs) ≡ F xs → longer ++ F (drop (i + 1) xs) ≡ F xs
  walk-next step x found longer h is w so_far =
      ap (λ z. z ++ F (drop (i + 1) xs)) w
      ∙ (append_assoc found (f x) (F (drop (i + 1) xs)) ∙ (ap (λ z. found ++ z) (sym (step x (drop (i + 1) xs)) ∙ sym (ap F (from xs i x h is))) ∙ so_far))

  pub walk-end : F [] ≡ [] → (found : List B) → length xs ≤ i → found ++ F (drop i xs) ≡ F xs → found ≡ F xs
  walk-end none found h so_far = sym (append-nil found) ∙ (ap (λ z. found ++ z) (sym (ap F (drop_all i xs h) ∙ none)) ∙ so_far)
