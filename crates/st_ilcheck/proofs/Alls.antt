-- What holds of each member of a list, and what a list contains, one member at a time.
use Rattle.std.proofs.Common.{◌≡◌, ℕ, ◌+◌, ◌<◌, ◌≤◌, sym, ap, ◌∙◌, subst, List, length, take, get_or}
use Rattle.std.specs.Prelude.{All, Contains}
use Rattle.std.proofs.lemmas.List.{take_all}
use Rattle.std.proofs.lemmas.List.Elements.{All-get_or, All-more}

module _ {X : Type 0} (P : X → Type 0) (xs : List X) where
  -- one member of which it does not hold
  pub All-refuted : (i : ℕ) (x : X) → i < length xs → x ≡ get_or xs i x → All P xs → P x
  All-refuted i x h is a = subst P (sym is) (All-get_or P xs i x h a)

  pub All-longer : (i : ℕ) (x : X) → i < length xs → x ≡ get_or xs i x → P x → All P (take i xs) → All P (take (i + 1) xs)
  All-longer i x h is p a = All-more P xs i x h a (subst P is p)

  pub All-whole : (i : ℕ) → length xs ≤ i → All P (take i xs) → All P xs
  All-whole i h a = subst (All P) (take_all i xs h) a

module _ {X : Type 0} (xs : List X) where
  pub Contains-there : (i : ℕ) (x y : X) → i < length xs → x ≡ get_or xs i x → x ≡ y → Contains xs y
  Contains-there i x y h is e = (i, h, ap (get_or xs i) (sym e) ∙ (sym is ∙ e))

  pub Contains-nowhere : (y : X) → All (λ (z : X). z ≡ y → ⊥) xs → Contains xs y → ⊥
  Contains-nowhere y a k = a k.0 y k.1 k.2
