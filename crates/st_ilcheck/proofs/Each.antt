-- Parts that stand so to given things, one by one.
use Rattle.std.proofs.Common.{◌≡◌, ◌↔◌, ℕ, suc, ◌+◌, ◌<◌, ◌≤◌, refl, sym, ap, subst, List, [], ◌∷◌, Option, length, drop, get_or}
use Rattle.std.proofs.lemmas.List.{drop_all}
use Rattle.st_il.specs.declared.definition.SyntaxDef.{SyntaxDef}
use Rattle.st_il.specs.declared.ty.Ty.{Ty}
use Rattle.st_ilcheck.specs.Rules.{AreEach, Is, AllAre}
use Rattle.st_ilcheck.proofs.Drops.{from}

module _ {A : Type 0} (R : A → Option Ty → Type 0) where
  pub AreEach-length : (xs : List A) (os : List (Option Ty)) → AreEach R xs os → length xs ≡ length os
  AreEach-length [] [] h = refl
  AreEach-length [] (o ∷ os) h = absurd h
  AreEach-length (x ∷ xs) [] h = absurd h
  AreEach-length (x ∷ xs) (o ∷ os) h = ap suc (AreEach-length xs os h.1)

  -- two lists from position i on, by their items there
  pub AreEach-at : (xs : List A) (os : List (Option Ty)) (i : ℕ) (x : A) (o : Option Ty) → i < length xs → i < length os → x ≡ get_or xs i x → o ≡ get_or os i o
      → AreEach R (drop i xs) (drop i os) ↔ (R x o × AreEach R (drop (i + 1) xs) (drop (i + 1) os))
  AreEach-at xs os i x o hx ho ex eo =
      let p = from xs i x hx ex in
      let q = from os i o ho eo in (
        λ s. subst (λ z. AreEach R z (o ∷ drop (i + 1) os)) p (subst (λ z. AreEach R (drop i xs) z) q s),
        λ s. subst (λ z. AreEach R z (drop i os)) (sym p) (subst (λ z. AreEach R (x ∷ drop (i + 1) xs) z) (sym q) s),
      )

  pub AreEach-end : (xs : List A) (os : List (Option Ty)) (i : ℕ) → length xs ≤ i → length os ≤ i → AreEach R (drop i xs) (drop i os)
  AreEach-end xs os i hx ho = subst (λ z. AreEach R z (drop i os)) (sym (drop_all i xs hx)) (subst (λ z. AreEach R [] z) (sym (drop_all i os ho)) tt)

module _ (defs : List SyntaxDef) where
  pub AllAre-at : (t : Ty) (os : List (Option Ty)) (i : ℕ) (o : Option Ty) → i < length os → o ≡ get_or os i o
      → AllAre defs t (drop i os) ↔ (Is defs o t × AllAre defs t (drop (i + 1) os))
  AllAre-at t os i o h e = let p = from os i o h e in (λ s. subst (AllAre defs t) p s, λ s. subst (AllAre defs t) (sym p) s)

  pub AllAre-end : (t : Ty) (os : List (Option Ty)) (i : ℕ) → length os ≤ i → AllAre defs t (drop i os)
  AllAre-end t os i h = subst (AllAre defs t) (sym (drop_all i os h)) tt
