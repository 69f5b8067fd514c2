-- The last of several parts, and those before it.
use Rattle.std.proofs.Common.{◌≡◌, ℕ, zero, suc, refl, sym, ap, List, [], ◌∷◌, Option, length, get_or, take, arith}
use Rattle.st_il.specs.declared.ty.Ty.{Ty}
use Rattle.st_ilcheck.specs.FoundTypes.{last_type}
use Rattle.st_ilcheck.specs.Rules.{before_last}

pub last-at : (os : List (Option Ty)) (i : ℕ) (o : Option Ty) → length os ≡ suc i → o ≡ get_or os i o → last_type os ≡ o
last-at [] i o e is = absurd (omega (arith, e))
last-at (x ∷ []) zero o e is = sym is
last-at (x ∷ []) (suc i) o e is = absurd (omega (arith, e))
last-at (x ∷ y ∷ os) zero o e is = absurd (omega (arith, e))
last-at (x ∷ y ∷ os) (suc i) o e is = let shorter : length (y ∷ os) ≡ suc i = omega (arith, e) in last-at (y ∷ os) i o shorter is

pub before-last-at : (os : List (Option Ty)) (i : ℕ) → length os ≡ suc i → take i os ≡ before_last os
before-last-at [] i e = absurd (omega (arith, e))
before-last-at (x ∷ []) zero e = refl
before-last-at (x ∷ []) (suc i) e = absurd (omega (arith, e))
before-last-at (x ∷ y ∷ os) zero e = absurd (omega (arith, e))
before-last-at (x ∷ y ∷ os) (suc i) e = let shorter : length (y ∷ os) ≡ suc i = omega (arith, e) in ap (λ z. x ∷ z) (before-last-at (y ∷ os) i shorter)

pub none-left : (os : List (Option Ty)) → length os ≡ 0 → os ≡ []
none-left [] e = refl
none-left (x ∷ os) e = absurd (omega (arith, e))
