-- Names that a test finds equal, or different.
use Rattle.std.proofs.Common.{◌≡◌, refl, ℕ, List, Bool, true, false, not, nat_eq}
use Rattle.std.proofs.lemmas.Slice.Eq.{bytes_eq-Decides}
use Rattle.std.specs.Cmp.Lexicographic.{pointwise}

passes : (b : Bool) → false ≡ not b → b ≡ true
passes true e = refl
passes false e = cc

fails : (b : Bool) → true ≡ not b → b ≡ true → ⊥
fails true e h = cc
fails false e h = cc

pub names-same : (x y : List ℕ) → false ≡ not (pointwise nat_eq x y) → x ≡ y
names-same x y e = (bytes_eq-Decides x y).0 (passes (pointwise nat_eq x y) e)

pub names-differ : (x y : List ℕ) → true ≡ not (pointwise nat_eq x y) → x ≡ y → ⊥
names-differ x y e p = fails (pointwise nat_eq x y) e ((bytes_eq-Decides x y).1 p)
