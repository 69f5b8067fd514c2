-- Induction over types: what holds of a type where it holds of its parts holds of every type.
use Rattle.std.proofs.Common.{subst, List, [], ◌∷◌, map}
use Rattle.st_il.specs.declared.ty.Ty.{Ty, map-Ty, ind-Ty, roll-Ty}
use Rattle.st_il.specs.declared.ty.Ty.TheOpen.{Ty-F}
use Rattle.st_il.proofs.Induction.{Every}

-- P holds of the parts of a level
abbrev pub Parts : (Ty → Type 0) → Ty-F Ty → Type 0
Parts P Ty-F.Bool = Unit {0}
Parts P Ty-F.Nat = Unit {0}
Parts P Ty-F.Int = Unit {0}
Parts P Ty-F.Text = Unit {0}
Parts P (Ty-F.Name name) = Unit {0}
Parts P (Ty-F.List x) = P x
Parts P (Ty-F.Opt x) = P x
Parts P (Ty-F.Tuple xs) = Every P xs

-- a type of which P holds
abbrev Such : (Ty → Type 0) → Type 0
Such P = (x : Ty) × P x

every_first : (P : Ty → Type 0) (ys : List (Such P)) → Every P (map (λ y. y.0) ys)
every_first P [] = tt
every_first P (y ∷ ys) = (y.1, every_first P ys)

parts_of : (P : Ty → Type 0) (y : Ty-F (Such P)) → Parts P (map-Ty (Such P) Ty (λ e. e.0) y)
parts_of P Ty-F.Bool = tt
parts_of P Ty-F.Nat = tt
parts_of P Ty-F.Int = tt
parts_of P Ty-F.Text = tt
parts_of P (Ty-F.Name name) = tt
parts_of P (Ty-F.List x) = x.1
parts_of P (Ty-F.Opt x) = x.1
parts_of P (Ty-F.Tuple xs) = every_first P xs

pub ty-ind : (P : Ty → Type 0) → ((x : Ty-F Ty) → Parts P x → P (roll-Ty x)) → (x : Ty) → P x
ty-ind P step = ind-Ty P (λ x y e. step x (subst (Parts P) e (parts_of P y)))
