-- Induction over values: what holds of a value where it holds of its parts holds of every value.
-- In code, a recursion through a list of pairs needs no measure where the list is the first parameter, as in `copy_fields(fields: &[(Name, Value)])`,
-- and its loop passes on `&field.1`; the same with the list behind `alloc`. A function over one pair leaves its measure open: take the pair apart in the loop.
use Rattle.std.proofs.Common.{subst, List, [], ◌∷◌, ℕ, map}
use Rattle.std.specs.Prelude.{Some, None}
use Rattle.st_il.specs.declared.value.Value.{Value, map-Value, ind-Value, roll-Value}
use Rattle.st_il.specs.declared.value.Value.TheOpen.{Value-F}

-- P holds of each element
abbrev pub Every : {A : Type 0} → (A → Type 0) → List A → Type 0
Every P [] = Unit {0}
Every P (x ∷ xs) = P x × Every P xs

-- it holds of the value of a field
abbrev pub OfField : (Value → Type 0) → List ℕ × Value → Type 0
OfField P field = P field.1

-- P holds of the parts of a level
abbrev pub Parts : (Value → Type 0) → Value-F Value → Type 0
Parts P (Value-F.Bool truth) = Unit {0}
Parts P (Value-F.Num number) = Unit {0}
Parts P (Value-F.Text text) = Unit {0}
Parts P (Value-F.Case tag parts) = Every P parts
Parts P (Value-F.Fields fields) = Every (OfField P) fields
Parts P (Value-F.Tuple parts) = Every P parts
Parts P (Value-F.List parts) = Every P parts
Parts P (Value-F.Opt None) = Unit {0}
Parts P (Value-F.Opt (Some part)) = P part

-- a value of which P holds
abbrev Such : (Value → Type 0) → Type 0
Such P = (x : Value) × P x

every_first : (P : Value → Type 0) (ys : List (Such P)) → Every P (map (λ y. y.0) ys)
every_first P [] = tt
every_first P (y ∷ ys) = (y.1, every_first P ys)

every_second : (P : Value → Type 0) (ys : List (List ℕ × Such P)) → Every (OfField P) (map (λ y. (y.0, y.1.0)) ys)
every_second P [] = tt
every_second P (y ∷ ys) = (y.1.1, every_second P ys)

parts_of : (P : Value → Type 0) (y : Value-F (Such P)) → Parts P (map-Value (Such P) Value (λ e. e.0) y)
parts_of P (Value-F.Bool truth) = tt
parts_of P (Value-F.Num number) = tt
parts_of P (Value-F.Text text) = tt
parts_of P (Value-F.Case tag parts) = every_first P parts
parts_of P (Value-F.Fields fields) = every_second P fields
parts_of P (Value-F.Tuple parts) = every_first P parts
parts_of P (Value-F.List parts) = every_first P parts
parts_of P (Value-F.Opt None) = tt
parts_of P (Value-F.Opt (Some part)) = part.1

-- the induction, by levels
pub value-ind : (P : Value → Type 0) → ((x : Value-F Value) → Parts P x → P (roll-Value x)) → (x : Value) → P x
value-ind P step = ind-Value P (λ x y e. step x (subst (Parts P) e (parts_of P y)))

pub every_value : (P : Value → Type 0) → ((x : Value) → P x) → (xs : List Value) → Every P xs
every_value P all [] = tt
every_value P all (x ∷ xs) = (all x, every_value P all xs)

pub every_field : (P : Value → Type 0) → ((x : Value) → P x) → (xs : List (List ℕ × Value)) → Every (OfField P) xs
every_field P all [] = tt
every_field P all (x ∷ xs) = (all x.1, every_field P all xs)
