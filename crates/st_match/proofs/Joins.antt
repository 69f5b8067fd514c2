-- What values are joined to, kind by kind.
use Rattle.std.proofs.Common.{◌≡◌, suc, refl, ◌∙◌, ap, ap₂, List, [], ◌∷◌, ◌++◌, map, length, Option, Some, None, option_map}
use Rattle.st_il.specs.declared.value.Value.{Value, out-Value, roll-Value, out-roll-Value, fold-Value, fold_out-Value, map-Value}
use Rattle.st_il.specs.declared.value.Value.TheOpen.{Value-F}
use Rattle.st_il.specs.declared.value.Value.TheVariants as value
use Rattle.st_il.proofs.Induction.{Every, OfField, Parts, value-ind}
use Rattle.st_il.specs.Names.{Name}
use Rattle.st_semantics.specs.Environments.{Entry}
use Rattle.st_semantics.specs.Parts.{option_list, with_both}
use Rattle.st_semantics.specs.Operators.{Joining, joined_options, joined_fields, values_of, joined_by, joining_at, join}
use Rattle.st_match.specs.inner.Joined.{list_joined, option_joined, fields_joined, record_joined}

-- a value, and how it is joined
abbrev joining : Value → Joining
joining = fold-Value Joining joining_at

joining-level : (y : Value-F Value) → joining (roll-Value y) ≡ joining_at (map-Value Value Joining joining y)
joining-level y = fold_out-Value Joining joining_at (roll-Value y) ∙ ap (λ z. joining_at (map-Value Value Joining joining z)) (out-roll-Value y)

-- ---- a value is its own

abbrev IsOwn : Value → Type 0
IsOwn v = (joining v).own ≡ v

own_each : (vs : List Value) → Every IsOwn vs → map (λ (j : Joining). j.own) (map joining vs) ≡ vs
own_each [] h = refl
own_each (v ∷ vs) h = ap₂ (λ x y. x ∷ y) h.0 (own_each vs h.1)

own_fields : (fs : List Entry) → Every (OfField IsOwn) fs → map (λ (f : Name × Joining). (f.0, f.1.own)) (map (λ (f : Entry). (f.0, joining f.1)) fs) ≡ fs
own_fields [] h = refl
own_fields (f ∷ fs) h = ap₂ (λ (x : Value) (y : List Entry). (f.0, x) ∷ y) h.0 (own_fields fs h.1)

own_level : (y : Value-F Value) → Parts IsOwn y → map-Value Joining Value (λ j. j.own) (map-Value Value Joining joining y) ≡ y
own_level (Value-F.Bool b) h = refl
own_level (Value-F.Num z) h = refl
own_level (Value-F.Text bytes) h = refl
own_level (Value-F.Case tag vs) h = ap (λ z. Value-F.Case tag z) (own_each vs h)
own_level (Value-F.Fields fs) h = ap (λ z. Value-F.Fields z) (own_fields fs h)
own_level (Value-F.Tuple vs) h = ap (λ z. Value-F.Tuple z) (own_each vs h)
own_level (Value-F.List vs) h = ap (λ z. Value-F.List z) (own_each vs h)
own_level (Value-F.Opt None) h = refl
own_level (Value-F.Opt (Some v)) h = ap (λ z. Value-F.Opt (Some z)) h

own-itself : (v : Value) → IsOwn v
own-itself = value-ind IsOwn (λ y h. ap (λ (j : Joining). j.own) (joining-level y) ∙ ap roll-Value (own_level y h))

values_of-own : (vs : List Value) → values_of (map joining vs) ≡ vs
values_of-own [] = refl
values_of-own (v ∷ vs) = ap₂ (λ x y. x ∷ y) (own-itself v) (values_of-own vs)

-- ---- kind by kind

join-level : (a b : Value) (y : Value-F Value) → out-Value a ≡ y → join a b ≡ joined_by (map-Value Value Joining joining y) (out-Value b)
join-level a b y is = ap (λ (j : Joining). j.joined b) (fold_out-Value Joining joining_at a) ∙ ap (λ z. joined_by (map-Value Value Joining joining z) (out-Value b)) is

pub join-List : (xs : List Value) (b : Value) → join (value.List xs) b ≡ list_joined xs (out-Value b)
join-List xs b = join-level (value.List xs) b (Value-F.List xs) (value.outs-List xs) ∙ at (out-Value b)
  where
    at : (y : Value-F Value) → joined_by (Value-F.List (map joining xs)) y ≡ list_joined xs y
    at (Value-F.Bool b) = refl
    at (Value-F.Num z) = refl
    at (Value-F.Text bytes) = refl
    at (Value-F.Case tag vs) = refl
    at (Value-F.Fields fs) = refl
    at (Value-F.Tuple vs) = refl
    at (Value-F.List ys) = ap (λ z. Some (value.List (z ++ ys))) (values_of-own xs)
    at (Value-F.Opt y) = refl

pub join-Opt : (x : Option Value) (b : Value) → join (value.Opt x) b ≡ option_joined x (out-Value b)
join-Opt None b = join-level (value.Opt None) b (Value-F.Opt None) (value.outs-Opt None) ∙ at (out-Value b)
  where
    at : (y : Value-F Value) → joined_by (Value-F.Opt None) y ≡ option_joined None y
    at (Value-F.Bool b) = refl
    at (Value-F.Num z) = refl
    at (Value-F.Text bytes) = refl
    at (Value-F.Case tag vs) = refl
    at (Value-F.Fields fs) = refl
    at (Value-F.Tuple vs) = refl
    at (Value-F.List ys) = refl
    at (Value-F.Opt y) = refl
join-Opt (Some x) b = join-level (value.Opt (Some x)) b (Value-F.Opt (Some x)) (value.outs-Opt (Some x)) ∙ at (out-Value b)
  where
    at : (y : Value-F Value) → joined_by (Value-F.Opt (Some (joining x))) y ≡ option_joined (Some x) y
    at (Value-F.Bool b) = refl
    at (Value-F.Num z) = refl
    at (Value-F.Text bytes) = refl
    at (Value-F.Case tag vs) = refl
    at (Value-F.Fields fs) = refl
    at (Value-F.Tuple vs) = refl
    at (Value-F.List ys) = refl
    at (Value-F.Opt y) = ap (λ z. joined_options (z ∷ []) (option_list y)) (own-itself x)

fields_joined-own : (fs others : List Entry) → joined_fields (map (λ (f : Entry). (f.0, joining f.1)) fs) others ≡ fields_joined fs others
fields_joined-own [] [] = refl
fields_joined-own [] (other ∷ others) = refl
fields_joined-own (f ∷ fs) [] = refl
fields_joined-own (f ∷ fs) (other ∷ others) =
    ap (λ z. with_both (λ (v : Value) (rest : List Entry). Some ((f.0, v) ∷ rest)) (join f.1 other.1) z) (fields_joined-own fs others)

pub join-Fields : (fs : List Entry) (b : Value) → join (value.Fields fs) b ≡ record_joined fs (out-Value b)
join-Fields fs b = join-level (value.Fields fs) b (Value-F.Fields fs) (value.outs-Fields fs) ∙ at (out-Value b)
  where
    at : (y : Value-F Value) → joined_by (Value-F.Fields (map (λ (f : Entry). (f.0, joining f.1)) fs)) y ≡ record_joined fs y
    at (Value-F.Bool b) = refl
    at (Value-F.Num z) = refl
    at (Value-F.Text bytes) = refl
    at (Value-F.Case tag vs) = refl
    at (Value-F.Fields others) = ap (option_map value.Fields) (fields_joined-own fs others)
    at (Value-F.Tuple vs) = refl
    at (Value-F.List ys) = refl
    at (Value-F.Opt y) = refl

-- records with another number of fields are not joined
pub fields_joined-longer : (fs others : List Entry) → (length fs ≡ length others → ⊥) → fields_joined fs others ≡ None
fields_joined-longer [] [] h = absurd (h refl)
fields_joined-longer [] (other ∷ others) h = refl
fields_joined-longer (f ∷ fs) [] h = refl
fields_joined-longer (f ∷ fs) (other ∷ others) h = none (join f.1 other.1) (fields_joined fs others) (fields_joined-longer fs others (λ e. h (ap suc e)))
  where
    none : (v : Option Value) (rest : Option (List Entry)) → rest ≡ None → with_both (λ (v : Value) (rest : List Entry). Some ((f.0, v) ∷ rest)) v rest ≡ None
    none None rest e = refl
    none (Some v) None e = refl
    none (Some v) (Some rest) e = cc
