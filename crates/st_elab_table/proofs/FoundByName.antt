-- The first of a list that has a name is what a definition by its cases gives.
use Rattle.std.proofs.Common.{◌≡◌, refl, ap, List, [], ◌∷◌, find, ℕ, Bool, true, false, if◌then◌else◌, Some}
use Rattle.std.specs.Option.{option_map}
use Rattle.std.specs.Map.{lookup}
use Rattle.st_num.specs.Names.{same_name}
use Rattle.st_il.specs.declared.definition.FunDef.{FunDef}
use Rattle.st_il.specs.declared.definition.RelationDef.{RelationDef}
use Rattle.st_elab_table.specs.Inferred.{fun_named}
use Rattle.st_elab_table.specs.Judgements.{relation_named}

-- the value of the first entry with a name
pub lookup-found : {X : Type 0} (q : List ℕ) (xs : List (List ℕ × X)) → option_map (λ (x : List ℕ × X). x.1) (find (λ (x : List ℕ × X). same_name q x.0) xs) ≡ lookup (same_name q) xs
lookup-found q [] = refl
lookup-found {X = X} q (x ∷ xs) = by (same_name q x.0) (lookup-found q xs)
  where
    by : (b : Bool) → option_map (λ (y : List ℕ × X). y.1) (find (λ (y : List ℕ × X). same_name q y.0) xs) ≡ lookup (same_name q) xs
        → option_map (λ (y : List ℕ × X). y.1) (if b then Some x else find (λ (y : List ℕ × X). same_name q y.0) xs) ≡ (if b then Some x.1 else lookup (same_name q) xs)
    by true later = refl
    by false later = later

-- the first function of a name
pub fun_named-found : (q : List ℕ) (fs : List FunDef) → find (λ (f : FunDef). same_name q f.name) fs ≡ fun_named fs q
fun_named-found q [] = refl
fun_named-found q (f ∷ fs) = ap (λ o. if same_name q f.name then Some f else o) (fun_named-found q fs)

-- the first relation of a name
pub relation_named-found : (q : List ℕ) (rs : List RelationDef) → find (λ (r : RelationDef). same_name q r.name) rs ≡ relation_named rs q
relation_named-found q [] = refl
relation_named-found q (r ∷ rs) = ap (λ o. if same_name q r.name then Some r else o) (relation_named-found q rs)
