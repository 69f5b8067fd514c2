-- The relations and rules among definitions, one after another.
use Rattle.std.proofs.Common.{◌≡◌, refl, sym, ◌∙◌, ap, ℕ, zero, suc, Bool, true, false, if◌then◌else◌, List, [], ◌∷◌, ◌++◌, slice_get, Option, Some, None, bytes_eq}
use Rattle.std.specs.Borrow.{Bor}
use Rattle.std.specs.Option.{option_map, option_copied}
use Rattle.std.specs.Prelude.{option_and_then}
use Rattle.st_il.specs.declared.definition.Il.{Il}
use Rattle.st_il.specs.declared.definition.IlDef.{IlDef}
use Rattle.st_il.specs.declared.definition.IlDef.TheVariants.{Syntax, Var, Relation, Rule, Fun, Clause}
use Rattle.st_il.specs.declared.definition.RelationDef.{RelationDef}
use Rattle.st_il.specs.declared.definition.RuleDef.{RuleDef}
use Rattle.st_il.specs.Names.{Name}
use Rattle.st_il.specs.Definitions.{relations, relations_in, rules_of, rules_in, rules_from}
use Rattle.st_order.specs.Answers.{rule_at}
use Rattle.st_order.specs.Known.{all_now}

pub relations_head : (d : IlDef) (ds : List IlDef) → relations_in (d ∷ ds) ≡ relations_in (d ∷ []) ++ relations_in ds
relations_head (Syntax s) ds = refl
relations_head (Var x t) ds = refl
relations_head (Relation r) ds = refl
relations_head (Rule r) ds = refl
relations_head (Fun f) ds = refl
relations_head (Clause c) ds = refl

pub rules_head : (name : Name) (d : IlDef) (ds : List IlDef) → rules_from name (rules_in (d ∷ ds)) ≡ rules_from name (rules_in (d ∷ [])) ++ rules_from name (rules_in ds)
rules_head name (Syntax s) ds = refl
rules_head name (Var x t) ds = refl
rules_head name (Relation r) ds = refl
rules_head name (Fun f) ds = refl
rules_head name (Clause c) ds = refl
rules_head name (Rule r) ds = at (bytes_eq name r.relation)
  where
    at : (b : Bool) → (if b then r ∷ rules_from name (rules_in ds) else rules_from name (rules_in ds)) ≡ (if b then r ∷ [] else []) ++ rules_from name (rules_in ds)
    at true = refl
    at false = refl

pub all_now_append : {A : Type 0} (xs ys : List (Bor A)) → all_now (xs ++ ys) ≡ all_now xs ++ all_now ys
all_now_append [] ys = refl
all_now_append (x ∷ xs) ys = ap (λ z. x.now ∷ z) (all_now_append xs ys)

get_now : {A : Type 0} (xs : List (Bor A)) (n : ℕ) → slice_get (all_now xs) n ≡ option_map (λ (r : Bor A). r.now) (slice_get xs n)
get_now [] n = refl
get_now (x ∷ xs) zero = refl
get_now (x ∷ xs) (suc n) = get_now xs n

-- no relation has the number
pub no_relation : (il : Il) (relation rule : ℕ) (rs : List (Bor RelationDef)) → all_now rs ≡ relations il → None ≡ slice_get rs relation → None ≡ rule_at il relation rule
no_relation il relation rule rs e none =
    let there : slice_get (relations il) relation ≡ None = ap (λ z. slice_get z relation) (sym e) ∙ get_now rs relation ∙ ap (λ o. option_map (λ (r : Bor RelationDef). r.now) o) (sym none) in
    sym (ap (λ o. option_and_then (λ (r : RelationDef). slice_get (rules_of il r.name) rule) o) there)

-- the rule of a relation that has the number
pub rule_there : (il : Il) (relation rule : ℕ) (rs : List (Bor RelationDef)) (r : Bor RelationDef) (rules : List (Bor RuleDef)) (found : Option (Bor RuleDef)) → all_now rs ≡ relations il
    → Some r ≡ slice_get rs relation → all_now rules ≡ rules_of il r.now.name → found ≡ slice_get rules rule → option_copied found ≡ rule_at il relation rule
rule_there il relation rule rs r rules found e one rules_are is =
    let there : slice_get (relations il) relation ≡ Some r.now = ap (λ z. slice_get z relation) (sym e) ∙ get_now rs relation ∙ ap (λ o. option_map (λ (r : Bor RelationDef). r.now) o) (sym one) in
    copied found ∙ ap (λ o. option_map (λ (r : Bor RuleDef). r.now) o) is ∙ sym (get_now rules rule) ∙ ap (λ z. slice_get z rule) rules_are
    ∙ sym (ap (λ o. option_and_then (λ (r : RelationDef). slice_get (rules_of il r.name) rule) o) there)
  where
    copied : (o : Option (Bor RuleDef)) → option_copied o ≡ option_map (λ (r : Bor RuleDef). r.now) o
    copied None = refl
    copied (Some r) = refl
