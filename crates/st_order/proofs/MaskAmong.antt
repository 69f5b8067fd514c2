-- The directions of the first relations of their names.
use Rattle.std.proofs.Common.{◌≡◌, refl, sym, ap, ◌∙◌, ℕ, ◌+◌, ◌<◌, Bool, true, false, List, [], ◌∷◌, length, get_or, drop, Option, Some, None, if◌then◌else◌, bytes_eq, find}
use Rattle.std.specs.Prelude.{unwrap_or}
use Rattle.std.specs.Option.{option_map}
use Rattle.st_il.specs.declared.definition.Il.{Il}
use Rattle.st_il.specs.declared.definition.IlDef.{IlDef}
use Rattle.st_il.specs.declared.definition.IlDef.TheVariants.{Syntax, Var, Relation, Rule, Fun, Clause}
use Rattle.st_il.specs.declared.definition.RelationDef.{RelationDef}
use Rattle.st_il.specs.Names.{Name}
use Rattle.st_il.specs.Definitions.{relations_in, relation_named}
use Rattle.st_semantics.specs.Directions.{inputs_or_all, mask}
use Rattle.st_order.specs.inner.Masks.{mask_among, behind}
use Rattle.st_semantics.proofs.HoleSums.{drop_there}

-- a definition that stands before others
pub mask_among_behind : (d : IlDef) (ds : List IlDef) (q : Name) → mask_among (d ∷ ds) q ≡ behind d q (mask_among ds q)
mask_among_behind (Syntax s) ds q = refl
mask_among_behind (Var x t) ds q = refl
mask_among_behind (Rule r) ds q = refl
mask_among_behind (Fun f) ds q = refl
mask_among_behind (Clause c) ds q = refl
mask_among_behind (Relation r) ds q = at (bytes_eq q r.name)
  where
    at : (b : Bool) → option_map (λ (s : RelationDef). inputs_or_all (Some s)) (if b then Some r else find (λ (s : RelationDef). bytes_eq q s.name) (relations_in ds))
        ≡ (if b then Some (inputs_or_all (Some r)) else mask_among ds q)
    at true = refl
    at false = refl

-- the definition before those that were put
pub mask_among_step : (defs : List IlDef) (n m k : ℕ) (d : IlDef) (q : Name) (new old : Option (List Bool)) → n < length defs → d ≡ get_or defs n d → m ≡ n → k ≡ n + 1
    → new ≡ behind d q old → old ≡ mask_among (drop k defs) q → new ≡ mask_among (drop m defs) q
mask_among_step defs n m k d q new old h e m_is k_is put inv =
    put ∙ ap (behind d q) (inv ∙ ap (λ z. mask_among (drop z defs) q) k_is) ∙ sym (mask_among_behind d (drop (n + 1) defs) q)
    ∙ ap (λ z. mask_among z q) (sym (drop_there defs n d h e)) ∙ ap (λ z. mask_among (drop z defs) q) (sym m_is)

-- all definitions
pub mask_among_all : (il : Il) (q : Name) → unwrap_or (mask_among il.defs q) [] ≡ mask il q
mask_among_all il q = at (relation_named il q)
  where
    at : (o : Option RelationDef) → unwrap_or (option_map (λ (s : RelationDef). inputs_or_all (Some s)) o) [] ≡ inputs_or_all o
    at None = refl
    at (Some r) = refl
