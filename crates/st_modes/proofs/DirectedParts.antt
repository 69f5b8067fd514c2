-- Whether the first relations of their names have a direction.
use Rattle.std.proofs.Common.{◌≡◌, refl, sym, ap, ◌∙◌, ℕ, ◌+◌, ◌<◌, Bool, true, false, List, ◌∷◌, length, get_or, drop, Option, Some, if◌then◌else◌, bytes_eq, find}
use Rattle.std.specs.Prelude.{is_some}
use Rattle.std.specs.Option.{option_map}
use Rattle.st_il.specs.declared.definition.IlDef.{IlDef}
use Rattle.st_il.specs.declared.definition.IlDef.TheVariants as def
use Rattle.st_il.specs.declared.definition.RelationDef.{RelationDef}
use Rattle.st_il.specs.Names.{Name}
use Rattle.st_il.specs.Definitions.{relations_in}
use Rattle.st_semantics.specs.Directions.{direction}
use Rattle.st_modes.specs.inner.Relations.{directed_among, directed_behind}
use Rattle.st_semantics.proofs.HoleSums.{drop_there}

-- a definition that stands before others
directed_among_behind : (d : IlDef) (ds : List IlDef) (q : Name) → directed_among (d ∷ ds) q ≡ directed_behind d q (directed_among ds q)
directed_among_behind (def.Syntax s) ds q = refl
directed_among_behind (def.Var x t) ds q = refl
directed_among_behind (def.Rule r) ds q = refl
directed_among_behind (def.Fun f) ds q = refl
directed_among_behind (def.Clause c) ds q = refl
directed_among_behind (def.Relation r) ds q = at (bytes_eq q r.name)
  where
    at : (b : Bool) → option_map (λ (s : RelationDef). is_some (direction s)) (if b then Some r else find (λ (s : RelationDef). bytes_eq q s.name) (relations_in ds))
        ≡ (if b then Some (is_some (direction r)) else directed_among ds q)
    at true = refl
    at false = refl

-- the definition before those that were put
pub directed_step : (defs : List IlDef) (n m k : ℕ) (d : IlDef) (q : Name) (new old : Option Bool) → n < length defs → d ≡ get_or defs n d → m ≡ n → k ≡ n + 1
    → new ≡ directed_behind d q old → old ≡ directed_among (drop k defs) q → new ≡ directed_among (drop m defs) q
directed_step defs n m k d q new old h e m_is k_is put inv =
    put ∙ ap (directed_behind d q) (inv ∙ ap (λ z. directed_among (drop z defs) q) k_is) ∙ sym (directed_among_behind d (drop (n + 1) defs) q)
    ∙ ap (λ z. directed_among z q) (sym (drop_there defs n d h e)) ∙ ap (λ z. directed_among (drop z defs) q) (sym m_is)

-- all definitions were
pub directed_end : (defs all : List IlDef) (k : ℕ) (q : Name) (o : Option Bool) → k ≡ 0 → defs ≡ all → o ≡ directed_among (drop k defs) q → o ≡ directed_among all q
directed_end defs all k q o none is e = e ∙ ap (λ z. directed_among (drop z defs) q) none ∙ ap (λ z. directed_among z q) is
