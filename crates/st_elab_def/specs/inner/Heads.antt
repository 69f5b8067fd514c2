-- Relations, functions and rules by their names, and the heads of rules and clauses.
use Rattle.std.specs.Prelude.{◌≡◌, ℕ, List, ◌∷◌, false, Some}
use Rattle.std.specs.Borrow.{Bor}
use Rattle.std.specs.Option.{option_copied}
use Rattle.st_num.specs.declared.span.Span.{Span}
use Rattle.st_el.specs.declared.definition.Def.{Def}
use Rattle.st_il.specs.declared.definition.RelationDef.{RelationDef}
use Rattle.st_elab_table.specs.declared.decls.Decls.{Decls}
use Rattle.st_elab_table.specs.Inferred.{fun_named}
use Rattle.st_elab_table.specs.Judgements.{relation_named}
use Rattle.st_elab_def.specs.declared.heads.Known.{Known}
use Rattle.st_elab_def.specs.Conditions.{relation, function, new_rule, has_rule}
use Rattle.st_elab_def.specs.Phases.{Placed, placed}
use Rattle.st_ilcheck.specs.Index.{at, has_pair}

-- The relations and the functions are found by their names.
pub record Finds (D : Decls) (known : Known) : Type 0 where
  pub relations : (q : List ℕ)
      → option_copied (at known.relations.entries q) ≡ relation_named D.relations q
  pub funs : (q : List ℕ) → option_copied (at known.funs.entries q) ≡ fun_named D.funs q

-- The pairs are the relations and the names of the rules among these definitions.
abbrev pub KnowsRules : List Def → List (Bor (List ℕ) × Bor (List ℕ)) → Type 0
KnowsRules before pairs = (r name : List ℕ) → has_pair pairs r name ≡ has_rule r name before

-- The rule of this name has this relation, and is the first of its name behind these definitions.
pub record HasHead (D : Decls) (before : List Def) (r name : List ℕ) (R : RelationDef)
    : Type 0 where
  pub declared : relation_named D.relations r ≡ Some R
  pub new : has_rule r name before ≡ false

-- the head of a rule, and what is asked behind it
abbrev pub on_head : List Def → Span → List ℕ → List ℕ → List Placed → List Placed
on_head before at r name rest =
    placed at (relation r) ∷ placed at (new_rule before r name) ∷ rest

-- the head of a clause, and what is asked behind it
abbrev pub on_function : Span → List ℕ → List Placed → List Placed
on_function at name rest = placed at (function name) ∷ rest
