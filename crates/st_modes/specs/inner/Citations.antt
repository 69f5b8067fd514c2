-- Rules, and the names that rules and clauses cite, kept under the names of relations and functions.
use Rattle.std.specs.Prelude.{◌≡◌, ℕ, Bool, true, false, List, [], ◌∷◌, map, unwrap_or, is_some}
use Rattle.std.specs.Borrow.{Bor}
use Rattle.st_il.specs.declared.definition.IlDef.{IlDef}
use Rattle.st_il.specs.declared.definition.RuleDef.{RuleDef}
use Rattle.st_il.specs.Names.{Name, flattened}
use Rattle.st_il.specs.Definitions.{rules_in, rules_from, clauses_in, clauses_from, funs_in}
use Rattle.st_semantics.specs.Variables.{relations_cited}
use Rattle.st_modes.specs.declared.citations.Citations.{Citations}
use Rattle.st_order.specs.Known.{all_now, at}
use Rattle.st_modes.specs.inner.Citing.{functions_in_rule, functions_in_clause}
use Rattle.st_modes.specs.inner.Reaching.{cited_under}

-- the rules that stand under a name
abbrev pub rules_under : List (Bor (List ℕ) × List (Bor RuleDef)) → Name → List RuleDef
rules_under entries name = all_now (unwrap_or (at entries name) [])

-- the relations that stand in a rule
abbrev pub relations_in_rule : RuleDef → List Name
relations_in_rule r = flattened (map relations_cited r.premises)

-- whether there is a member
abbrev pub is_any : {A : Type 0} → List A → Bool
is_any [] = false
is_any (x ∷ xs) = true

-- ---- among some definitions

-- the functions that stand in the rules of a relation
abbrev pub called_by_relation : Name → List IlDef → List Name
called_by_relation name defs = flattened (map functions_in_rule (rules_from name (rules_in defs)))

-- the relations that stand in the rules of a relation
abbrev pub cited_by_relation : Name → List IlDef → List Name
cited_by_relation name defs = flattened (map relations_in_rule (rules_from name (rules_in defs)))

-- the functions that stand in the clauses of a function
abbrev pub called_by_function : Name → List IlDef → List Name
called_by_function name defs =
    flattened (map functions_in_clause (clauses_from name (clauses_in defs)))

-- under each name stands what these definitions say of it
pub record HasRead (defs : List IlDef) (c : Citations) : Type 0 where
  pub rules : (q : Name) → rules_under c.rules.entries q ≡ rules_from q (rules_in defs)
  pub called : (q : Name) → cited_under c.called.entries q ≡ called_by_relation q defs
  pub cited : (q : Name) → cited_under c.cited.entries q ≡ cited_by_relation q defs
  pub calls : (q : Name) → cited_under c.calls.entries q ≡ called_by_function q defs
  pub defined : (q : Name)
      → is_some (at c.calls.entries q) ≡ is_any (clauses_from q (clauses_in defs))
  pub funs : all_now c.funs ≡ funs_in defs
