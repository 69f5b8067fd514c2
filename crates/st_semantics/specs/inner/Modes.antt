-- What is known of clauses, and of rules by name and number, where no definition breaks an M rule.
use Rattle.std.specs.Prelude.{◌≡◌, ℕ, true, take, All}
use Rattle.std.specs.List.{list_all}
use Rattle.st_il.specs.declared.definition.ClauseDef.{ClauseDef}
use Rattle.st_il.specs.declared.definition.Il.{Il}
use Rattle.st_il.specs.declared.definition.RuleDef.{RuleDef}
use Rattle.st_il.specs.Names.{Name}
use Rattle.st_il.specs.Definitions.{rules_of, clauses_in}
use Rattle.st_semantics.specs.ModeRules.{keeps_m3, keeps_m4, keeps_m6, keeps_m7, Relation, Leads, IsOtherwise, IsDirected, cites_nothing}

-- the clause keeps M3, M4, M6 and M7
pub record ClauseRuns (il : Il) (c : ClauseDef) : Type 0 where
  pub m3 : keeps_m3 il c ≡ true
  pub m4 : keeps_m4 il c ≡ true
  pub m6 : keeps_m6 c ≡ true
  pub m7 : keeps_m7 c ≡ true

-- the rule of this number, which has an `otherwise`, keeps M1 and M2, and those before it M5
pub record OtherwiseDecides (il : Il) (name : Name) (number : ℕ) : Type 0 where
  pub m1 : IsDirected il name
  pub m2 : Leads il (Relation name) (Relation name) → ⊥
  pub m5 : list_all cites_nothing (take number (rules_of il name)) ≡ true

-- each clause keeps its rules, and so does each relation at its rules with an `otherwise`
pub record ModesByName (il : Il) : Type 0 where
  pub clauses : All (ClauseRuns il) (clauses_in il.defs)
  pub rules : (name : Name) (number : ℕ) (rule : RuleDef) → IsOtherwise il name number rule
      → OtherwiseDecides il name number
