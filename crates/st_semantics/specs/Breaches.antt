-- Which definition breaks which of the rules M1 to M7.
use Rattle.std.specs.Prelude.{◌≡◌, ℕ, Bool, true, false, List, [], ◌∷◌, length, All}
use Rattle.std.specs.List.{list_any}
use Rattle.st_num.specs.declared.rule.RuleId.{RuleId}
use Rattle.st_num.specs.declared.rule.RuleId.TheVariants.{M1, M2, M3, M4, M5, M6, M7}
use Rattle.st_il.specs.declared.definition.ClauseDef.{ClauseDef}
use Rattle.st_il.specs.declared.definition.Il.{Il}
use Rattle.st_il.specs.declared.definition.IlDef.{IlDef}
use Rattle.st_il.specs.declared.definition.IlDef.TheVariants.{Rule, Clause}
use Rattle.st_il.specs.declared.definition.RuleDef.{RuleDef}
use Rattle.st_il.specs.Definitions.{rules_from, rules_in, clauses_in, IsFirst}
use Rattle.st_semantics.specs.Variables.{have_otherwise}
use Rattle.st_semantics.specs.ModeRules.{keeps_m3, keeps_m4, keeps_m6, keeps_m7, Relation, Leads, IsDirected, cites_nothing}

-- a definition, and those behind it
abbrev pub Standing : Type 0
Standing = IlDef × List IlDef

-- each of these definitions, with those behind it
abbrev pub standings : List IlDef → List Standing
standings [] = []
standings (d ∷ ds) = (d, ds) ∷ standings ds

-- a rule of the same relation behind this one has an `otherwise`
abbrev pub is_decided_behind : RuleDef → List IlDef → Bool
is_decided_behind rule after =
    list_any (λ (r : RuleDef). have_otherwise r.premises)
    (rules_from rule.relation (rules_in after))

-- M1: an `otherwise`, and the relation is not directed. M2: an `otherwise`, and the relation cites
-- itself. M5: a relation premise, before a rule with an `otherwise`.
abbrev pub RuleBreaks : Il → RuleDef → List IlDef → RuleId → Type 0
RuleBreaks il rule after M1 =
    (have_otherwise rule.premises ≡ true) × (IsDirected il rule.relation → ⊥)
RuleBreaks il rule after M2 =
    (have_otherwise rule.premises ≡ true)
    × Leads il (Relation rule.relation) (Relation rule.relation)
RuleBreaks il rule after M5 =
    (cites_nothing rule ≡ false) × (is_decided_behind rule after ≡ true)
RuleBreaks il rule after _ = ⊥

-- M3: a premise cannot be run at its place. M4: an argument is no pattern that binds its variables,
-- or a list in a pattern has two parts of open length. M6: a variable of the result is unbound. M7:
-- a premise cites a relation.
abbrev pub ClauseBreaks : Il → ClauseDef → RuleId → Type 0
ClauseBreaks il c M3 = keeps_m3 il c ≡ false
ClauseBreaks il c M4 = keeps_m4 il c ≡ false
ClauseBreaks il c M6 = keeps_m6 c ≡ false
ClauseBreaks il c M7 = keeps_m7 c ≡ false
ClauseBreaks il c _ = ⊥

-- a definition breaks one of the rules M1 to M7
abbrev pub Breaks : Il → Standing → RuleId → Type 0
Breaks il (Rule rule, after) m = RuleBreaks il rule after m
Breaks il (Clause c, after) m = ClauseBreaks il c m
Breaks il (_, after) m = ⊥

-- the clause breaks none of these rules
abbrev pub ClauseKeeps : Il → List RuleId → ClauseDef → Type 0
ClauseKeeps il rules c = All (λ (m : RuleId). ClauseBreaks il c m → ⊥) rules

-- No clause breaks one of these rules.
abbrev pub ClausesKeep : Il → List RuleId → Type 0
ClausesKeep il rules = All (ClauseKeeps il rules) (clauses_in il.defs)

-- No definition breaks one of the rules M1 to M7.
abbrev pub KeepModes : Il → Type 0
KeepModes il =
    All (λ (at : Standing). (m : RuleId) → Breaks il at m → ⊥) (standings il.defs)

-- The first definition that breaks one, by its number from 0, and the least that it breaks.
pub record IsModeBreach (il : Il) (place : ℕ) (m : RuleId) : Type 0 where
  pub at : Standing
  pub first : IsFirst (λ one. (m : RuleId) × Breaks il one m) (standings il.defs) at
  pub place_is : place ≡ length first.before
  pub least : IsFirst (Breaks il at) (M1 ∷ M2 ∷ M3 ∷ M4 ∷ M5 ∷ M6 ∷ M7 ∷ []) m
