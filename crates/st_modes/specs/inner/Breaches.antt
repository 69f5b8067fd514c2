-- Which of the rules M1 to M7 definitions break, from the last one on.
use Rattle.std.specs.Prelude.{◌≡◌, ℕ, ◌+◌, Bool, not, ◌&&◌, List, [], ◌∷◌, length, All, Option, Some, None, if◌then◌else◌}
use Rattle.std.specs.List.{list_any}
use Rattle.st_num.specs.declared.rule.RuleId.{RuleId}
use Rattle.st_num.specs.declared.rule.RuleId.TheVariants.{M1, M2, M3, M4, M5, M6, M7}
use Rattle.st_il.specs.declared.definition.ClauseDef.{ClauseDef}
use Rattle.st_il.specs.declared.definition.Il.{Il}
use Rattle.st_il.specs.declared.definition.IlDef.{IlDef}
use Rattle.st_il.specs.declared.definition.RuleDef.{RuleDef}
use Rattle.st_il.specs.Names.{Name, has_name}
use Rattle.st_il.specs.Definitions.{rules_from, rules_in, IsFirst}
use Rattle.st_semantics.specs.Variables.{have_otherwise}
use Rattle.st_semantics.specs.ModeRules.{keeps_m3, keeps_m4, keeps_m6, keeps_m7, cites_nothing}
use Rattle.st_semantics.specs.Breaches.{Standing, standings, Breaks, KeepModes, IsModeBreach}
use Rattle.st_modes.specs.declared.breaches.ModeBreach.{ModeBreach}
use Rattle.st_modes.specs.declared.relations.Relations.{Relations}
use Rattle.st_modes.specs.inner.Relations.{is_directed}
use Rattle.st_modes.specs.inner.Circles.{is_circular}

-- ---- one definition

-- the least of M3, M4, M6 and M7 that is not kept, by whether each is
abbrev pub least_not_kept : Bool → Bool → Bool → Bool → Option RuleId
least_not_kept m3 m4 m6 m7 =
    if m3 then if m4 then if m6 then if m7 then None else Some M7 else Some M6 else Some M4
    else Some M3

-- the least that a clause breaks
abbrev pub clause_breach : Il → ClauseDef → Option RuleId
clause_breach il c = least_not_kept (keeps_m3 il c) (keeps_m4 il c) (keeps_m6 c) (keeps_m7 c)

-- the rule breaks M1
abbrev pub breaks_m1 : Relations → RuleDef → Bool
breaks_m1 relations rule =
    have_otherwise rule.premises && not (is_directed relations rule.relation)

-- the rule breaks M2
abbrev pub breaks_m2 : Relations → RuleDef → Bool
breaks_m2 relations rule =
    have_otherwise rule.premises && is_circular relations.circles rule.relation

-- the rule breaks M5, where these relations have a rule with an `otherwise` behind it
abbrev pub breaks_m5 : List Name → RuleDef → Bool
breaks_m5 decided rule = not (cites_nothing rule) && has_name decided rule.relation

-- the least of M1, M2 and M5 that is broken, by whether each is
abbrev pub least_broken : Bool → Bool → Bool → Option RuleId
least_broken m1 m2 m5 =
    if m1 then Some M1 else if m2 then Some M2 else if m5 then Some M5 else None

-- the least that a rule breaks
abbrev pub rule_breach : Relations → List Name → RuleDef → Option RuleId
rule_breach relations decided rule =
    least_broken (breaks_m1 relations rule) (breaks_m2 relations rule) (breaks_m5 decided rule)

-- a rule of the relation of this name among these definitions has an `otherwise`
abbrev pub is_decided : Name → List IlDef → Bool
is_decided name defs =
    list_any (λ (r : RuleDef). have_otherwise r.premises) (rules_from name (rules_in defs))

-- these are the relations of which that holds
abbrev pub AreDecided : List Name → List IlDef → Type 0
AreDecided names defs = (name : Name) → has_name names name ≡ is_decided name defs

-- this is the least rule that a definition breaks, or it breaks none
abbrev pub IsLeast : Il → Standing → Option RuleId → Type 0
IsLeast il at None = (m : RuleId) → Breaks il at m → ⊥
IsLeast il at (Some m) = IsFirst (Breaks il at) (M1 ∷ M2 ∷ M3 ∷ M4 ∷ M5 ∷ M6 ∷ M7 ∷ []) m

-- ---- several definitions

-- the breach of the definition of this number, or else the one found behind it
abbrev pub earlier : ℕ → Option RuleId → Option ModeBreach → Option ModeBreach
earlier number (Some rule) found = Some (record { definition = number; rule = rule })
earlier number None found = found

-- no definition of these breaks a rule
abbrev pub AllKeep : Il → List IlDef → Type 0
AllKeep il defs = All (λ (at : Standing). (m : RuleId) → Breaks il at m → ⊥) (standings defs)

-- the first of these definitions that breaks a rule, where they are numbered from `start` on, with
-- the least that it breaks
pub record IsFirstBreach (il : Il) (start : ℕ) (defs : List IlDef) (found : ModeBreach) : Type 0 where
  pub at : Standing
  pub first : IsFirst (λ one. (m : RuleId) × Breaks il one m) (standings defs) at
  pub number_is : found.definition ≡ start + length first.before
  pub least : IsFirst (Breaks il at) (M1 ∷ M2 ∷ M3 ∷ M4 ∷ M5 ∷ M6 ∷ M7 ∷ []) found.rule

-- this is the first breach of these definitions, or there is none
abbrev pub IsFound : Il → ℕ → List IlDef → Option ModeBreach → Type 0
IsFound il start defs None = AllKeep il defs
IsFound il start defs (Some found) = IsFirstBreach il start defs found

-- This is the first breach of the internal language, or it has none.
abbrev pub IsBreachAnswer : Il → Option ModeBreach → Type 0
IsBreachAnswer il None = KeepModes il
IsBreachAnswer il (Some found) = IsModeBreach il found.definition found.rule
