-- An internal language is typed; or the first definition that breaks a rule, and the least rule that
-- it breaks.
use Rattle.std.specs.Prelude.{◌≡◌, ℕ, zero, suc, List, [], ◌∷◌, ◌++◌, Some}
use Rattle.st_il.specs.declared.definition.Il.{Il}
use Rattle.st_il.specs.declared.definition.IlDef.{IlDef}
use Rattle.st_il.specs.declared.definition.IlDef.TheVariants.{Rule, Clause}
use Rattle.st_il.specs.declared.type_rule.TypeRule.{TypeRule}
use Rattle.st_il.specs.declared.type_rule.TypeRule.TheVariants.{T1, T2, T14}
use Rattle.st_ilcheck.specs.Declarations.{AreNamed}
use Rattle.st_ilcheck.specs.Definitions.{RuleBreaks, ClauseBreaks}
use Rattle.st_ilcheck.specs.Least.{least}
use Rattle.st_ilcheck.specs.Rules.{Told}
use Rattle.st_ilcheck.specs.Variables.{AreListed, all_occurrences, IndicesStayInside}

-- by the types of the expressions in a definition these rules are broken
abbrev pub BreaksByTypes : Il → IlDef → List TypeRule → Type 0
BreaksByTypes il (Rule r) broken = RuleBreaks il r broken
BreaksByTypes il (Clause c) broken = ClauseBreaks il c broken
BreaksByTypes il _ broken = broken ≡ []

-- T2 of a definition
abbrev pub KeepsVariables : IlDef → Type 0
KeepsVariables (Rule r) = AreListed r.variables (all_occurrences r.conclusion r.premises)
KeepsVariables (Clause c) =
    AreListed c.variables (all_occurrences (c.args ++ c.result ∷ []) c.premises)
KeepsVariables _ = Unit {0}

-- T14 of the indices in a definition
abbrev pub KeepsIndices : IlDef → Type 0
KeepsIndices (Rule r) = IndicesStayInside r.conclusion r.premises
KeepsIndices (Clause c) = IndicesStayInside (c.args ++ c.result ∷ []) c.premises
KeepsIndices _ = Unit {0}

-- These rules are broken by a definition that stands behind others.
pub record Breaks (il : Il) (before : List IlDef) (d : IlDef) (broken : List TypeRule)
    : Type 0 where
  pub by_names : List TypeRule
  pub by_variables : List TypeRule
  pub by_indices : List TypeRule
  pub by_types : List TypeRule
  pub names : Told T1 (AreNamed il before d) by_names
  pub variables : Told T2 (KeepsVariables d) by_variables
  pub indices : Told T14 (KeepsIndices d) by_indices
  pub types : BreaksByTypes il d by_types
  pub whole : broken ≡ by_names ++ (by_variables ++ (by_indices ++ by_types))

-- none of these definitions, which stand behind those, breaks a rule
abbrev pub AllKeep : Il → List IlDef → List IlDef → Type 0
AllKeep il before [] = Unit {0}
AllKeep il before (d ∷ ds) = Breaks il before d [] × AllKeep il (before ++ d ∷ []) ds

-- no definition breaks one of the rules T1 to T14
abbrev pub Typed : Il → Type 0
Typed il = AllKeep il [] il.defs

-- Of these definitions, which stand behind those, the first that breaks a rule has this number from
-- 0, and this is the least rule that it breaks.
abbrev pub BreaksAt : Il → List IlDef → List IlDef → ℕ → TypeRule → Type 0
BreaksAt il before [] place rule = ⊥
BreaksAt il before (d ∷ ds) zero rule =
    (broken : List TypeRule) × (Breaks il before d broken × (least broken ≡ Some rule))
BreaksAt il before (d ∷ ds) (suc place) rule =
    Breaks il before d [] × BreaksAt il (before ++ d ∷ []) ds place rule

-- The first definition that breaks a rule, by its number from 0, and the least rule that it breaks.
abbrev pub IsTypeBreach : Il → ℕ → TypeRule → Type 0
IsTypeBreach il place rule = BreaksAt il [] il.defs place rule
