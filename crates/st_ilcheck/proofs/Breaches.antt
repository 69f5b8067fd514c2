-- A typed language has no breach, and every other one has one at most.
use Rattle.std.proofs.Common.{◌≡◌, refl, sym, ap, ◌∙◌, ℕ, zero, suc, List, [], ◌∷◌, ◌++◌, Some, None}
use Rattle.st_il.specs.declared.definition.Il.{Il}
use Rattle.st_il.specs.declared.definition.IlDef.{IlDef}
use Rattle.st_il.specs.declared.definition.IlDef.TheVariants.{Syntax, Var, Relation, Rule, Fun, Clause}
use Rattle.st_il.specs.declared.type_rule.TypeRule.{TypeRule}
use Rattle.st_il.specs.declared.type_rule.TypeRule.TheVariants.{T1, T2, T14}
use Rattle.st_ilcheck.specs.Least.{least}
use Rattle.st_ilcheck.specs.Typed.{Breaks, BreaksByTypes, AllKeep, BreaksAt}
use Rattle.st_ilcheck.proofs.Single.{Told-single, joined, RuleBreaks-single, ClauseBreaks-single}

module _ (il : Il) where
  BreaksByTypes-single : (d : IlDef) (a b : List TypeRule) → BreaksByTypes il d a → BreaksByTypes il d b → a ≡ b
  BreaksByTypes-single (Rule r) a b h k = RuleBreaks-single il r a b h k
  BreaksByTypes-single (Clause c) a b h k = ClauseBreaks-single il c a b h k
  BreaksByTypes-single (Syntax s) a b h k = h ∙ sym k
  BreaksByTypes-single (Var x t) a b h k = h ∙ sym k
  BreaksByTypes-single (Relation r) a b h k = h ∙ sym k
  BreaksByTypes-single (Fun f) a b h k = h ∙ sym k

  pub Breaks-single : (before : List IlDef) (d : IlDef) (a b : List TypeRule) → Breaks il before d a → Breaks il before d b → a ≡ b
  Breaks-single before d a b h k =
      let n = Told-single T1 _ h.by_names k.by_names h.names k.names in
      let v = Told-single T2 _ h.by_variables k.by_variables h.variables k.variables in
      let i = Told-single T14 _ h.by_indices k.by_indices h.indices k.indices in
      let t = BreaksByTypes-single d h.by_types k.by_types h.types k.types in
      h.whole
      ∙ joined h.by_names (h.by_variables ++ (h.by_indices ++ h.by_types)) k.by_names (k.by_variables ++ (k.by_indices ++ k.by_types)) n
      (joined h.by_variables (h.by_indices ++ h.by_types) k.by_variables (k.by_indices ++ k.by_types) v
      (joined h.by_indices h.by_types k.by_indices k.by_types i t))
      ∙ sym k.whole

  -- what keeps all rules breaks none
  keeps : (before : List IlDef) (d : IlDef) (broken : List TypeRule) (rule : TypeRule) → Breaks il before d [] → Breaks il before d broken
      → least broken ≡ Some rule → ⊥
  keeps before d broken rule h k e =
      let f : None ≡ Some rule = ap least (Breaks-single before d [] broken h k) ∙ e in cc

  pub AllKeep-breach : (before ds : List IlDef) (place : ℕ) (rule : TypeRule) → AllKeep il before ds → BreaksAt il before ds place rule → ⊥
  AllKeep-breach before [] place rule h k = k
  AllKeep-breach before (d ∷ ds) zero rule h k = keeps before d k.0 rule h.0 k.1.0 k.1.1
  AllKeep-breach before (d ∷ ds) (suc place) rule h k = AllKeep-breach (before ++ d ∷ []) ds place rule h.1 k.1

  pub BreaksAt-single : (before ds : List IlDef) (place other : ℕ) (rule broken : TypeRule) → BreaksAt il before ds place rule
      → BreaksAt il before ds other broken → (place ≡ other) × (rule ≡ broken)
  BreaksAt-single before [] place other rule broken h k = absurd h
  BreaksAt-single before (d ∷ ds) zero zero rule broken h k =
      let e : Some rule ≡ Some broken = sym h.1.1 ∙ ap least (Breaks-single before d h.0 k.0 h.1.0 k.1.0) ∙ k.1.1 in
      let f : rule ≡ broken = cc in
      (refl, f)
  BreaksAt-single before (d ∷ ds) zero (suc other) rule broken h k = absurd (keeps before d h.0 rule k.0 h.1.0 h.1.1)
  BreaksAt-single before (d ∷ ds) (suc place) zero rule broken h k = absurd (keeps before d k.0 broken h.0 k.1.0 k.1.1)
  BreaksAt-single before (d ∷ ds) (suc place) (suc other) rule broken h k =
      let r = BreaksAt-single (before ++ d ∷ []) ds place other rule broken h.1 k.1 in
      (ap suc r.0, r.1)
