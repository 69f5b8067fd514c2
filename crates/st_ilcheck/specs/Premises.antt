-- The rules on types that are broken in a premise.
use Rattle.std.specs.Prelude.{◌≡◌, List, [], ◌∷◌, ◌++◌, Option, Some, IsTrue}
use Rattle.st_il.specs.declared.definition.Il.{Il}
use Rattle.st_il.specs.declared.definition.Listed.{Listed}
use Rattle.st_il.specs.declared.definition.RelationDef.{RelationDef}
use Rattle.st_il.specs.declared.expression.IlExp.{IlExp}
use Rattle.st_il.specs.declared.expression.IlPrem.{IlPrem, out-IlPrem}
use Rattle.st_il.specs.declared.expression.IlPrem.TheOpen.{IlPrem-F}
use Rattle.st_il.specs.declared.expression.Iteration.{Iteration}
use Rattle.st_il.specs.declared.ty.Ty.{Ty}
use Rattle.st_il.specs.declared.ty.Ty.TheVariants as ty
use Rattle.st_il.specs.declared.type_rule.TypeRule.{TypeRule}
use Rattle.st_il.specs.declared.type_rule.TypeRule.TheVariants.{T4, T12, T14}
use Rattle.st_il.specs.Names.{Name}
use Rattle.st_il.specs.Definitions.{syntaxes, relation_named}
use Rattle.st_semantics.specs.Iterations.{count_of}
use Rattle.st_semantics.specs.Scopes.{listed_inside}
use Rattle.st_ilcheck.specs.Naming.{each_kept}
use Rattle.st_ilcheck.specs.Parts.{standing}
use Rattle.st_ilcheck.specs.Rules.{Is, AllAre, Are, Told}
use Rattle.st_ilcheck.specs.Typings.{HasTyping, HaveTypings}

-- T12: there is a part of the declared type for each hole of the relation
pub record IsJudgementOf (il : Il) (relation : Name) (os : List (Option Ty)) : Type 0 where
  pub declared : RelationDef
  pub found : relation_named il relation ≡ Some declared
  pub typed : Are (syntaxes il) declared.holes os

-- These rules are broken in a premise, first in its expressions.
pub data PremBreaks (il : Il) : List Listed → IlPrem → List TypeRule → Type 0 where
  -- T4: a condition is `bool`
  condition : {ls : List Listed} {p : IlPrem} {broken : List TypeRule} (e : IlExp)
      (o : Option Ty) (inside here : List TypeRule) → out-IlPrem p ≡ IlPrem-F.If e
      → HasTyping il ls e o inside → Told T4 (Is (syntaxes il) o ty.Bool) here
      → broken ≡ inside ++ here → PremBreaks il ls p broken
  goal : {ls : List Listed} {p : IlPrem} {broken : List TypeRule} (relation : Name)
      (es : List IlExp) (os : List (Option Ty)) (inside here : List TypeRule)
      → out-IlPrem p ≡ IlPrem-F.Goal relation es → HaveTypings il (standing ls es) os inside
      → Told T12 (IsJudgementOf il relation os) here → broken ≡ inside ++ here
      → PremBreaks il ls p broken
  otherwise : {ls : List Listed} {p : IlPrem} {broken : List TypeRule}
      → out-IlPrem p ≡ IlPrem-F.Otherwise → broken ≡ [] → PremBreaks il ls p broken
  -- T14: the count of an iteration is `nat`; it names what it goes over, and is no `otherwise`
  each : {ls : List Listed} {p : IlPrem} {broken : List TypeRule} (how : Iteration)
      (xs : List Name) (body : IlPrem) (os : List (Option Ty))
      (counted here named inside : List TypeRule)
      → out-IlPrem p ≡ IlPrem-F.Each how xs body
      → HaveTypings il (standing ls (count_of how)) os counted
      → Told T14 (AllAre (syntaxes il) ty.Nat os) here
      → Told T14 (IsTrue (each_kept how xs ls body)) named
      → PremBreaks il (listed_inside how xs ls) body inside
      → broken ≡ counted ++ (here ++ (named ++ inside)) → PremBreaks il ls p broken

-- these rules are broken in some premises
pub data PremsBreak (il : Il) (ls : List Listed) : List IlPrem → List TypeRule → Type 0 where
  none : PremsBreak il ls [] []
  more : {p : IlPrem} {ps : List IlPrem} {broken : List TypeRule} (first rest : List TypeRule)
      → PremBreaks il ls p first → PremsBreak il ls ps rest → broken ≡ first ++ rest
      → PremsBreak il ls (p ∷ ps) broken
