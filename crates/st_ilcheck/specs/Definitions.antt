-- The rules on types that are broken in a rule or a clause.
use Rattle.std.specs.Prelude.{◌≡◌, List, ◌++◌, Option, Some}
use Rattle.st_il.specs.declared.definition.ClauseDef.{ClauseDef}
use Rattle.st_il.specs.declared.definition.FunDef.{FunDef}
use Rattle.st_il.specs.declared.definition.Il.{Il}
use Rattle.st_il.specs.declared.definition.RuleDef.{RuleDef}
use Rattle.st_il.specs.declared.ty.Ty.{Ty}
use Rattle.st_il.specs.declared.type_rule.TypeRule.{TypeRule}
use Rattle.st_il.specs.declared.type_rule.TypeRule.TheVariants.{T12}
use Rattle.st_il.specs.Names.{Name}
use Rattle.st_il.specs.Definitions.{syntaxes}
use Rattle.st_semantics.specs.Typing.{function_named}
use Rattle.st_ilcheck.specs.Parts.{standing}
use Rattle.st_ilcheck.specs.Rules.{Is, IsCallOf, Told}
use Rattle.st_ilcheck.specs.Typings.{HasTyping, HaveTypings}
use Rattle.st_ilcheck.specs.Premises.{IsJudgementOf, PremsBreak}

-- These rules are broken in a rule: in its conclusion, by it, and in its premises.
pub record RuleBreaks (il : Il) (r : RuleDef) (broken : List TypeRule) : Type 0 where
  pub os : List (Option Ty)
  pub inside : List TypeRule
  pub here : List TypeRule
  pub premises : List TypeRule
  pub conclusion : HaveTypings il (standing r.variables r.conclusion) os inside
  -- T12: the conclusion has the types of the relation's holes
  pub concluded : Told T12 (IsJudgementOf il r.relation os) here
  pub met : PremsBreak il r.variables r.premises premises
  pub whole : broken ≡ inside ++ (here ++ premises)

-- the result has the type that the function declares
pub record IsResultOf (il : Il) (fun : Name) (o : Option Ty) : Type 0 where
  pub declared : FunDef
  pub found : function_named il fun ≡ Some declared
  pub typed : Is (syntaxes il) o declared.result

-- These rules are broken in a clause: in its arguments, by them, in its result, by it, and in its
-- premises.
pub record ClauseBreaks (il : Il) (c : ClauseDef) (broken : List TypeRule) : Type 0 where
  pub os : List (Option Ty)
  pub o : Option Ty
  pub in_arguments : List TypeRule
  pub by_arguments : List TypeRule
  pub in_result : List TypeRule
  pub by_result : List TypeRule
  pub premises : List TypeRule
  pub arguments : HaveTypings il (standing c.variables c.args) os in_arguments
  -- T12: the arguments have the types of the function's parameters, and the result that of its own
  pub applied : Told T12 (IsCallOf il c.fun os) by_arguments
  pub result : HasTyping il c.variables c.result o in_result
  pub given : Told T12 (IsResultOf il c.fun o) by_result
  pub met : PremsBreak il c.variables c.premises premises
  pub whole : broken
      ≡ in_arguments ++ (by_arguments ++ (in_result ++ (by_result ++ premises)))
