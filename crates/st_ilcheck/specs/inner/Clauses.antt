-- What is broken in the arguments and in the result of a clause.
use Rattle.std.specs.Prelude.{◌≡◌, List, ◌++◌, Option}
use Rattle.st_il.specs.declared.definition.ClauseDef.{ClauseDef}
use Rattle.st_il.specs.declared.definition.Il.{Il}
use Rattle.st_il.specs.declared.ty.Ty.{Ty}
use Rattle.st_il.specs.declared.type_rule.TypeRule.{TypeRule}
use Rattle.st_il.specs.declared.type_rule.TypeRule.TheVariants.{T12}
use Rattle.st_ilcheck.specs.Parts.{standing}
use Rattle.st_ilcheck.specs.Rules.{IsCallOf, Told}
use Rattle.st_ilcheck.specs.Typings.{HasTyping, HaveTypings}
use Rattle.st_ilcheck.specs.Definitions.{IsResultOf}

-- these rules are broken in the arguments of a clause, and by them
pub record ArgumentsBreak (il : Il) (c : ClauseDef) (broken : List TypeRule) : Type 0 where
  pub os : List (Option Ty)
  pub inside : List TypeRule
  pub here : List TypeRule
  pub arguments : HaveTypings il (standing c.variables c.args) os inside
  pub applied : Told T12 (IsCallOf il c.fun os) here
  pub whole : broken ≡ inside ++ here

-- these rules are broken in the result of a clause, and by it
pub record ResultBreaks (il : Il) (c : ClauseDef) (broken : List TypeRule) : Type 0 where
  pub o : Option Ty
  pub inside : List TypeRule
  pub here : List TypeRule
  pub result : HasTyping il c.variables c.result o inside
  pub given : Told T12 (IsResultOf il c.fun o) here
  pub whole : broken ≡ inside ++ here
