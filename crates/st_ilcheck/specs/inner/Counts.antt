-- What is broken by the count of an iterated premise.
use Rattle.std.specs.Prelude.{◌≡◌, List, ◌++◌, Option}
use Rattle.st_il.specs.declared.definition.Il.{Il}
use Rattle.st_il.specs.declared.definition.Listed.{Listed}
use Rattle.st_il.specs.declared.expression.Iteration.{Iteration}
use Rattle.st_il.specs.declared.ty.Ty.{Ty}
use Rattle.st_il.specs.declared.ty.Ty.TheVariants as ty
use Rattle.st_il.specs.declared.type_rule.TypeRule.{TypeRule}
use Rattle.st_il.specs.declared.type_rule.TypeRule.TheVariants.{T14}
use Rattle.st_il.specs.Definitions.{syntaxes}
use Rattle.st_semantics.specs.Iterations.{count_of}
use Rattle.st_ilcheck.specs.Parts.{standing}
use Rattle.st_ilcheck.specs.Rules.{AllAre, Told}
use Rattle.st_ilcheck.specs.Typings.{HaveTypings}

-- these rules are broken in the count of an iteration, and by it, which is to be natural
pub record CountBreaks (il : Il) (ls : List Listed) (how : Iteration) (broken : List TypeRule)
    : Type 0 where
  pub os : List (Option Ty)
  pub counted : List TypeRule
  pub here : List TypeRule
  pub count : HaveTypings il (standing ls (count_of how)) os counted
  pub natural : Told T14 (AllAre (syntaxes il) ty.Nat os) here
  pub whole : broken ≡ counted ++ here
