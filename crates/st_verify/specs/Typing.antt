-- The typing rule behind a refusal.
use Rattle.std.specs.Prelude.{◌≡◌, ℕ, ◌+◌, Option, Some, None}
use Rattle.st_il.specs.declared.definition.Il.{Il}
use Rattle.st_il.specs.declared.type_rule.TypeRule.{TypeRule}
use Rattle.st_semantics.specs.declared.verify_rule.VerifyRule.{VerifyRule}
use Rattle.st_semantics.specs.declared.verify_rule.VerifyRule.TheVariants.{V2}
use Rattle.st_ilcheck.specs.Typed.{IsTypeBreach}
use Rattle.st_verify.specs.declared.fault.VerifyFault.{VerifyFault}
use Rattle.st_verify.specs.declared.fault.VerifyFault.TheVariants.{Refused, Memory}

-- the typing rule of a refusal, where it has one
abbrev pub typing_of : VerifyFault → Option TypeRule
typing_of (Refused rule line typing) = typing
typing_of Memory = None

-- An internal language is refused by V2, at the line of its first definition that breaks a typing
-- rule, with the least rule that this one breaks.
pub record IsUntyped (il : Il) (rule : VerifyRule) (line : ℕ) (typing : Option TypeRule)
    : Type 0 where
  pub place : ℕ
  pub broken : TypeRule
  pub breach : IsTypeBreach il place broken
  pub rule_is : rule ≡ V2
  pub line_is : line ≡ place + 1
  pub typing_is : typing ≡ Some broken
