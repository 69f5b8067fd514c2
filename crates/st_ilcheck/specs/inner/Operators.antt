-- What is asked of an expression by parts of the table of rules.
use Rattle.std.specs.Prelude.{List, Option}
use Rattle.st_il.specs.declared.definition.Il.{Il}
use Rattle.st_il.specs.declared.expression.IlExp.TheOpen.{IlExp-F}
use Rattle.st_il.specs.declared.ty.Ty.{Ty}
use Rattle.st_il.specs.declared.type_rule.TypeRule.{TypeRule}
use Rattle.st_il.specs.declared.type_rule.TypeRule.TheVariants.{T3, T4, T5, T6}
use Rattle.st_semantics.specs.OperationTypes.{Level}
use Rattle.st_ilcheck.specs.Rules.{Asks}

-- what is asked of an expression that names no syntax or function
abbrev pub AsksParts : Il → Level → List (Option Ty) → Type 0
AsksParts il (IlExp-F.Case type tag es) os = Unit {0}
AsksParts il (IlExp-F.Fields type es) os = Unit {0}
AsksParts il (IlExp-F.Call fun es) os = Unit {0}
AsksParts il level os = Asks il level os

-- what is asked of an operator
abbrev pub AsksOperator : Il → Level → List (Option Ty) → Type 0
AsksOperator il (IlExp-F.Dot e name) os = Unit {0}
AsksOperator il (IlExp-F.Set e path g) os = Unit {0}
AsksOperator il (IlExp-F.Extend e path g) os = Unit {0}
AsksOperator il (IlExp-F.Join e g) os = Unit {0}
AsksOperator il (IlExp-F.Tuple es) os = Unit {0}
AsksOperator il (IlExp-F.Present e) os = Unit {0}
AsksOperator il (IlExp-F.List t items) os = Unit {0}
AsksOperator il (IlExp-F.Cat e g) os = Unit {0}
AsksOperator il (IlExp-F.Absent t) os = Unit {0}
AsksOperator il (IlExp-F.Len e) os = Unit {0}
AsksOperator il (IlExp-F.IlExp::At e g) os = Unit {0}
AsksOperator il (IlExp-F.IlExp::Slice e g h) os = Unit {0}
AsksOperator il (IlExp-F.Up t e) os = Unit {0}
AsksOperator il (IlExp-F.Iter how xs body) os = Unit {0}
AsksOperator il level os = AsksParts il level os

-- the rule of an operator
abbrev pub operator_rule : Level → TypeRule
operator_rule (IlExp-F.Not e) = T4
operator_rule (IlExp-F.And e g) = T4
operator_rule (IlExp-F.Or e g) = T4
operator_rule (IlExp-F.Imp e g) = T4
operator_rule (IlExp-F.Iff e g) = T4
operator_rule (IlExp-F.Neg e) = T5
operator_rule (IlExp-F.Add n e g) = T5
operator_rule (IlExp-F.Sub n e g) = T5
operator_rule (IlExp-F.Mul n e g) = T5
operator_rule (IlExp-F.Div n e g) = T5
operator_rule (IlExp-F.Rem n e g) = T5
operator_rule (IlExp-F.Pow n e g) = T5
operator_rule (IlExp-F.Lt e g) = T5
operator_rule (IlExp-F.Gt e g) = T5
operator_rule (IlExp-F.Le e g) = T5
operator_rule (IlExp-F.Ge e g) = T5
operator_rule (IlExp-F.Eq e g) = T6
operator_rule (IlExp-F.Ne e g) = T6
operator_rule (IlExp-F.Member e g) = T6
operator_rule _ = T3
