use Rattle.std.proofs.Common.{Option, drop}
use Rattle.st_semantics.specs.declared.verify_rule.VerifyRule.{VerifyRule}
use Rattle.st_verify.specs.SmallVerdict.{Keeps, FirstBroken, FirstBreach}
use Rattle.st_verify.proofs.verdict.broken_rule.Given as goal

-- what is first broken of the rules that are left is first broken of all
abbrev pub invariant-loop-rule : goal.invariant-loop-rule
invariant-loop-rule l =
    (broken : Option VerifyRule) → FirstBroken (Keeps l.il l.notes l.line) (drop l.rule-index l.rule-items) broken → FirstBreach l.il l.notes l.line broken
