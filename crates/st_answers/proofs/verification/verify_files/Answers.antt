use Rattle.std.proofs.Common.{◌≡◌, None, Some, Option, sym, ◌∙◌}
use Rattle.st_il.specs.declared.type_rule.TypeRule.{TypeRule}
use Rattle.st_answers.proofs.Verifications.{no_language, no_typing}
use Rattle.st_answers.proofs.verification.verify_files.Goals as goal

pub returns-in-Err-Malformed : goal.returns-in-Err-Malformed
returns-in-Err-Malformed c =
    no_language c.args.il.now c.args.derivation.now c.in-Err-Malformed.line c.malformed_answer.result
    (rw c.in-Err-Malformed.field-0-is at c.in-Err-Malformed.ensures.read) c.malformed_answer.ensures.status c.malformed_answer.ensures.bytes

pub returns-in-Some : goal.returns-in-Some
returns-in-Some c =
    let breach = c.in-Err-Refused.ensures.refused c.in-Err-Refused.field-0-0 c.in-Err-Refused.line c.in-Err-Refused.typing (cc (c.in-Err-Refused.field-0-is)) in
    no_typing c.args.il.now c.args.derivation.now c.in-Ok.il c.in-Err-Refused.field-0-0 c.in-Err-Refused.line c.in-Err-Refused.typing c.in-Some.rule c.untyped_answer.result
    c.in-Ok.ensures.read breach c.in-Some.is c.untyped_answer.ensures.status c.untyped_answer.ensures.bytes

pub unreachable-requires : goal.unreachable-requires
unreachable-requires c =
    let breach = c.in-Err-Refused.ensures.refused c.in-Err-Refused.field-0-0 c.in-Err-Refused.line c.in-Err-Refused.typing (cc (c.in-Err-Refused.field-0-is)) in
    let none : ◌≡◌ {A = Option TypeRule} None (Some breach.broken) = sym c.in-None.is ∙ breach.typing_is in
    cc
