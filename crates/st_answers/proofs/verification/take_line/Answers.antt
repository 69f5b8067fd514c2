use Rattle.std.proofs.Common.{ap, ◌∙◌}
use Rattle.std.specs.Prelude.{Err}
use Rattle.st_answers.proofs.Verifications.{takes_refused}
use Rattle.st_answers.proofs.verification.take_line.Goals as goal

pub returns-in-Err-Refused : goal.returns-in-Err-Refused
returns-in-Err-Refused c =
    takes_refused c.args.verifier.now c.feed.new.self c.args.bytes.now c.in_ok-is_line_text.field-0 c.feed.result _ _ _
    (c.in-Err-Refused.is ∙ ap Err c.in-Err-Refused.field-0-is) c.feed.ensures c.if-not-branch.false c.in_ok-is_line_text.ensures
