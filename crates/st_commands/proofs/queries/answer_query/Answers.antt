use Rattle.std.proofs.Common.{ap, ◌∙◌}
use Rattle.std.specs.Prelude.{Err}
use Rattle.st_commands.proofs.Evaluations.{says_outcome, says_breach}
use Rattle.st_commands.proofs.queries.answer_query.Goals as goal

pub returns-in-Ok : goal.returns-in-Ok
returns-in-Ok c =
    says_outcome c.args.il.now c.args.depth c.args.query.now c.eval.result c.in-Ok.outcome c.answer_outcome.result c.in-Ok.is c.eval.ensures c.answer_outcome.ensures

pub returns-in-Err-Refused : goal.returns-in-Err-Refused
returns-in-Err-Refused c =
    says_breach c.args.il.now c.args.depth c.args.query.now c.eval.result c.in-Err-Refused.at c.in-Err-Refused.rule c.refused_term.result
    (c.in-Err-Refused.is ∙ ap Err c.in-Err-Refused.field-0-is) c.eval.ensures c.refused_term.ensures.status c.refused_term.ensures.bytes
