use Rattle.std.proofs.Common.{ap}
use Rattle.st_parse.specs.inner.ExpressionDrafts.{draft, with_actions}
use Rattle.st_parse.proofs.ExpressionDrafted.{completes}
use Rattle.st_parse.proofs.expression_draft.end.Goals as goal

pub returns : goal.returns
returns c =
    completes c.complete.result (with_actions c.args.added.now c.args.reader.now) (draft c.args.reader.now.exps c.add_actions.new.actions) _
    (ap (draft c.args.reader.now.exps) c.in_ok-add_actions.ensures) c.complete.ensures.actions c.complete.ensures.exps
