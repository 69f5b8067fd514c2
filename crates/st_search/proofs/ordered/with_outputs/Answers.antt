use Rattle.std.proofs.Common.{rules, [], append-nil}
use Rattle.st_search.proofs.OrderedLaws.{added_none, added_step}
use Rattle.st_search.proofs.ordered.with_outputs.Goals as goal

pub loop-output-init : goal.loop-output-init
loop-output-init c = ([], search (rules, append-nil), added_none c.args.found)

pub loop-output-preserved : goal.loop-output-preserved
loop-output-preserved c =
    added_step c.in-Some.output c.args.others c.loop-output.others _ c.loop-output.invariant.0 c.args.found c.loop-output.more _ c.loop-output.invariant.1 c.in-Some.ensures c.loop-output.invariant.2 c.in_ok-more.ensures
