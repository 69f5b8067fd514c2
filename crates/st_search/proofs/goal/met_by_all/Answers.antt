use Rattle.std.proofs.Common.{sym, subst, ◌+◌, take}
use Rattle.st_il.specs.Definitions.{syntaxes}
use Rattle.st_match.specs.inner.Scope.{scope_env}
use Rattle.st_search.specs.inner.Meeting.{AreMeetings, AllMeetings}
use Rattle.st_search.proofs.Sequences.{comes_step}
use Rattle.st_search.proofs.goal.met_by_all.Goals as goal

pub loop-answer-preserved : goal.loop-answer-preserved
loop-answer-preserved c =
    subst (AllMeetings (syntaxes c.args.search.now.setting.index.now) c.args.variables.now (scope_env c.args.scope.now) c.args.holes.now c.args.patterns.now (take (c.loop-answer.answer-index + 1) c.args.answers.now)) (sym c.in_ok-found.ensures)
    (comes_step (AreMeetings (syntaxes c.args.search.now.setting.index.now) c.args.variables.now (scope_env c.args.scope.now) c.args.holes.now c.args.patterns.now) c.args.answers.now c.loop-answer.answer-index c.answer-item.result c.loop-answer.found c.in_ok-more.more
    c.loop-answer-test.true c.answer-item.is c.loop-answer.invariant c.in_ok-more.ensures)
