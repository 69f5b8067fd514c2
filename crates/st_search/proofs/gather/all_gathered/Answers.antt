use Rattle.std.proofs.Common.{sym, subst, ◌+◌, take}
use Rattle.st_search.specs.declared.found.Walk.{Walk}
use Rattle.st_eval.specs.declared.condition.Met.TheVariants as met
use Rattle.st_eval.specs.inner.Known.{names_now}
use Rattle.st_eval.specs.inner.Gathered.{IsGathered}
use Rattle.st_search.specs.inner.Gathering.{IsGatheredTo, AreGatheredTo, SomeTooHigh}
use Rattle.st_search.proofs.Sequences.{comes_step, StopsIf-at, stops_again}
use Rattle.st_search.proofs.gather.all_gathered.Goals as goal

pub returns-in_err-more-clause-stops : goal.returns-in_err-more-clause-stops
returns-in_err-more-clause-stops c =
    stops_again (SomeTooHigh c.args.types.now c.args.variables.now (names_now c.args.known.now) c.args.how.now c.args.names.now c.args.walks.now) _ c.in_err-more.field-0.0 c.from_residual.ensures.1
    (StopsIf-at (λ (w : Walk). IsGathered c.args.types.now c.args.variables.now (names_now c.args.known.now) c.args.how.now c.args.names.now w.envs met.Deep) c.args.walks.now c.loop-walk.walk-index c.walk-item.result c.loop-walk-test.true c.walk-item.is
    c.in_err-more.field-0.0 c.in_err-more.ensures.stops)

pub loop-walk-preserved : goal.loop-walk-preserved
loop-walk-preserved c =
    subst (AreGatheredTo c.args.types.now c.args.variables.now (names_now c.args.known.now) c.args.how.now c.args.names.now c.args.asks (take (c.loop-walk.walk-index + 1) c.args.walks.now)) (sym c.in_ok-found.ensures)
    (comes_step (IsGatheredTo c.args.types.now c.args.variables.now (names_now c.args.known.now) c.args.how.now c.args.names.now c.args.asks) c.args.walks.now c.loop-walk.walk-index c.walk-item.result c.loop-walk.found c.in_ok-more.more c.loop-walk-test.true
    c.walk-item.is c.loop-walk.invariant c.in_ok-more.ensures.found)
