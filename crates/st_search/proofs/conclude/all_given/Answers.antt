use Rattle.st_semantics.specs.declared.outcome.Outcome.TheVariants.{Deep}
use Rattle.st_search.specs.declared.found.Partial.{Partial}
use Rattle.st_search.specs.inner.Holes.{SomeGives}
use Rattle.st_search.specs.inner.Lists.{Exists}
use Rattle.st_search.proofs.EndFinds.{from_step}
use Rattle.st_search.proofs.Sequences.{StopsIf-at, stops_again}
use Rattle.st_search.proofs.conclude.all_given.Goals as goal

pub returns-in_err-more-clause-stops : goal.returns-in_err-more-clause-stops
returns-in_err-more-clause-stops c =
    stops_again (Exists (λ (end : Partial). SomeGives c.args.search.now.setting.index.now c.args.search.now.setting.depth end.env c.args.outs.now Deep) c.args.ends.now) c.from_residual.result c.in_err-more.field-0.0 c.from_residual.ensures.1
    (StopsIf-at (λ (end : Partial). SomeGives c.args.search.now.setting.index.now c.args.search.now.setting.depth end.env c.args.outs.now Deep) c.args.ends.now c.loop-end.end-index c.end-item.result c.loop-end-test.true c.end-item.is c.in_err-more.field-0.0 c.in_err-more.ensures.stops)

pub loop-end-preserved : goal.loop-end-preserved
loop-end-preserved c = from_step c.args.search.now.setting.index.now c.args.search.now.setting.depth c.args.place.now c.args.inputs.now c.args.ends.now c.loop-end.end-index c.end-item.result c.loop-end-test.true c.end-item.is c.loop-end.found c.in_ok-more.more c.in_ok-found.found c.loop-end.invariant c.in_ok-more.ensures.found c.in_ok-found.ensures
