use Rattle.std.proofs.Common.{[], ◌∷◌}
use Rattle.st_il.specs.Names.{has_name}
use Rattle.st_match.specs.inner.Fitting.{HasValue}
use Rattle.st_match.proofs.Covers.{Covers-more, Covers-all}
use Rattle.st_match.proofs.environment.bind_each.Goals as goal

pub loop-env-preserved : goal.loop-env-preserved
loop-env-preserved c =
    Covers-more (HasValue c.args.name.now c.args.value.now) (has_name (c.args.name.now ∷ [])) c.args.envs.now c.loop-env.found c.in_ok-more.more c.in_ok-found.found
    c.loop-env.env-index c.env-item.result c.loop-env-test.true c.env-item.is c.in_ok-found.ensures c.loop-env.invariant c.in_ok-more.ensures

pub returns : goal.returns
returns c =
    Covers-all (HasValue c.args.name.now c.args.value.now) (has_name (c.args.name.now ∷ [])) c.args.envs.now c.loop-env.found c.loop-env.env-index c.loop-env-test.false c.loop-env.invariant
