use Rattle.std.proofs.Common.{rules, subst}
use Rattle.st_eval.specs.declared.condition.Met.TheVariants as met
use Rattle.st_eval.specs.inner.Known.{names_now}
use Rattle.st_eval.specs.inner.Gathered.{IsGathered}
use Rattle.st_search.specs.inner.Gathering.{holds}
use Rattle.st_search.proofs.gather.gathered.Goals as goal

pub returns-in_ok-push-in-Holds-clause-found : goal.returns-in_ok-push-in-Holds-clause-found
returns-in_ok-push-in-Holds-clause-found c =
    holds c.in-Holds.env
    (subst (λ z. IsGathered c.args.types.now c.args.variables.now (names_now c.args.known.now) c.args.how.now c.args.names.now z (met.Holds c.in-Holds.env)) c.as_slice-envs.ensures
    (subst (IsGathered c.args.types.now c.args.variables.now (names_now c.args.known.now) c.args.how.now c.args.names.now c.as_slice-envs.result.now) c.in-Holds.is c.in_ok-met.ensures))
    (search rules)
