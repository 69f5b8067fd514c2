use Rattle.st_semantics.specs.Patterns.{binds}
use Rattle.st_semantics.specs.Variables.{vars}
use Rattle.st_match.specs.inner.Scope.{scope_env}
use Rattle.st_search.proofs.FewValues.{few_bound}
use Rattle.st_search.proofs.condition.matched.Goals as goal

pub matches-requires-clause-bound : goal.matches-requires-clause-bound
matches-requires-clause-bound c = few_bound (scope_env c.args.scope.now) (vars c.args.pattern.now) c.in_ok-few.few c.in_ok-few.ensures (binds c.args.pattern.now) c.requires.bound
