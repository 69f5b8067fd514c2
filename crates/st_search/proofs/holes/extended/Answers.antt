use Rattle.std.proofs.Common.{map}
use Rattle.st_il.specs.Names.{flattened}
use Rattle.st_semantics.specs.Patterns.{binds}
use Rattle.st_semantics.specs.Variables.{vars_of}
use Rattle.st_match.specs.inner.Scope.{scope_env}
use Rattle.st_search.proofs.FewValues.{few_bound}
use Rattle.st_search.proofs.holes.extended.Goals as goal

pub extensions-requires-clause-bound : goal.extensions-requires-clause-bound
extensions-requires-clause-bound c =
    few_bound (scope_env c.args.scope.now) (vars_of c.args.patterns.now) c.in_ok-few.few c.in_ok-few.ensures (flattened (map binds c.args.patterns.now)) c.requires.bound
