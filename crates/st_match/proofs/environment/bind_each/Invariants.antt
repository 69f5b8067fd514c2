use Rattle.std.proofs.Common.{take, [], ◌∷◌}
use Rattle.st_il.specs.Names.{has_name}
use Rattle.st_match.specs.inner.Fitting.{HasValue}
use Rattle.st_match.specs.inner.Covering.{Covers}
use Rattle.st_match.proofs.environment.bind_each.Given as goal

abbrev pub invariant-loop-env : goal.invariant-loop-env
invariant-loop-env l = Covers (HasValue l.name l.value) (has_name (l.name ∷ [])) (take l.env-index l.envs) l.found
