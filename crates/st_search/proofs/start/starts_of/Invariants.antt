use Rattle.std.proofs.Common.{◌≡◌, ◌++◌, drop}
use Rattle.st_search.specs.inner.Rules.{started}
use Rattle.st_search.proofs.start.starts_of.Given as goal

abbrev pub invariant-loop-env : goal.invariant-loop-env
invariant-loop-env l = l.starts ++ started (drop l.env-index l.envs) ≡ started l.envs
