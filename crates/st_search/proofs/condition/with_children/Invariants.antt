use Rattle.std.proofs.Common.{◌≡◌, ◌++◌, drop}
use Rattle.st_search.specs.inner.Solutions.{with_children}
use Rattle.st_search.proofs.condition.with_children.Given as goal

abbrev pub invariant-loop-env : goal.invariant-loop-env
invariant-loop-env l = l.found ++ with_children l.children (drop l.env-index l.envs) ≡ with_children l.children l.envs
