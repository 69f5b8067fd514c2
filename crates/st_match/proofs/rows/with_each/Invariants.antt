use Rattle.std.proofs.Common.{◌≡◌, ◌++◌, drop}
use Rattle.st_match.specs.inner.Rows.{with_each}
use Rattle.st_match.proofs.rows.with_each.Given as goal

abbrev pub invariant-loop-env : goal.invariant-loop-env
invariant-loop-env l = with_each l.row l.envs ≡ l.rows ++ with_each l.row (drop l.env-index l.envs)
