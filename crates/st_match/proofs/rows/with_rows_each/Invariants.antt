use Rattle.std.proofs.Common.{take}
use Rattle.st_match.specs.inner.Rows.{AllColumnsCover}
use Rattle.st_match.proofs.rows.with_rows_each.Given as goal

abbrev pub invariant-loop-env : goal.invariant-loop-env
invariant-loop-env l = AllColumnsCover l.how l.names l.rows (take l.env-index l.envs) l.found
