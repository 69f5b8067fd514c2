use Rattle.std.proofs.Common.{◌≡◌, drop}
use Rattle.st_match.specs.inner.Rows.{row_values, behind_these}
use Rattle.st_match.proofs.rows.row_values.Given as goal

abbrev pub invariant-loop-env : goal.invariant-loop-env
invariant-loop-env l = row_values l.name l.row ≡ behind_these l.values (row_values l.name (drop l.env-index l.row))
