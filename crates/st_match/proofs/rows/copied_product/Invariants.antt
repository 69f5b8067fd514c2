use Rattle.std.proofs.Common.{◌≡◌, ◌++◌, drop}
use Rattle.st_match.specs.inner.Rows.{product}
use Rattle.st_match.proofs.rows.copied_product.Given as goal

abbrev pub invariant-loop-row : goal.invariant-loop-row
invariant-loop-row l = product l.rows l.envs ≡ l.longer ++ product (drop l.row-index l.rows) l.envs
