use Rattle.std.proofs.Common.{rules}
use Rattle.st_elab_rows.proofs.Builds.{gives_made}
use Rattle.st_elab_rows.proofs.operand.not_row.Goals as goal

pub returns : goal.returns
returns g c = c.in_ok-truth.ensures _ _ (gives_made _ _ _ _ _ (search rules))
