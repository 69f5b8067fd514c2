use Rattle.st_elab_rows.proofs.Builds.{gives_made}
use Rattle.st_elab_exp.proofs.inferred.number_row.Goals as goal

pub returns : goal.returns
returns c = gives_made _ _ _ _ _ c.in_ok-given.ensures
