use Rattle.std.proofs.Common.{rules}
use Rattle.st_elab_rows.proofs.Builds.{gives_made}
use Rattle.st_elab_exp.proofs.collection.absent.Goals as goal

pub returns : goal.returns
returns c = gives_made _ _ _ _ _ (search rules)
