use Rattle.st_elab_rows.proofs.Builds.{asks_reach}
use Rattle.st_elab_rows.proofs.ask.found_inside.Goals as goal

pub returns : goal.returns
returns g c = asks_reach _ _ _ _ _ c.answer.ensures
