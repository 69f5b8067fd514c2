use Rattle.std.proofs.Common.{refl}
use Rattle.st_ilread.proofs.DefinitionTrees.{mode_no_form, mode_read}
use Rattle.st_ilread.proofs.definition.read_mode.Goals as goal

pub returns-in_default : goal.returns-in_default
returns-in_default c = (refl, mode_no_form _ c.in_default.ensures)

pub returns : goal.returns
returns c = mode_read _ _ _ c.in-Some.ensures c.read_directions.ensures
