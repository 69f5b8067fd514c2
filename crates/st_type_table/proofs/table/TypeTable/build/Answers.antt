use Rattle.std.proofs.Common.{subst}
use Rattle.st_type_table.specs.Breach.{IsSound}
use Rattle.st_type_table.proofs.table.TypeTable.build.Goals as goal

pub returns-in_ok-forms-in-Ok-clause-sound : goal.returns-in_ok-forms-in-Ok-clause-sound
returns-in_ok-forms-in-Ok-clause-sound c = subst IsSound c.as_slice.ensures c.in-Ok.ensures.sound
