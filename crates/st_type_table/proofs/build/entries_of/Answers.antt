use Rattle.std.proofs.Common.{subst}
use Rattle.st_type_table.specs.Breach.{IsSound}
use Rattle.st_type_table.proofs.build.entries_of.Goals as goal

pub returns-clause-sound : goal.returns-clause-sound
returns-clause-sound c = subst IsSound c.in_ok-defs.ensures c.in-Ok.ensures.ok
