use Rattle.std.proofs.Common.{subst}
use Rattle.st_modes.specs.Modes.{IsModesAnswer}
use Rattle.st_source.proofs.specification.with_modes.Goals as goal

pub without_modes-requires-clause-fault : goal.without_modes-requires-clause-fault
without_modes-requires-clause-fault c = subst (IsModesAnswer c.args.elaborated.il) c.in-Err.is c.modes.ensures
