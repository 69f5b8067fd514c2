use Rattle.std.proofs.Common.{subst}
use Rattle.st_source.specs.inner.Placing.{TellsModeFault}
use Rattle.st_source.proofs.modes.without_modes.Goals as goal

pub unmoded-requires-clause-first : goal.unmoded-requires-clause-first
unmoded-requires-clause-first c = subst (TellsModeFault c.args.elaborated.now.il) c.in-Refused.is c.requires.fault
