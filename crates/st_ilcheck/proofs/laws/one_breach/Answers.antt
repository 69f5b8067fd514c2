use Rattle.std.proofs.Common.{[]}
use Rattle.st_ilcheck.proofs.Breaches.{AllKeep-breach, BreaksAt-single}
use Rattle.st_ilcheck.proofs.laws.one_breach.Goals as goal

pub returns-clause-typed : goal.returns-clause-typed
returns-clause-typed c il place rule h k = AllKeep-breach il [] il.defs place rule h k

pub returns-clause-one : goal.returns-clause-one
returns-clause-one c il place other rule broken h k = BreaksAt-single il [] il.defs place other rule broken h k
