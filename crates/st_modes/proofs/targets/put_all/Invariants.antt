use Rattle.std.proofs.Common.{take}
use Rattle.st_modes.proofs.TargetParts.{Put}
use Rattle.st_modes.proofs.targets.put_all.Given as goal

abbrev pub invariant-loop-name : goal.invariant-loop-name
invariant-loop-name l = Put l.initial.firsts.entries l.names l.number (take l.name-index l.names) l.firsts.entries
