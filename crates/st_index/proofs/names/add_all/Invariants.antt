use Rattle.std.proofs.Common.{◌++◌, take}
use Rattle.st_index.specs.Names.{names_in, SameNames}
use Rattle.st_index.proofs.names.add_all.Given as goal

abbrev pub invariant-loop-name : goal.invariant-loop-name
invariant-loop-name l = SameNames (names_in l.names.keys) (names_in l.initial.names.keys ++ names_in (take l.name-index l.more))
