use Rattle.std.proofs.Common.{◌≡◌, ◌++◌, drop}
use Rattle.st_il.specs.Names.{all_known}
use Rattle.st_index.specs.Names.{names_in}
use Rattle.st_index.proofs.names.are_known_by_both.Given as goal

abbrev pub invariant-loop-name : goal.invariant-loop-name
invariant-loop-name l = all_known (names_in l.known.keys ++ names_in l.more.keys) (names_in l.names) ≡ all_known (names_in l.known.keys ++ names_in l.more.keys) (names_in (drop l.name-index l.names))
