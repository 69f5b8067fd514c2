use Rattle.std.proofs.Common.{◌≡◌, ◌++◌, drop}
use Rattle.st_il.specs.Names.{without}
use Rattle.st_index.specs.Names.{names_in}
use Rattle.st_index.proofs.names.push_unknown.Given as goal

abbrev pub invariant-loop-name : goal.invariant-loop-name
invariant-loop-name l =
    names_in l.names ++ without (names_in l.known.keys) (names_in (drop l.name-index l.list)) ≡ names_in l.initial.names ++ without (names_in l.known.keys) (names_in l.list)
