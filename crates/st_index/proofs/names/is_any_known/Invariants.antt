use Rattle.std.proofs.Common.{◌≡◌, drop}
use Rattle.std.specs.List.{list_any}
use Rattle.st_il.specs.Names.{has_name}
use Rattle.st_index.specs.Names.{names_in}
use Rattle.st_index.proofs.names.is_any_known.Given as goal

abbrev pub invariant-loop-name : goal.invariant-loop-name
invariant-loop-name l = list_any (has_name (names_in l.known.keys)) (names_in l.names) ≡ list_any (has_name (names_in l.known.keys)) (names_in (drop l.name-index l.names))
