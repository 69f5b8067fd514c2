use Rattle.std.proofs.Common.{◌≡◌, take}
use Rattle.st_type_table.specs.inner.Graph.{positions_of}
use Rattle.st_type_table.proofs.position.positions_of.Given as goal

abbrev pub invariant-loop-name : goal.invariant-loop-name
invariant-loop-name l = l.positions ≡ positions_of l.defs (take l.name-index l.names)
