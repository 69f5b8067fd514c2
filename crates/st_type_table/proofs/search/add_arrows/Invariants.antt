use Rattle.std.proofs.Common.{take}
use Rattle.st_type_table.specs.inner.Search.{AddsArrows}
use Rattle.st_type_table.proofs.search.add_arrows.Given as goal

abbrev pub invariant-loop-position : goal.invariant-loop-position
invariant-loop-position l = AddsArrows (take l.position-index l.positions) l.from l.fn.back l.back
