use Rattle.std.proofs.Common.{take}
use Rattle.std.specs.List.{AllZip}
use Rattle.st_semantics.specs.Marks.{HasUnfit}
use Rattle.st_modes.specs.inner.Marking.{relations_told}
use Rattle.st_modes.proofs.marking.marks_of.Given as goal

abbrev pub invariant-loop-own : goal.invariant-loop-own
invariant-loop-own l = AllZip (HasUnfit l.indexed.directions.il.now) (relations_told (take l.own-index l.owns)) l.marks
