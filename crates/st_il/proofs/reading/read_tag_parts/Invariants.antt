use Rattle.std.proofs.Common.{◌≡◌, Some, [], take}
use Rattle.st_il.specs.Reading.{expecting, run}
use Rattle.st_il.specs.inner.States.{state_of}
use Rattle.st_il.proofs.reading.read_tag_parts.Given as goal

abbrev pub invariant-loop-part : goal.invariant-loop-part
invariant-loop-part l = run (expecting []) (take l.part-index l.parts) ≡ Some (state_of l.state)
