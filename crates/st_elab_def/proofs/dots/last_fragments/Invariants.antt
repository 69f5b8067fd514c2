use Rattle.std.proofs.Common.{take}
use Rattle.st_elab_def.specs.inner.Last.{KnowsLast}
use Rattle.st_elab_def.proofs.dots.last_fragments.Given as goal

abbrev pub invariant-loop-i : goal.invariant-loop-i
invariant-loop-i l = KnowsLast (take l.i l.defs) l.last.entries
