use Rattle.std.proofs.Common.{take}
use Rattle.std.specs.List.{AllByRecursion}
use Rattle.st_elab_def.specs.inner.Places.{IsAlternative}
use Rattle.st_elab_def.proofs.parts.count_before_bare.Given as goal

abbrev pub invariant-loop-i : goal.invariant-loop-i
invariant-loop-i l = AllByRecursion IsAlternative (take l.i l.notations)
