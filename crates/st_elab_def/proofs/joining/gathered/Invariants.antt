use Rattle.std.proofs.Common.{take}
use Rattle.st_elab_def.specs.inner.Gathering.{Gathered}
use Rattle.st_elab_def.proofs.joining.gathered.Given as goal

abbrev pub invariant-loop-def : goal.invariant-loop-def
invariant-loop-def l = Gathered (take l.def-index l.defs) l.parts.entries
