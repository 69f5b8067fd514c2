use Rattle.st_il.specs.declared.ty.Ty.{Ty}
use Rattle.st_type_table.specs.Meaning.{Means}
use Rattle.st_type_table.specs.inner.Kept.{defs_of}
use Rattle.st_type_table.proofs.Measure.{ty_rank}
use Rattle.st_type_table.proofs.meaning.meaning_of.Given as goal

abbrev pub invariant-loop-written : goal.invariant-loop-written
invariant-loop-written l = (u : Ty) → Means (defs_of l.entries.entries) l.meaning u → Means (defs_of l.entries.entries) l.ty u

abbrev pub decreases-loop-written : goal.decreases-loop-written
decreases-loop-written l = ty_rank (defs_of l.entries.entries) l.meaning
