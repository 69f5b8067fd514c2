use Rattle.std.proofs.Common.{refl, sym}
use Rattle.st_type_table.specs.inner.Kept.{defs_of}
use Rattle.st_type_table.specs.Meaning.{Means}
use Rattle.st_type_table.proofs.Measure.{alias-falls}
use Rattle.st_type_table.proofs.meaning.meaning_of.Goals as goal

pub loop-written-smaller : goal.loop-written-smaller
loop-written-smaller c = (alias-falls (defs_of c.args.entries.now.entries) c.requires.sound c.loop-written.meaning.now c.in-Some.written.now (sym c.in-Some.ensures)).0

pub loop-written-preserved : goal.loop-written-preserved
loop-written-preserved c = λ u m. c.loop-written.invariant u (Means.alias c.in-Some.written.now (sym c.in-Some.ensures) m)

pub returns : goal.returns
returns c = c.loop-written.invariant c.loop-written.meaning.now (Means.itself (sym c.in_default.ensures) refl)
