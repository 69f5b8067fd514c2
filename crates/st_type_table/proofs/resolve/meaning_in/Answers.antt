use Rattle.std.proofs.Common.{refl, sym}
use Rattle.st_type_table.specs.Meaning.{Means}
use Rattle.st_type_table.proofs.PositionLemmas.{alias-lower, alias-ends}
use Rattle.st_type_table.proofs.resolve.meaning_in.Goals as goal

pub loop-written-smaller : goal.loop-written-smaller
loop-written-smaller c = alias-lower c.args.defs.now c.args.ranks.now c.requires.ranks c.loop-written.meaning.now c.in-Some.written.now (sym c.in-Some.ensures) c.loop-written.invariant.ends

pub loop-written-preserved : goal.loop-written-preserved
loop-written-preserved c = record {
  ends = alias-ends c.args.defs.now c.loop-written.meaning.now c.in-Some.written.now (sym c.in-Some.ensures) c.loop-written.invariant.ends;
  back = λ u m. c.loop-written.invariant.back u (Means.alias c.in-Some.written.now (sym c.in-Some.ensures) m);
}

pub returns : goal.returns
returns c = c.loop-written.invariant.back c.loop-written.meaning.now (Means.itself (sym c.in_default.ensures) refl)
