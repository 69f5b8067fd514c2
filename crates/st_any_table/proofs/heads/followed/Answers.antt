use Rattle.std.proofs.Common.{refl, sym}
use Rattle.st_type_table.specs.Meaning.{Means}
use Rattle.st_any_table.proofs.HeadsLemmas.{alias-lower, alias-ends}
use Rattle.st_any_table.proofs.heads.followed.Goals as goal

pub loop-written-smaller : goal.loop-written-smaller
loop-written-smaller c = alias-lower c.args.defs.now c.args.ranks.now c.requires.ranks c.loop-written.here.now c.in-Some.written.now (sym c.in-Some.ensures) c.loop-written.invariant.ends

pub loop-written-preserved : goal.loop-written-preserved
loop-written-preserved c = record {
  ends = alias-ends c.args.defs.now c.loop-written.here.now c.in-Some.written.now (sym c.in-Some.ensures) c.loop-written.invariant.ends;
  back = λ u m. c.loop-written.invariant.back u (Means.alias c.in-Some.written.now (sym c.in-Some.ensures) m);
}

pub returns : goal.returns
returns c = c.loop-written.invariant.back c.loop-written.here.now (Means.itself (sym c.in_default.ensures) refl)
