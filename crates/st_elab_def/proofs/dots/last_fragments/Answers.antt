use Rattle.std.proofs.Common.{refl, sym, subst, take, arith}
use Rattle.std.proofs.lemmas.Grind.{common_steps}
use Rattle.st_dims.proofs.Lists.{next_taken, all_taken}
use Rattle.st_elab_def.specs.inner.Last.{KnowsLast}
use Rattle.st_elab_def.proofs.dots.last_fragments.Goals as goal

pub loop-i-preserved : goal.loop-i-preserved
loop-i-preserved c =
    let defs = c.args.defs.now in
    let def = c.index-defs-i.result in
    subst (λ ds. KnowsLast ds c.note.new.last.entries) (sym (next_taken defs c.loop-i.i def c.loop-i-test.true c.index-defs-i.is))
    (c.in_ok-note.ensures (take c.loop-i.i defs) def refl (grind (arith, common_steps)) c.loop-i.invariant)

pub returns : goal.returns
returns c = subst (λ ds. KnowsLast ds c.loop-i.last.entries) (all_taken c.args.defs.now c.loop-i.i c.loop-i-test.false) c.loop-i.invariant
