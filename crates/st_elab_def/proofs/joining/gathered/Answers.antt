use Rattle.std.proofs.Common.{refl, sym, subst, take}
use Rattle.st_dims.proofs.Lists.{next_taken, all_taken}
use Rattle.st_elab_def.specs.inner.Gathering.{Gathered}
use Rattle.st_elab_def.proofs.joining.gathered.Goals as goal

pub loop-def-preserved : goal.loop-def-preserved
loop-def-preserved c =
    subst (λ ds. Gathered ds c.gather.new.parts.entries) (sym (next_taken c.args.defs.now c.loop-def.def-index c.def-item.result c.loop-def-test.true c.def-item.is))
    (c.in_ok-gather.ensures (take c.loop-def.def-index c.args.defs.now) c.def-item.result refl c.loop-def.invariant)

pub returns : goal.returns
returns c = subst (λ ds. Gathered ds c.loop-def.parts.entries) (all_taken c.args.defs.now c.loop-def.def-index c.loop-def-test.false) c.loop-def.invariant
