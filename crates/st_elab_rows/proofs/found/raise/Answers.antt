use Rattle.st_elab_table.specs.Elaboration.{passes}
use Rattle.st_elab_rows.proofs.Leaves.{refuted, proved, raised_up}
use Rattle.st_elab_rows.proofs.found.raise.Goals as goal

pub returns-then-same : goal.returns-then-same
returns-then-same c = λ S next a h. passes (proved c.same.result c.if-same.true c.same.ensures.exact.0) h

pub returns : goal.returns
returns c = λ S next a h. raised_up c.args.decls.now S c.args.exp c.in_ok-injected.injected c.args.has.now c.args.ty.now next a
    (refuted c.same.result c.if-same.false c.same.ensures.exact.1) c.in_ok-injected.ensures h
