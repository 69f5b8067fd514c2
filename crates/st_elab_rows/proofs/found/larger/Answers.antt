use Rattle.st_elab_table.specs.Elaboration.{passes, misses}
use Rattle.st_elab_rows.proofs.Leaves.{refuted, proved}
use Rattle.st_elab_rows.proofs.found.larger.Goals as goal

pub returns-then-is_sub : goal.returns-then-is_sub
returns-then-is_sub c = λ S next none a h. passes (proved c.is_sub.result c.if-is_sub.true c.is_sub.ensures.exact.0) h

pub returns-then-is_sub-2 : goal.returns-then-is_sub-2
returns-then-is_sub-2 c = λ S next none a h. misses (refuted c.is_sub.result c.if-is_sub.false c.is_sub.ensures.exact.1)
    (passes (proved c.is_sub-2.result c.if-is_sub-2.true c.is_sub-2.ensures.exact.0) h)

pub returns : goal.returns
returns c = λ S next none a h. misses (refuted c.is_sub.result c.if-is_sub.false c.is_sub.ensures.exact.1)
    (misses (refuted c.is_sub-2.result c.if-is_sub-2.false c.is_sub-2.ensures.exact.1) h)
