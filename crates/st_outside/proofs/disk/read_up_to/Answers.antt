use Rattle.std.proofs.Common.{arith}
use Rattle.std.proofs.lemmas.Grind.{common_steps}
use Rattle.st_outside.proofs.ReaderLemmas.{ConsumesAtMost-both}
use Rattle.st_outside.proofs.disk.read_up_to.Goals as goal

-- the bytes before, and those of a read that is too long by now
pub returns-then-count-limit-clause-reads : goal.returns-then-count-limit-clause-reads
returns-then-count-limit-clause-reads g c =
    ConsumesAtMost-both _ _ _ _ _ _ (grind (arith, common_steps))
    c.loop.invariant.given c.in_ok-count.ensures.bytes.0

-- the bytes before, and those of a read for which there is no memory
pub returns-then-is_err-clause-reads : goal.returns-then-is_err-clause-reads
returns-then-is_err-clause-reads g c =
    ConsumesAtMost-both _ _ _ _ _ _ (grind (arith, common_steps))
    c.loop.invariant.given c.in_ok-count.ensures.bytes.0
