use Rattle.std.proofs.Common.{arith}
use Rattle.st_deps.proofs.ListingLemmas.{below-more}
use Rattle.st_deps.proofs.listing.all_below.Goals as goal

pub loop-number-preserved : goal.loop-number-preserved
loop-number-preserved c = λ a. below-more c.loop-number.all.items c.push.new.self.items c.loop-number.number c.in_ok-push.ensures.items c.loop-number.invariant a

pub returns : goal.returns
returns c = λ a.
    let t = c.loop-number-test.false in
    let n = c.loop-number.auto.number-end in
    (λ s. let h = (c.loop-number.invariant a).0 s in omega (arith, h, n), λ less. (c.loop-number.invariant a).1 (omega (arith, less, t)))
