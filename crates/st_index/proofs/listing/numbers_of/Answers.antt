use Rattle.std.proofs.Common.{sym, subst, ◌≤◌}
use Rattle.st_index.specs.Names.{all_now}
use Rattle.st_index.proofs.PlaceParts.{now_at, length_now}
use Rattle.st_index.proofs.ListingParts.{numbers-next, numbers-whole}
use Rattle.st_index.proofs.listing.numbers_of.Goals as goal

pub loop-k-preserved : goal.loop-k-preserved
loop-k-preserved g c =
    numbers-next g.T.Named.name (all_now c.args.all.now) c.loop-k.k c.index-all-k.result.now c.name.result.now c.loop-k.numbers.entries c.add_first.new.numbers.entries
    (now_at c.args.all.now c.loop-k.k c.index-all-k.result c.loop-k-test.true c.index-all-k.is) c.name.ensures c.loop-k.invariant c.in_ok-add_first.ensures

pub returns : goal.returns
returns g c = numbers-whole g.T.Named.name (all_now c.args.all.now) c.loop-k.k c.loop-k.numbers.entries (subst (λ n. n ≤ c.loop-k.k) (sym (length_now c.args.all.now)) c.loop-k-test.false) c.loop-k.invariant
