use Rattle.std.proofs.Common.{subst, List, [], ℕ}
use Rattle.st_deps.specs.inner.Listing as lists
use Rattle.st_deps.proofs.ListingLemmas.{all-listed}
use Rattle.st_deps.proofs.listing.order_of.Goals as goal

pub returns : goal.returns
returns c =
    let l = c.listing.listing in
    all-listed c.args.rows.now l.order.items l.is_listed.items l.met.items l.waiting.items
    (subst (λ (z : List ℕ). lists.IsListing c.args.rows.now l.order.items l.is_listed.items l.met.items l.waiting.items z []) c.in_default.ensures c.listing.invariant) c.requires.falling
