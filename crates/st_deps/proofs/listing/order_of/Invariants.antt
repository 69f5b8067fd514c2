use Rattle.std.proofs.Common.{[]}
use Rattle.st_deps.specs.inner.Listing.{opens}
use Rattle.st_deps.specs.inner.Listings.{IsListing}
use Rattle.st_deps.proofs.listing.order_of.Given as goal

abbrev pub invariant-listing : goal.invariant-listing
invariant-listing l = IsListing l.rows l.listing []

abbrev pub decreases-listing : goal.decreases-listing
decreases-listing l = opens l.listing.is_listed.items
