use Rattle.std.proofs.Common.{◌≡◌, drop}
use Rattle.st_deps.specs.inner.Listings.{IsListing}
use Rattle.st_deps.proofs.listing.settle_all.Given as goal

abbrev pub invariant-loop-group : goal.invariant-loop-group
invariant-loop-group l = record {
  listing : IsListing l.rows l.listing (drop l.group-index l.groups);
  same : l.listing.is_listed.items ≡ l.initial.listing.is_listed.items;
}
