use Rattle.std.proofs.Common.{sym}
use Rattle.st_index.proofs.ListingParts.{add-found, add-new}
use Rattle.st_index.proofs.listing.add_first.Goals as goal

pub returns-in-Some : goal.returns-in-Some
returns-in-Some c = add-found c.args.numbers.now.entries c.args.name.now c.args.number c.in-Some.field-0.now (sym c.in-Some.ensures)

pub returns-in_ok-put-in-None : goal.returns-in_ok-put-in-None
returns-in_ok-put-in-None c = add-new c.args.numbers.now.entries c.put.new.map.entries c.args.name.now c.args.number (sym c.in-None.ensures) c.in_ok-put-in-None.ensures.more
