use Rattle.std.proofs.Common.{sym, ◌∙◌}
use Rattle.st_index.proofs.PlaceParts.{read_now}
use Rattle.st_index.proofs.ListingParts.{found-at, is-none}
use Rattle.st_index.proofs.listing.Listing.first.Goals as goal

pub returns-in-Some : goal.returns-in-Some
returns-in-Some g c =
    found-at g.T.Named.name c.args.self.now c.args.name.now c.in-Some.number _ (sym c.in-Some.ensures)
    (read_now c.self.inside.all c.args.self.now c.in-Some.number c.copied.result (c.copied.ensures ∙ c.get.ensures.value) c.self.view_is)

pub returns-in-None : goal.returns-in-None
returns-in-None g c = sym (is-none g.T.Named.name c.args.self.now c.args.name.now (sym c.in-None.ensures))
