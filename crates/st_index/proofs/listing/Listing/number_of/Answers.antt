use Rattle.std.proofs.Common.{ap, ◌∙◌, bytes_eq}
use Rattle.std.specs.Prelude.{position}
use Rattle.st_index.proofs.listing.Listing.number_of.Goals as goal

pub returns : goal.returns
returns g c = c.copied.ensures ∙ c.at.ensures ∙ c.self.invariant c.args.name.now ∙ ap (position (λ one. bytes_eq c.args.name.now (g.T.Named.name one))) c.self.view_is
