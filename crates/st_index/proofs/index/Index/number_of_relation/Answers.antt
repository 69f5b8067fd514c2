use Rattle.std.proofs.Common.{◌≡◌, ap, ◌∙◌, bytes_eq}
use Rattle.std.specs.Prelude.{position}
use Rattle.st_il.specs.declared.definition.RelationDef.{RelationDef}
use Rattle.st_il.specs.Definitions.{relations}
use Rattle.st_index.proofs.ListingParts.{first-or-none}
use Rattle.st_index.proofs.index.Index.number_of_relation.Goals as goal

pub returns : goal.returns
returns c =
    let same : c.self.inside.relations ≡ relations c.args.self.now = c.self.invariant.relations_are ∙ ap relations c.self.view_is in
    let number = c.number_of.ensures ∙ ap (position (λ (one : RelationDef). bytes_eq c.args.name.now one.name)) same in
    record { number = number; first = first-or-none (λ (one : RelationDef). one.name) (relations c.args.self.now) c.args.name.now c.number_of.result number }
