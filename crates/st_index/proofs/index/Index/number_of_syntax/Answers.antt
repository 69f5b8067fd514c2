use Rattle.std.proofs.Common.{◌≡◌, ap, ◌∙◌, bytes_eq}
use Rattle.std.specs.Prelude.{position}
use Rattle.st_il.specs.declared.definition.SyntaxDef.{SyntaxDef}
use Rattle.st_il.specs.Definitions.{syntaxes}
use Rattle.st_index.proofs.ListingParts.{first-or-none}
use Rattle.st_index.proofs.index.Index.number_of_syntax.Goals as goal

pub returns : goal.returns
returns c =
    let same : c.self.inside.syntaxes ≡ syntaxes c.args.self.now = c.self.invariant.syntaxes_are ∙ ap syntaxes c.self.view_is in
    let number = c.number_of.ensures ∙ ap (position (λ (one : SyntaxDef). bytes_eq c.args.name.now one.name)) same in
    record { number = number; first = first-or-none (λ (one : SyntaxDef). one.name) (syntaxes c.args.self.now) c.args.name.now c.number_of.result number }
