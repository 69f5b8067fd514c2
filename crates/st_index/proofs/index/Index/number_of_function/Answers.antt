use Rattle.std.proofs.Common.{◌≡◌, ap, ◌∙◌, bytes_eq}
use Rattle.std.specs.Prelude.{position}
use Rattle.st_il.specs.declared.definition.FunDef.{FunDef}
use Rattle.st_index.specs.Numbers.{functions}
use Rattle.st_index.proofs.ListingParts.{first-or-none}
use Rattle.st_index.proofs.index.Index.number_of_function.Goals as goal

pub returns : goal.returns
returns c =
    let same : c.self.inside.functions ≡ functions c.args.self.now = c.self.invariant.functions_are ∙ ap functions c.self.view_is in
    let number = c.number_of.ensures ∙ ap (position (λ (one : FunDef). bytes_eq c.args.name.now one.name)) same in
    record { number = number; first = first-or-none (λ (one : FunDef). one.name) (functions c.args.self.now) c.args.name.now c.number_of.result number }
