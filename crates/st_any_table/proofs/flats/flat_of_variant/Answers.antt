use Rattle.std.proofs.Common.{sym, ap, ◌∙◌, Some, None}
use Rattle.std.specs.Option.{option_copied}
use Rattle.st_type_table.specs.Meaning.{listed}
use Rattle.st_any_table.specs.inner.Flats.{flat_at, where_listed}
use Rattle.st_any_table.proofs.FlatsLemmas.{listed-at}
use Rattle.st_any_table.proofs.flats.flat_of_variant.Goals as goal

pub returns-in-Variant : goal.returns-in-Variant
returns-in-Variant c = λ d e. listed-at c.args.defs.now c.args.position c.nth.result.now d c.args.flats.now (option_copied c.flat_at.result) c.nth.ensures e
    (c.flat_at.ensures ∙ ap (λ b. where_listed (listed (Some b)) (flat_at c.args.flats.now c.args.position)) (sym c.in-Variant.is))

pub returns-in-Alias : goal.returns-in-Alias
returns-in-Alias c = λ d e. listed-at c.args.defs.now c.args.position c.nth.result.now d c.args.flats.now None c.nth.ensures e (ap (λ b. where_listed (listed (Some b)) (flat_at c.args.flats.now c.args.position)) (sym c.in-Alias.is))

pub returns-in-Fields : goal.returns-in-Fields
returns-in-Fields c = λ d e. listed-at c.args.defs.now c.args.position c.nth.result.now d c.args.flats.now None c.nth.ensures e (ap (λ b. where_listed (listed (Some b)) (flat_at c.args.flats.now c.args.position)) (sym c.in-Fields.is))
