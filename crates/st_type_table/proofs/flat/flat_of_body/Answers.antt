use Rattle.std.proofs.Common.{sym, ap, ◌∙◌, subst, Some}
use Rattle.st_type_table.specs.Meaning.{listed}
use Rattle.st_type_table.specs.Cases.{or_none}
use Rattle.st_type_table.specs.inner.Flat.{AllKnownParts}
use Rattle.st_type_table.proofs.flat.flat_of_body.Goals as goal

pub flatten-requires-in-Variant-clause-known : goal.flatten-requires-in-Variant-clause-known
flatten-requires-in-Variant-clause-known c = subst (AllKnownParts c.args.defs.now c.args.flats.now) (ap (λ b. or_none (listed (Some b))) c.in-Variant.is ∙ sym c.as_slice.ensures) c.requires.known
