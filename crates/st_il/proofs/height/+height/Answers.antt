use Rattle.std.proofs.Common.{◌∙◌, ◌-◌, ap, nat_le}
use Rattle.st_il.specs.Height.{highest, field_heights}
use Rattle.st_il.proofs.HeightLemmas.{fields-within}
use Rattle.st_il.proofs.height.+height.Goals as goal

pub is_within_height-returns-in-Fields : goal.is_within_height-returns-in-Fields
is_within_height-returns-in-Fields t c =
    fields-within c.args.value.now c.in-Fields.fields c.args.limit c.fields_are_within.result c.if-limit-eq0.false c.in-Fields.is (c.fields_are_within.ensures ∙ ap (λ fs. nat_le (highest (field_heights fs)) (c.args.limit - 1)) c.as_slice-in-Fields.ensures)
