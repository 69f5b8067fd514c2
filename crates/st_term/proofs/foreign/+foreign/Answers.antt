use Rattle.std.proofs.Common.{◌≡◌, map, ap, sym, ◌∙◌}
use Rattle.st_term.specs.Foreign.{first_place, field_foreign, field_part}
use Rattle.st_term.proofs.ForeignFields.{part_node-Fields}
use Rattle.st_term.proofs.foreign.+foreign.Goals as goal

pub foreign_node-returns-in-Fields : goal.foreign_node-returns-in-Fields
foreign_node-returns-in-Fields t c =
    c.first_in_fields.ensures
    ∙ (ap (λ fields. first_place (map field_foreign (map field_part fields))) c.as_slice-in-Fields.ensures
    ∙ sym (part_node-Fields c.args.node.now c.in-Fields.fields c.args.at c.in-Fields.is))
