use Rattle.std.proofs.Common.{◌≡◌, map, take}
use Rattle.st_el.specs.Plain.{plain_typ}
use Rattle.st_el.proofs.plain_definition.plain_fields.Given as goal

abbrev pub invariant-loop-field : goal.invariant-loop-field
invariant-loop-field l = l.plain ≡ map (λ field. (field.0, plain_typ field.1)) (take l.field-index l.fields)
