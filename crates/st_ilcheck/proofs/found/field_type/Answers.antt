use Rattle.st_il.specs.Definitions.{syntaxes}
use Rattle.st_ilcheck.proofs.Fields.{field-found}
use Rattle.st_ilcheck.proofs.found.field_type.Goals as goal

pub returns-in-None : goal.returns-in-None
returns-in-None c = λ u h. c.in-None.ensures h.declared h.has

pub returns-in-Some : goal.returns-in-Some
returns-in-Some c = field-found (syntaxes c.args.language.now) c.args.name.now c.args.ty.now c.in-Some.fields.now c.type_of_field.result c.in-Some.ensures c.type_of_field.ensures
