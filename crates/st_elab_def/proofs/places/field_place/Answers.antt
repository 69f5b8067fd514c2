use Rattle.std.proofs.Common.{sym}
use Rattle.st_elab_def.proofs.PlaceLookups.{field_place-other}
use Rattle.st_elab_def.proofs.places.field_place.Goals as goal

pub returns-in_default : goal.returns-in_default
returns-in_default c = sym (field_place-other c.args.field.now c.args.broken.name c.args.broken.rule c.args.whole c.in_default.not-B2)
