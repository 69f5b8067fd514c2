use Rattle.std.proofs.Common.{sym}
use Rattle.st_elab_def.proofs.PlaceLookups.{bare_place-other}
use Rattle.st_elab_def.proofs.places.bare_place.Goals as goal

pub returns-in_default : goal.returns-in_default
returns-in_default c = sym (bare_place-other c.args.part c.args.typ.now c.args.rule c.in_default.not-B2)
