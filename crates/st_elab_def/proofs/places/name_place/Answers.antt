use Rattle.std.proofs.Common.{sym}
use Rattle.std.proofs.lemmas.Option.{slice_get_past}
use Rattle.st_elab_def.proofs.PlaceLookups.{get-there, name_place-within, name_place-past}
use Rattle.st_elab_def.proofs.places.name_place.Goals as goal

pub returns-in-Some : goal.returns-in-Some
returns-in-Some c =
    let found = c.in-Some.ensures.lookup in
    sym (name_place-within c.args.names.now c.args.number c.args.part c.in-Some.named.now (get-there c.args.names.now c.args.number c.in-Some.named.now found.3.0 found.1))

pub returns-in-None : goal.returns-in-None
returns-in-None c =
    sym (name_place-past c.args.names.now c.args.number c.args.part (slice_get_past c.args.names.now c.args.number c.in-None.ensures.lookup.3))
