use Rattle.std.proofs.Common.{◌≡◌, sym, ◌∙◌}
use Rattle.std.proofs.lemmas.Option.{slice_get_past}
use Rattle.st_num.specs.declared.span.Span.{Span}
use Rattle.st_elab_def.specs.inner.Places.{field_place, fields_place}
use Rattle.st_elab_def.proofs.PlaceLookups.{get-there, if_ok, fields_place-within, fields_place-past}
use Rattle.st_elab_def.proofs.places.fields_place.Goals as goal

pub returns-in-Some : goal.returns-in-Some
returns-in-Some c =
    let fs = c.args.fields.now in
    let b = c.args.broken in
    let f = c.in-Some.field.now in
    let found = c.in-Some.ensures.lookup in
    if_ok (λ (at : Span). at ≡ field_place f b.name b.rule c.args.whole) (λ (at : Span). at ≡ fields_place fs b.part b.name b.rule c.args.whole) c.field_place.result
    (λ at is. is ∙ sym (fields_place-within fs b.part b.name b.rule c.args.whole f (get-there fs b.part f found.3.0 found.1))) c.field_place.ensures

pub returns-in-None : goal.returns-in-None
returns-in-None c =
    let b = c.args.broken in
    sym (fields_place-past c.args.fields.now b.part b.name b.rule c.args.whole (slice_get_past c.args.fields.now b.part c.in-None.ensures.lookup.3))
