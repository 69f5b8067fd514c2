use Rattle.std.proofs.Common.{◌≡◌, sym, ap, ◌∙◌, ◌-◌}
use Rattle.std.proofs.lemmas.Option.{slice_get_past}
use Rattle.st_num.specs.declared.span.Span.{Span}
use Rattle.st_elab_def.specs.inner.Places.{alternative_place, cases_place}
use Rattle.st_elab_def.proofs.PlaceLookups.{get-there, if_ok, cases_place-within, cases_place-past}
use Rattle.st_elab_def.proofs.places.cases_place.Goals as goal

pub returns-in-Some : goal.returns-in-Some
returns-in-Some c =
    let ns = c.args.cases.now in
    let b = c.args.broken in
    let n = c.in-Some.notation.now in
    let found = c.in-Some.ensures.lookup in
    let place : cases_place ns (b.part - c.args.from) b.name b.rule c.args.whole ≡ alternative_place n b.name b.rule =
    ap (λ part. cases_place ns part b.name b.rule c.args.whole) (sym c.saturating_sub.ensures)
    ∙ cases_place-within ns c.saturating_sub.result b.name b.rule c.args.whole n (get-there ns c.saturating_sub.result n found.3.0 found.1) in
    if_ok (λ (at : Span). at ≡ alternative_place n b.name b.rule) (λ (at : Span). at ≡ cases_place ns (b.part - c.args.from) b.name b.rule c.args.whole) c.alternative_place.result
    (λ at is. is ∙ sym place) c.alternative_place.ensures

pub returns-in-None : goal.returns-in-None
returns-in-None c =
    let ns = c.args.cases.now in
    let b = c.args.broken in
    sym (
    ap (λ part. cases_place ns part b.name b.rule c.args.whole) (sym c.saturating_sub.ensures)
    ∙ cases_place-past ns c.saturating_sub.result b.name b.rule c.args.whole (slice_get_past ns c.saturating_sub.result c.in-None.ensures.lookup.3)
    )
