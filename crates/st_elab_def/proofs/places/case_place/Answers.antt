use Rattle.std.proofs.Common.{sym, ap, ◌∙◌}
use Rattle.st_el.specs.declared.notation.Notation.{out-Notation}
use Rattle.st_elab_def.specs.inner.Places.{name_place}
use Rattle.st_elab_def.proofs.PlaceLookups.{case_place-other}
use Rattle.st_elab_def.proofs.places.case_place.Goals as goal

pub returns-in_ok-names-in_default : goal.returns-in_ok-names-in_default
returns-in_ok-names-in_default c =
    c.name_place.ensures
    ∙ ap (λ ns. name_place ns c.args.number (out-Notation c.args.notation.now).at) (c.as_slice.ensures ∙ c.in_ok-names-in_default.ensures)
    ∙ sym (case_place-other c.args.notation.now c.args.number c.args.rule c.in_default.not-Y7)
