use Rattle.std.proofs.Common.{refl, sym, ◌∙◌, ap, subst}
use Rattle.st_eval.specs.declared.condition.Met.TheVariants as met
use Rattle.st_eval.specs.inner.Known.{names_now}
use Rattle.st_eval.specs.inner.Gathered.{gathered_entries, IsGatheredBy}
use Rattle.st_eval.proofs.each.gathered_met.Goals as goal

pub returns-in-None : goal.returns-in-None
returns-in-None c =
    subst (λ z. IsGatheredBy c.args.types.now c.args.variables.now (names_now c.args.known.now) c.args.how.now c.args.found.now z met.Deep)
    (sym c.in-None.is ∙ (c.in_ok-entries.ensures ∙ ap (gathered_entries c.args.how.now c.args.found.now) (ap names_now c.as_slice.ensures ∙ c.in_ok-unknown.ensures))) refl
