use Rattle.std.proofs.Common.{◌↔◌, refl, subst}
use Rattle.std.specs.Prelude.{IsTrue}
use Rattle.st_il.specs.declared.definition.Alternative.TheVariants as alternative
use Rattle.st_any_table.specs.inner.Flats.{AllKnown}
use Rattle.st_any_table.proofs.FlatsLemmas.{AllKnown-none, AllKnown-incl}
use Rattle.st_any_table.proofs.flats.is_source_ready.Goals as goal

pub returns-in-Some : goal.returns-in-Some
returns-in-Some c = subst (λ as'. IsTrue c.is_known.result ↔ AllKnown c.args.defs.now c.args.flats.now as') c.in-Some.ensures
    (AllKnown-incl c.args.defs.now c.args.flats.now (alternative.Incl c.in-Some.name.now) c.in-Some.name.now c.is_known.result refl c.is_known.ensures)

pub returns-in-None : goal.returns-in-None
returns-in-None c = (λ f. subst (AllKnown c.args.defs.now c.args.flats.now) c.in-None.ensures (AllKnown-none c.args.defs.now c.args.flats.now), λ h. refl)
