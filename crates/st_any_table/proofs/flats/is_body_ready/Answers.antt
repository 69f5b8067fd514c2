use Rattle.std.proofs.Common.{◌↔◌, refl, sym, subst}
use Rattle.std.specs.Prelude.{IsTrue}
use Rattle.st_any_table.specs.inner.Flats.{sources, AllKnown}
use Rattle.st_any_table.proofs.FlatsLemmas.{AllKnown-none}
use Rattle.st_any_table.proofs.flats.is_body_ready.Goals as goal

pub returns-in-Alias : goal.returns-in-Alias
returns-in-Alias c = subst (λ b. IsTrue c.is_source_ready.result ↔ AllKnown c.args.defs.now c.args.flats.now (sources b)) (sym c.in-Alias.is) c.is_source_ready.ensures

pub returns-in-Variant : goal.returns-in-Variant
returns-in-Variant c = subst (λ b. IsTrue c.are_ready.result ↔ AllKnown c.args.defs.now c.args.flats.now (sources b)) (sym c.in-Variant.is)
    (subst (λ as'. IsTrue c.are_ready.result ↔ AllKnown c.args.defs.now c.args.flats.now as') c.as_slice.ensures c.are_ready.ensures)

pub returns-in-Fields : goal.returns-in-Fields
returns-in-Fields c = (λ f. subst (λ b. AllKnown c.args.defs.now c.args.flats.now (sources b)) (sym c.in-Fields.is) (AllKnown-none c.args.defs.now c.args.flats.now), λ h. refl)
