use Rattle.std.proofs.Common.{sym, subst, []}
use Rattle.st_any_table.specs.inner.Flats.{sources, IsFlat, AllKnown}
use Rattle.st_any_table.proofs.FlatsLemmas.{IsFlat-start}
use Rattle.st_any_table.proofs.flats.flat_of.Goals as goal

pub flat_of_source-requires-clause-size : goal.flat_of_source-requires-clause-size
flat_of_source-requires-clause-size c = c.requires.flats.size

pub flat_of_source-requires-clause-known : goal.flat_of_source-requires-clause-known
flat_of_source-requires-clause-known c = subst (λ b. AllKnown c.args.defs.now c.args.flats.now (sources b)) c.in-Alias.is c.requires.known

pub returns-in_ok-numbers-in-Alias-clause-flats : goal.returns-in_ok-numbers-in-Alias-clause-flats
returns-in_ok-numbers-in-Alias-clause-flats c = c.requires.flats

pub returns-in_ok-numbers-in-Alias-clause-flat : goal.returns-in_ok-numbers-in-Alias-clause-flat
returns-in_ok-numbers-in-Alias-clause-flat c = subst (λ b. IsFlat c.args.defs.now c.args.cases.now c.in_ok-numbers-in-Alias.numbers (sources b)) (sym c.in-Alias.is) (c.in_ok-numbers-in-Alias.ensures c.args.cases.now c.requires.flats)

pub flat_of_alternatives-requires-clause-known : goal.flat_of_alternatives-requires-clause-known
flat_of_alternatives-requires-clause-known c = subst (AllKnown c.args.defs.now c.args.flats.now) (sym c.as_slice-alternatives.ensures) (subst (λ b. AllKnown c.args.defs.now c.args.flats.now (sources b)) c.in-Variant.is c.requires.known)

pub returns-in_ok-numbers-in-Variant-clause-flats : goal.returns-in_ok-numbers-in-Variant-clause-flats
returns-in_ok-numbers-in-Variant-clause-flats c = c.in_ok-numbers-in-Variant.ensures.flats

pub returns-in_ok-numbers-in-Variant-clause-flat : goal.returns-in_ok-numbers-in-Variant-clause-flat
returns-in_ok-numbers-in-Variant-clause-flat c = subst (λ b. IsFlat c.args.defs.now c.flat_of_alternatives.new.cases c.in_ok-numbers-in-Variant.numbers (sources b)) (sym c.in-Variant.is)
    (subst (IsFlat c.args.defs.now c.flat_of_alternatives.new.cases c.in_ok-numbers-in-Variant.numbers) c.as_slice-alternatives.ensures c.in_ok-numbers-in-Variant.ensures.flat)

pub returns-in-Fields-clause-flats : goal.returns-in-Fields-clause-flats
returns-in-Fields-clause-flats c = c.requires.flats

pub returns-in-Fields-clause-flat : goal.returns-in-Fields-clause-flat
returns-in-Fields-clause-flat c = subst (λ b. IsFlat c.args.defs.now c.args.cases.now c.new.result (sources b)) (sym c.in-Fields.is)
    (subst (λ ns. IsFlat c.args.defs.now c.args.cases.now ns []) (sym c.new.ensures) (IsFlat-start c.args.defs.now c.args.cases.now))
