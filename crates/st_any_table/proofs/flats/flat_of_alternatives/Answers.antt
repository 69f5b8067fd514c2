use Rattle.std.proofs.Common.{sym, subst, [], take}
use Rattle.st_any_table.specs.inner.Flats.{IsFlat}
use Rattle.st_any_table.proofs.FlatsLemmas.{IsFlat-start, IsFlat-end, AllKnown-item, take-item}
use Rattle.st_any_table.proofs.flats.flat_of_alternatives.Goals as goal

pub loop-i-init : goal.loop-i-init
loop-i-init c = record { flats_are = c.requires.flats; flat = subst (λ ns. IsFlat c.args.defs.now c.args.cases.now ns []) (sym c.new-numbers.ensures) (IsFlat-start c.args.defs.now c.args.cases.now) }

pub add_alternative-requires-clause-flats : goal.add_alternative-requires-clause-flats
add_alternative-requires-clause-flats c = c.loop-i.invariant.flats_are

pub add_alternative-requires-clause-known : goal.add_alternative-requires-clause-known
add_alternative-requires-clause-known c = AllKnown-item c.args.defs.now c.args.flats.now c.args.alternatives.now c.loop-i.i c.index-alternatives-i.result c.loop-i-test.true c.index-alternatives-i.is c.requires.known

pub loop-i-preserved : goal.loop-i-preserved
loop-i-preserved c = record {
  flats_are = c.in_ok-add_alternative.ensures.flats;
  flat = subst (IsFlat c.args.defs.now c.add_alternative.new.cases c.add_alternative.new.numbers) (sym (take-item c.args.defs.now c.args.alternatives.now c.loop-i.i c.index-alternatives-i.result c.loop-i-test.true c.index-alternatives-i.is))
      (c.in_ok-add_alternative.ensures.adds (take c.loop-i.i c.args.alternatives.now) c.loop-i.invariant.flat);
}

pub returns-clause-flats : goal.returns-clause-flats
returns-clause-flats c = c.loop-i.invariant.flats_are

pub returns-clause-flat : goal.returns-clause-flat
returns-clause-flat c = IsFlat-end c.args.defs.now c.loop-i.cases c.loop-i.numbers c.args.alternatives.now c.loop-i.i c.loop-i-test.false c.loop-i.invariant.flat
