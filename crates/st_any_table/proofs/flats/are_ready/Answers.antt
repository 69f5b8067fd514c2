use Rattle.std.proofs.Common.{refl, subst, rules}
use Rattle.st_type_table.proofs.SearchLemmas.{take-whole}
use Rattle.st_any_table.specs.inner.Flats.{AllKnown}
use Rattle.st_any_table.proofs.FlatsLemmas.{AllKnown-none, AllKnown-item, AllKnown-next}
use Rattle.st_any_table.proofs.flats.are_ready.Goals as goal

pub loop-i-init : goal.loop-i-init
loop-i-init c = AllKnown-none c.args.defs.now c.args.flats.now

pub returns-then-not-is_ready : goal.returns-then-not-is_ready
returns-then-not-is_ready c = (
  λ f. search rules,
  λ k. c.if-not-is_ready.ensures.1 (AllKnown-item c.args.defs.now c.args.flats.now c.args.alternatives.now c.loop-i.i c.index-alternatives-i.result c.loop-i-test.true c.index-alternatives-i.is k),
)

pub loop-i-preserved : goal.loop-i-preserved
loop-i-preserved c =
    AllKnown-next c.args.defs.now c.args.flats.now c.args.alternatives.now c.loop-i.i c.index-alternatives-i.result c.loop-i-test.true c.index-alternatives-i.is c.loop-i.invariant (c.if-not-is_ready.ensures.0 (search rules))

pub returns : goal.returns
returns c = (λ f. subst (AllKnown c.args.defs.now c.args.flats.now) (take-whole c.args.alternatives.now c.loop-i.i c.loop-i-test.false) c.loop-i.invariant, λ h. refl)
