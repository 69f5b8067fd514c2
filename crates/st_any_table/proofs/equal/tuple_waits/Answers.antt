use Rattle.std.proofs.Common.{refl, sym, subst, [], inl, inr, arith}
use Rattle.st_any_table.specs.inner.Pairs.{AreNumbered}
use Rattle.st_any_table.proofs.PairsLemmas.{Grows-refl, Grows-trans, numbered-next, numbered-end}
use Rattle.st_any_table.proofs.equal.tuple_waits.Goals as goal

pub returns-then-ones-others-clause-grows : goal.returns-then-ones-others-clause-grows
returns-then-ones-others-clause-grows c = Grows-refl c.args.pairs.now

pub returns-then-ones-others-clause-node : goal.returns-then-ones-others-clause-node
returns-then-ones-others-clause-node c = inr (c.if-ones-others.true, refl)

pub loop-i-init : goal.loop-i-init
loop-i-init c = (Grows-refl c.args.pairs.now, subst (λ ns. AreNumbered c.args.pairs.now ns [] []) (sym c.new-numbers.ensures) AreNumbered.none)

pub loop-i-preserved : goal.loop-i-preserved
loop-i-preserved c = (
  Grows-trans c.args.pairs.now c.loop-i.pairs c.number_of.new.pairs c.loop-i.invariant.0 c.in_ok-number.ensures.grows,
  numbered-next c.loop-i.pairs c.number_of.new.pairs c.loop-i.numbers c.push.new.self c.args.ones.now c.args.others.now c.loop-i.i c.in_ok-number.number c.index-ones-i.result c.index-others-i.result
      c.loop-i-test.true (omega arith) c.index-ones-i.is c.index-others-i.is c.in_ok-number.ensures.grows c.loop-i.invariant.1 c.in_ok-number.ensures.number c.in_ok-push.ensures.ok,
)

pub returns-clause-grows : goal.returns-clause-grows
returns-clause-grows c = c.loop-i.invariant.0

pub returns-clause-node : goal.returns-clause-node
returns-clause-node c = inl (c.loop-i.numbers, (numbered-end c.loop-i.pairs c.loop-i.numbers c.args.ones.now c.args.others.now c.loop-i.i c.loop-i-test.false (omega arith) c.loop-i.invariant.1, refl))
