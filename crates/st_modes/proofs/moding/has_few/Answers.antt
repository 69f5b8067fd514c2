use Rattle.std.proofs.Common.{refl, subst, ◌<◌, ◌^◌, length}
use Rattle.std.specs.Prelude.{◌↔◌, IsTrue, false}
use Rattle.st_modes.specs.inner.Few.{AllHaveFew}
use Rattle.st_modes.proofs.FewParts.{few_next, few_not, few_end}
use Rattle.st_modes.proofs.moding.has_few.Goals as goal

pub loop-definition-init : goal.loop-definition-init
loop-definition-init c = (λ all. all, λ all. all)

pub loop-definition-preserved : goal.loop-definition-preserved
loop-definition-preserved c =
    few_next c.as_slice-defs.result.now c.loop-definition.definition-index c.definition-item.result c.loop-definition-test.true c.definition-item.is c.has_few_premises-has.result c.has_few_premises-has.ensures c.loop-definition.invariant
    c.if-not-has.false

pub returns-then-not-has : goal.returns-then-not-has
returns-then-not-has c =
    subst (λ z. IsTrue false ↔ ((length z < 2 ^ 32) × AllHaveFew z)) c.as_slice-defs.ensures
    (few_not c.as_slice-defs.result.now c.loop-definition.definition-index c.definition-item.result c.loop-definition-test.true c.definition-item.is c.has_few_premises-has.result c.has_few_premises-has.ensures c.loop-definition.invariant
    c.if-not-has.true)

pub returns : goal.returns
returns c =
    few_end c.args.il.now.defs c.as_slice-defs.result.now c.loop-definition.definition-index c.are_few.result (length c.as_slice-defs.result.now) c.as_slice-defs.ensures refl c.loop-definition-test.false c.are_few.ensures c.loop-definition.invariant
