use Rattle.std.proofs.Common.{◌≡◌, ◌+◌, ◌<◌, ◌∙◌, ap, subst, arith}
use Rattle.st_il.specs.declared.expression.IlExp.{out-IlExp}
use Rattle.st_semantics.specs.Operands.{operands_at, item_exp, segment_exps}
use Rattle.st_semantics.specs.References.{exps_now}
use Rattle.st_semantics.specs.inner.Weight.{weight, heaviest}
use Rattle.st_semantics.proofs.Weights.{weight-operands, heaviest-element}
use Rattle.st_search.specs.Proper.{IsProperExp, AreProperExps}
use Rattle.st_search.proofs.ProperLists.{then_ok, proper_Iter, proper_other, proper_next, proper_end}
use Rattle.st_search.proofs.literals.+proper.Goals as goal

pub proper_exp-proper_exps-requires-in_default : goal.proper_exp-proper_exps-requires-in_default
proper_exp-proper_exps-requires-in_default t c =
    let same = ap exps_now c.as_slice-in_default.ensures ∙ c.in_ok-exps-in_default.ensures in
    let lighter = weight-operands c.args.exp.now in
    let weighs : heaviest (exps_now c.as_slice-in_default.result.now) ≡ heaviest (operands_at item_exp segment_exps (out-IlExp c.args.exp.now)) = ap heaviest same in
    let falls : 1 + heaviest (exps_now c.as_slice-in_default.result.now) < t = omega (arith, lighter, weighs, c.decreases) in
    (falls, tt)

pub proper_exp-returns-in_ok-proper_exps-in-Iter : goal.proper_exp-returns-in_ok-proper_exps-in-Iter
proper_exp-returns-in_ok-proper_exps-in-Iter t c =
    let counted = subst AreProperExps (ap exps_now c.as_slice.ensures ∙ c.in_ok-exps-in-Iter.ensures) c.in_ok-proper_exps-in-Iter.ensures in
    then_ok c.proper_exp.result
    (λ h. proper_Iter c.args.exp.now c.in-Iter.how c.in-Iter.field-1 c.in-Iter.body c.in-Iter.is c.in_ok-proper_at.ensures counted (subst IsProperExp c.get.ensures h)) c.proper_exp.ensures

pub proper_exp-returns-in_ok-exps-in_default : goal.proper_exp-returns-in_ok-exps-in_default
proper_exp-returns-in_ok-exps-in_default t c =
    then_ok c.proper_exps-in_default.result
    (proper_other c.args.exp.now (exps_now c.as_slice-in_default.result.now) c.in_default.not-Iter
    (ap exps_now c.as_slice-in_default.ensures ∙ c.in_ok-exps-in_default.ensures) c.in_ok-proper_at.ensures) c.proper_exps-in_default.ensures

pub proper_exps-proper_exp-requires : goal.proper_exps-proper_exp-requires
proper_exps-proper_exp-requires t c =
    let lighter = heaviest-element c.args.exps.now c.loop-i.i c.index-exps-i.result c.loop-i-test.true c.index-exps-i.is in
    let falls : weight c.index-exps-i.result.now < t = omega (arith, lighter, c.decreases) in
    (falls, tt)

pub proper_exps-loop-i-preserved : goal.proper_exps-loop-i-preserved
proper_exps-loop-i-preserved t c = proper_next c.args.exps.now c.loop-i.i c.index-exps-i.result c.loop-i-test.true c.index-exps-i.is c.loop-i.invariant c.in_ok-proper_exp.ensures

pub proper_exps-returns : goal.proper_exps-returns
proper_exps-returns t c = proper_end c.args.exps.now c.loop-i.i c.loop-i-test.false c.loop-i.invariant
