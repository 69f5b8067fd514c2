use Rattle.std.proofs.Common.{sym, subst}
use Rattle.st_term.specs.TermValue.{IsTermValue, AreTermValues}
use Rattle.st_term.specs.inner.TermElements.{AreElements}
use Rattle.st_term.proofs.TermValues.{value_Up, value_Neg, value_Present, value_Case, value_Tuple, value_Fields, value_List, values_end, elements_next, elements_end}
use Rattle.st_term.proofs.value.+value.Goals as goal

pub elements_of-loop-item-preserved : goal.elements_of-loop-item-preserved
elements_of-loop-item-preserved t c =
    elements_next c.args.types.now c.args.items.now c.loop-item.item-index c.item-item.result c.loop-item.elements c.in_ok-elements.elements c.in_ok-more.more c.loop-item-test.true c.item-item.is
    c.loop-item.invariant c.in_ok-more.ensures c.in_ok-elements.ensures

pub elements_of-returns : goal.elements_of-returns
elements_of-returns t c = elements_end c.args.types.now c.args.items.now c.loop-item.item-index c.loop-item.elements c.loop-item-test.false c.loop-item.invariant

pub values_of-returns : goal.values_of-returns
values_of-returns t c = values_end c.args.types.now c.args.exps.now c.loop-exp.exp-index c.loop-exp.values c.loop-exp-test.false c.loop-exp.invariant

pub value_of-returns-in_ok-value-in-Up : goal.value_of-returns-in_ok-value-in-Up
value_of-returns-in_ok-value-in-Up t c =
    let v = c.in_ok-value-in-Up.value in
    value_Up c.args.types.now c.args.exp.now c.in-Up.inner c.in-Up.field-0 v c.in-Up.is (subst (λ z. IsTermValue c.args.types.now z v) c.get.ensures c.in_ok-value-in-Up.ensures)

pub value_of-returns-in_ok-value-in-Neg-2 : goal.value_of-returns-in_ok-value-in-Neg-2
value_of-returns-in_ok-value-in-Neg-2 t c =
    let v = c.in_ok-value-in-Neg.value in
    value_Neg c.args.types.now c.args.exp.now c.in-Neg.inner v c.in_ok-value-in-Neg-2.value c.in-Neg.is (subst (λ z. IsTermValue c.args.types.now z v) c.get-in-Neg.ensures c.in_ok-value-in-Neg.ensures)
    c.in_ok-value-in-Neg-2.ensures

pub value_of-returns-in_ok-value-in-Present : goal.value_of-returns-in_ok-value-in-Present
value_of-returns-in_ok-value-in-Present t c =
    let v = c.in_ok-part-in-Present.part in
    let has : IsTermValue c.args.types.now c.in-Present.inner v = subst (λ z. IsTermValue c.args.types.now z v) c.get-in-Present.ensures c.in_ok-part-in-Present.ensures in
    value_Present c.args.types.now c.args.exp.now c.in-Present.inner c.in_ok-part-in-Present-2.part c.in_ok-value-in-Present.value c.in-Present.is
    (subst (IsTermValue c.args.types.now c.in-Present.inner) (sym c.in_ok-part-in-Present-2.ensures) has) c.in_ok-value-in-Present.ensures

pub value_of-returns-in_ok-value-in-Case : goal.value_of-returns-in_ok-value-in-Case
value_of-returns-in_ok-value-in-Case t c =
    let vs = c.in_ok-values-in-Case.values in
    value_Case c.args.types.now c.args.exp.now c.in-Case.field-0 c.in-Case.tag c.in_ok-tag-in-Case.tag c.in-Case.operands vs c.in_ok-value-in-Case.value c.in-Case.is
    (subst (λ z. AreTermValues c.args.types.now z vs) c.as_slice.ensures c.in_ok-values-in-Case.ensures) c.in_ok-tag-in-Case.ensures c.in_ok-value-in-Case.ensures

pub value_of-returns-in_ok-value-in-Tuple : goal.value_of-returns-in_ok-value-in-Tuple
value_of-returns-in_ok-value-in-Tuple t c =
    let vs = c.in_ok-values-in-Tuple.values in
    value_Tuple c.args.types.now c.args.exp.now c.in-Tuple.parts vs c.in_ok-value-in-Tuple.value c.in-Tuple.is
    (subst (λ z. AreTermValues c.args.types.now z vs) c.as_slice-in-Tuple.ensures c.in_ok-values-in-Tuple.ensures) c.in_ok-value-in-Tuple.ensures

pub value_of-returns-in_ok-value-in-Fields : goal.value_of-returns-in_ok-value-in-Fields
value_of-returns-in_ok-value-in-Fields t c =
    let vs = c.in_ok-values-in-Fields.values in
    value_Fields c.args.types.now c.args.exp.now c.in-Fields.name c.in-Fields.parts vs c.in_ok-value-in-Fields.value c.in-Fields.is
    (subst (λ z. AreTermValues c.args.types.now z vs) c.as_slice-in-Fields.ensures c.in_ok-values-in-Fields.ensures) c.in_ok-value-in-Fields.ensures

pub value_of-returns-in_ok-value-in-List : goal.value_of-returns-in_ok-value-in-List
value_of-returns-in_ok-value-in-List t c =
    let vs = c.in_ok-elements-in-List.elements in
    value_List c.args.types.now c.args.exp.now c.in-List.field-0 c.in-List.items vs c.in_ok-value-in-List.value c.in-List.is
    (subst (λ z. AreElements c.args.types.now z vs) c.as_slice-in-List.ensures c.in_ok-elements-in-List.ensures) c.in_ok-value-in-List.ensures
