use Rattle.std.proofs.Common.{◌∙◌}
use Rattle.st_il.proofs.OrderLemmas.{cases-tied, value_cmp-Fields, value_cmp-Tuple, value_cmp-List, ended}
use Rattle.st_il.specs.Order.{value_cmp, field_cmp}
use Rattle.st_il.proofs.order.+compare.Goals as goal

pub compare_parts-returns : goal.compare_parts-returns
compare_parts-returns t c =
    c.cmp.ensures ∙ ended value_cmp c.args.parts.now c.args.others.now c.loop-i.i c.loop-i-test.false c.loop-i.auto.i-end c.loop-i.invariant.within c.loop-i.invariant.rest

pub compare_fields-returns : goal.compare_fields-returns
compare_fields-returns t c =
    c.cmp-2.ensures ∙ ended (field_cmp value_cmp) c.args.fields.now c.args.others.now c.loop-i.i c.loop-i-test.false c.loop-i.auto.i-end c.loop-i.invariant.within c.loop-i.invariant.rest

pub compare_value-returns-in-Equal : goal.compare_value-returns-in-Equal
compare_value-returns-in-Equal t c =
    cases-tied c.args.a.now c.args.b.now c.in-Case-Case.tag c.in-Case-Case.other c.in-Case-Case.parts c.in-Case-Case.others _ _ _ c.in-Case-Case.is-0 c.in-Case-Case.is-1 c.in-Equal.ensures c.compare_parts.ensures c.as_slice.ensures c.as_slice-in-Equal.ensures

pub compare_value-returns-in-Fields-Fields : goal.compare_value-returns-in-Fields-Fields
compare_value-returns-in-Fields-Fields t c =
    cc (value_cmp-Fields c.args.a.now c.args.b.now c.in-Fields-Fields.fields c.in-Fields-Fields.others c.in-Fields-Fields.is-0 c.in-Fields-Fields.is-1)

pub compare_value-returns-in-Tuple-Tuple : goal.compare_value-returns-in-Tuple-Tuple
compare_value-returns-in-Tuple-Tuple t c =
    cc (value_cmp-Tuple c.args.a.now c.args.b.now c.in-Tuple-Tuple.parts c.in-Tuple-Tuple.others c.in-Tuple-Tuple.is-0 c.in-Tuple-Tuple.is-1)

pub compare_value-returns-in-List-List : goal.compare_value-returns-in-List-List
compare_value-returns-in-List-List t c =
    cc (value_cmp-List c.args.a.now c.args.b.now c.in-List-List.parts c.in-List-List.others c.in-List-List.is-0 c.in-List-List.is-1)
