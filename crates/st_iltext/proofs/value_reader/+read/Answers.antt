use Rattle.std.proofs.Common.{refl, sym, ap, subst, ◌∙◌, Err, arith}
use Rattle.std.proofs.lemmas.Result.{err_from_is_err_and}
use Rattle.st_il.specs.declared.value.Value.TheVariants as val
use Rattle.st_text.specs.Text.{word, list, more}
use Rattle.st_text.specs.Trees.{tree_of, trees_of}
use Rattle.st_iltext.specs.declared.value_form.ValueForm.{ValueForm}
use Rattle.st_iltext.specs.Values.{value_tree, value_written}
use Rattle.st_iltext.specs.inner.Fields.{fields_row}
use Rattle.st_iltext.specs.inner.Forms.{form_word}
use Rattle.st_iltext.specs.inner.Reading.{Reads}
use Rattle.st_iltext.proofs.Depths.{first_below, rest_below, behind_below, tree_below}
use Rattle.st_iltext.proofs.Rows.{tree_of-List, so_far_none}
use Rattle.st_iltext.proofs.ValueReading.{IsValue, value_no_form, case_no_parts, case_is, tuple_none, tuple_is, list_none, list_is, record_none, record_is, option_long, option_short, fields_step, fields_no_name, fields_no_value, fields_none, passed_value, passed_values, passed_fields, nothing}
use Rattle.st_iltext.proofs.value_reader.+read.Goals as goal

pub read_case-returns-in_err-read_values : goal.read_case-returns-in_err-read_values
read_case-returns-in_err-read_values t c =
    let failed = err_from_is_err_and c.from_residual-in_err-read_values.result c.from_residual-in_err-read_values.ensures.1 in
    passed_value _ _ _ _ _ (case_no_parts _ _ _ (ap trees_of c.in-Some.ensures.cases.0)) c.in_err-read_values.ensures (failed.1 ∙ ap Err failed.2)

pub read_case-returns : goal.read_case-returns
read_case-returns t c =
    case_is _ _ _ _ _ _ (ap trees_of c.in-Some.ensures.cases.0) c.in-Some-quoted.ensures c.in_ok-tag.ensures c.in_ok-read_values.ensures

pub read_fields-returns-in_default-quoted : goal.read_fields-returns-in_default-quoted
read_fields-returns-in_default-quoted t c =
    (refl, fields_no_name _ _ _ _ _ c.fields.invariant c.in-Some.ensures.cases.0 c.in_default-quoted.ensures)

pub read_fields-returns-in_default-split_first : goal.read_fields-returns-in_default-split_first
read_fields-returns-in_default-split_first t c =
    (refl, fields_no_value _ _ _ _ _ c.fields.invariant c.in-Some.ensures.cases.0 (nothing _ (omega (arith, c.in_default-split_first.ensures.cases))))

pub read_fields-value_of-requires : goal.read_fields-value_of-requires
read_fields-value_of-requires t c =
    let behind = behind_below (fields_row c.fields.fields) c.args.trees.now c.fields.rest.now c.fields.invariant.are in
    let rest = rest_below _ _ _ c.in-Some.ensures.cases.0 in
    let first = first_below _ _ _ c.in-Some-split_first.ensures.cases.0 in
    (omega (arith, behind, rest, first), tt)

pub read_fields-returns-in_err-value_of : goal.read_fields-returns-in_err-value_of
read_fields-returns-in_err-value_of t c =
    let failed = err_from_is_err_and c.from_residual-in_err-value_of.result c.from_residual-in_err-value_of.ensures.1 in
    passed_fields _ _ _ _ _ (fields_none _ _ _ _ _ _ _ c.fields.invariant c.in-Some.ensures.cases.0 c.in-Some-split_first.ensures.cases.0) c.in_err-value_of.ensures (failed.1 ∙ ap Err failed.2)

pub read_fields-fields-preserved : goal.read_fields-fields-preserved
read_fields-fields-preserved t c =
    fields_step _ _ _ _ _ _ _ _ _ _ _ c.fields.invariant c.in-Some.ensures.cases.0 c.in-Some-split_first.ensures.cases.0 c.in-Some-quoted.ensures c.in_ok-name.ensures c.in_ok-value_of.ensures c.in_ok-push.ensures.ok

pub read_form-returns-in_err-read_fields-in-Fields : goal.read_form-returns-in_err-read_fields-in-Fields
read_form-returns-in_err-read_fields-in-Fields t c =
    let failed = err_from_is_err_and c.from_residual.result c.from_residual.ensures.1 in
    subst (λ (f : ValueForm). Reads value_tree value_written (list (more (word (form_word f)) (trees_of c.args.parts.now))) c.from_residual.result) (sym c.in-Fields.is)
    (passed_value _ _ _ _ _ (record_none _) c.in_err-read_fields-in-Fields.ensures (failed.1 ∙ ap Err failed.2))

pub read_form-returns-in_err-read_values-in-Tuple : goal.read_form-returns-in_err-read_values-in-Tuple
read_form-returns-in_err-read_values-in-Tuple t c =
    let failed = err_from_is_err_and c.from_residual-in_err-read_values-in-Tuple.result c.from_residual-in_err-read_values-in-Tuple.ensures.1 in
    subst (λ (f : ValueForm). Reads value_tree value_written (list (more (word (form_word f)) (trees_of c.args.parts.now))) c.from_residual-in_err-read_values-in-Tuple.result) (sym c.in-Tuple.is)
    (passed_value _ _ _ _ _ (tuple_none _) c.in_err-read_values-in-Tuple.ensures (failed.1 ∙ ap Err failed.2))

pub read_form-returns-in_err-read_values-in-List : goal.read_form-returns-in_err-read_values-in-List
read_form-returns-in_err-read_values-in-List t c =
    let failed = err_from_is_err_and c.from_residual-in_err-read_values-in-List.result c.from_residual-in_err-read_values-in-List.ensures.1 in
    subst (λ (f : ValueForm). Reads value_tree value_written (list (more (word (form_word f)) (trees_of c.args.parts.now))) c.from_residual-in_err-read_values-in-List.result) (sym c.in-List.is)
    (passed_value _ _ _ _ _ (list_none _) c.in_err-read_values-in-List.ensures (failed.1 ∙ ap Err failed.2))

pub read_form-returns-in_ok-read_fields-in-Fields : goal.read_form-returns-in_ok-read_fields-in-Fields
read_form-returns-in_ok-read_fields-in-Fields t c =
    subst (λ (f : ValueForm). IsValue (list (more (word (form_word f)) (trees_of c.args.parts.now))) (val.Fields c.in_ok-read_fields-in-Fields.field-0)) (sym c.in-Fields.is)
    (record_is _ _ c.in_ok-read_fields-in-Fields.ensures)

pub read_form-returns-in_ok-read_values-in-Tuple : goal.read_form-returns-in_ok-read_values-in-Tuple
read_form-returns-in_ok-read_values-in-Tuple t c =
    subst (λ (f : ValueForm). IsValue (list (more (word (form_word f)) (trees_of c.args.parts.now))) (val.Tuple c.in_ok-read_values-in-Tuple.field-0)) (sym c.in-Tuple.is)
    (tuple_is _ _ c.in_ok-read_values-in-Tuple.ensures)

pub read_form-returns-in_ok-read_values-in-List : goal.read_form-returns-in_ok-read_values-in-List
read_form-returns-in_ok-read_values-in-List t c =
    subst (λ (f : ValueForm). IsValue (list (more (word (form_word f)) (trees_of c.args.parts.now))) (val.List c.in_ok-read_values-in-List.field-0)) (sym c.in-List.is)
    (list_is _ _ c.in_ok-read_values-in-List.ensures)

pub read_option-returns-then-not-is_empty : goal.read_option-returns-then-not-is_empty
read_option-returns-then-not-is_empty t c =
    (refl, option_long _ _ _ _ c.in-Some.ensures.cases.0 c.is_empty.ensures c.if-not-is_empty.true)

pub read_option-returns : goal.read_option-returns
read_option-returns t c =
    option_short _ _ _ _ _ _ c.in-Some.ensures.cases.0 c.is_empty.ensures c.if-not-is_empty.false c.in_ok-part.ensures c.in_ok-new.ensures

pub read_values-value_of-requires : goal.read_values-value_of-requires
read_values-value_of-requires t c =
    let below = tree_below c.args.trees.now c.loop-tree.tree-index c.tree-item.result (omega arith) c.tree-item.is in
    (omega (arith, below), tt)

pub read_values-returns-in_err-value_of : goal.read_values-returns-in_err-value_of
read_values-returns-in_err-value_of t c =
    let failed = err_from_is_err_and c.from_residual.result c.from_residual.ensures.1 in
    passed_values _ _ _ _ _ (so_far_none value_tree value_written c.args.trees.now c.loop-tree.tree-index c.tree-item.result (omega arith) c.tree-item.is) c.in_err-value_of.ensures (failed.1 ∙ ap Err failed.2)

pub value_of-returns-in_default-form_of : goal.value_of-returns-in_default-form_of
value_of-returns-in_default-form_of t c =
    (refl, value_no_form _ _ _ (ap tree_of c.in-List.is ∙ tree_of-List _ ∙ ap (λ us. list (trees_of us)) (sym c.as_slice-in-List.ensures ∙ c.in-Some-split_first.ensures.cases.0)) c.in_default-form_of.ensures)
