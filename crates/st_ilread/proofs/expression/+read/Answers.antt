use Rattle.std.proofs.Common.{refl, sym, ap, ◌∙◌, Err, arith}
use Rattle.std.proofs.lemmas.Result.{err_from_is_err_and}
use Rattle.st_text.specs.Text.{depth, row_depth}
use Rattle.st_iltext.specs.declared.kind.Kind.TheVariants as kind
use Rattle.st_iltext.specs.Expressions.{exp_tree, item_tree, segment_tree}
use Rattle.st_iltext.specs.Written.{exp_written, item_written, segment_written}
use Rattle.st_iltext.proofs.Depths.{tree_below}
use Rattle.st_iltext.proofs.Rows.{first_of, rest_of, so_far_start, so_far_step, so_far_end, so_far_none}
use Rattle.st_iltext.proofs.ExpReads.{exp_text, exp_no_kind, no_kind, unary_long, unary_none, unary_is, binary_none, binary_is, arithmetic_no_type, arithmetic_none, arithmetic_is, tuple_none, list_no_type, list_no_items, list_is}
use Rattle.st_ilread.specs.inner.Parts.{path_written}
use Rattle.st_ilread.proofs.Passed.{passed, tree_is, tree_is_none, made_is, read_as, only_read, no_true, row_no_list, one_part, two_parts, part_and, three_parts, two_and}
use Rattle.st_ilread.proofs.ExpTrees.{word_tree, quote_tree, exp_unbegun, kind_as, kind_read, list_tree, case_none, case_is, fields_none, fields_is, call_none, call_is, dot_none, dot_is, set_none, set_is, extend_none, extend_is, tuple_short, tuple_is, slice_none, slice_is, up_none, up_is, iter_none, iter_is}
use Rattle.st_ilread.proofs.ItemTrees.{item_none, element_none, element_is, elements_none, elements_is}
use Rattle.st_ilread.proofs.SegmentTrees.{segment_none, index_none, index_is, part_none, part_is, path_is, path_none, path_empty}
use Rattle.st_ilread.proofs.IterationTrees.{iteration_none, star_is, plus_is, quest_is, count_none, times_is, below_is, one_alone}
use Rattle.st_ilread.proofs.expression.+read.Goals as goal

pub read_exp-returns-in_default : goal.read_exp-returns-in_default
read_exp-returns-in_default t c =
    (refl, exp_unbegun _ _ (list_tree _ _ _ _ c.in-List.is c.as_slice-in-List.ensures refl) c.in_default.ensures)

pub read_exp-returns-in_default-kind_of : goal.read_exp-returns-in_default-kind_of
read_exp-returns-in_default-kind_of t c =
    (refl, exp_no_kind _ _ _ (list_tree _ _ _ _ c.in-List.is c.as_slice-in-List.ensures c.in-Some-behind_one.ensures) c.in_default-kind_of.ensures)

pub read_exp-returns-in-Some-kind_of : goal.read_exp-returns-in-Some-kind_of
read_exp-returns-in-Some-kind_of t c =
    kind_read _ _ _ _ _ (list_tree _ _ _ _ c.in-List.is c.as_slice-in-List.ensures c.in-Some-behind_one.ensures) c.in-Some-kind_of.ensures c.read_kind.ensures

pub read_exp-read_kind-requires : goal.read_exp-read_kind-requires
read_exp-read_kind-requires t c =
    let is = list_tree _ _ _ _ c.in-List.is c.as_slice-in-List.ensures c.in-Some-behind_one.ensures in
    (omega (arith, ap depth is), tt)

pub read_exp-returns-in-Some : goal.read_exp-returns-in-Some
read_exp-returns-in-Some t c =
    tree_is _ _ _ _ _ (word_tree _ _ _ c.in-Word.is c.as_slice.ensures) c.in-Some.ensures

pub read_exp-returns-in-None : goal.read_exp-returns-in-None
read_exp-returns-in-None t c =
    (refl, tree_is_none _ _ _ _ (word_tree _ _ _ c.in-Word.is c.as_slice.ensures) c.in-None.ensures)

pub read_exp-returns-in_ok-copy-in-Quote : goal.read_exp-returns-in_ok-copy-in-Quote
read_exp-returns-in_ok-copy-in-Quote t c =
    exp_text _ _ _ (quote_tree _ _ c.in-Quote.is) c.in_ok-copy-in-Quote.ensures

pub read_boxed-returns-in_err-exp : goal.read_boxed-returns-in_err-exp
read_boxed-returns-in_err-exp t c =
    let failed = err_from_is_err_and c.from_residual.result c.from_residual.ensures.1 in
    passed _ _ _ _ _ _ c.in_err-exp.ensures (λ n. n) (failed.1 ∙ ap Err failed.2)

pub read_boxed-returns : goal.read_boxed-returns
read_boxed-returns t c = made_is _ _ _ _ _ c.in_ok-new.ensures c.in_ok-exp.ensures

pub read_only-returns-in_default : goal.read_only-returns-in_default
read_only-returns-in_default t c = (refl, record { never = λ x p e. c.in_default.ensures _ e })

pub read_only-read_exp-requires : goal.read_only-read_exp-requires
read_only-read_exp-requires t c = (omega (arith, ap row_depth c.in-Some.ensures), tt)

pub read_only-returns : goal.read_only-returns
read_only-returns t c = only_read _ _ _ _ _ c.in-Some.ensures c.read_exp.ensures

pub read_kind-returns-in-Var : goal.read_kind-returns-in-Var
read_kind-returns-in-Var t c = kind_as _ _ _ _ c.in-Var.is c.read_var.ensures

pub read_kind-returns-in-Unary : goal.read_kind-returns-in-Unary
read_kind-returns-in-Unary t c = kind_as _ _ _ _ c.in-Unary.is c.read_unary.ensures

pub read_kind-read_unary-requires : goal.read_kind-read_unary-requires
read_kind-read_unary-requires t c = (omega arith, tt)

pub read_kind-returns-in-Binary : goal.read_kind-returns-in-Binary
read_kind-returns-in-Binary t c = kind_as _ _ _ _ c.in-Binary.is c.read_binary.ensures

pub read_kind-read_binary-requires : goal.read_kind-read_binary-requires
read_kind-read_binary-requires t c = (omega arith, tt)

pub read_kind-returns-in-Arithmetic : goal.read_kind-returns-in-Arithmetic
read_kind-returns-in-Arithmetic t c = kind_as _ _ _ _ c.in-Arithmetic.is c.read_arithmetic.ensures

pub read_kind-read_arithmetic-requires : goal.read_kind-read_arithmetic-requires
read_kind-read_arithmetic-requires t c = (omega arith, tt)

pub read_kind-returns-in-Case : goal.read_kind-returns-in-Case
read_kind-returns-in-Case t c = kind_as _ _ _ _ c.in-Case.is c.read_case.ensures

pub read_kind-read_case-requires : goal.read_kind-read_case-requires
read_kind-read_case-requires t c = (omega arith, tt)

pub read_kind-returns-in-Fields : goal.read_kind-returns-in-Fields
read_kind-returns-in-Fields t c = kind_as _ _ _ _ c.in-Fields.is c.read_fields.ensures

pub read_kind-read_fields-requires : goal.read_kind-read_fields-requires
read_kind-read_fields-requires t c = (omega arith, tt)

pub read_kind-returns-in-Call : goal.read_kind-returns-in-Call
read_kind-returns-in-Call t c = kind_as _ _ _ _ c.in-Call.is c.read_call.ensures

pub read_kind-read_call-requires : goal.read_kind-read_call-requires
read_kind-read_call-requires t c = (omega arith, tt)

pub read_kind-returns-in-Dot : goal.read_kind-returns-in-Dot
read_kind-returns-in-Dot t c = kind_as _ _ _ _ c.in-Dot.is c.read_dot.ensures

pub read_kind-read_dot-requires : goal.read_kind-read_dot-requires
read_kind-read_dot-requires t c = (omega arith, tt)

pub read_kind-returns-in-Set : goal.read_kind-returns-in-Set
read_kind-returns-in-Set t c = kind_as _ _ _ _ c.in-Set.is c.read_set.ensures

pub read_kind-read_set-requires : goal.read_kind-read_set-requires
read_kind-read_set-requires t c = (omega arith, tt)

pub read_kind-returns-in-Extend : goal.read_kind-returns-in-Extend
read_kind-returns-in-Extend t c = kind_as _ _ _ _ c.in-Extend.is c.read_extend.ensures

pub read_kind-read_extend-requires : goal.read_kind-read_extend-requires
read_kind-read_extend-requires t c = (omega arith, tt)

pub read_kind-returns-in-Tuple : goal.read_kind-returns-in-Tuple
read_kind-returns-in-Tuple t c = kind_as _ _ _ _ c.in-Tuple.is c.read_tuple.ensures

pub read_kind-read_tuple-requires : goal.read_kind-read_tuple-requires
read_kind-read_tuple-requires t c = (omega arith, tt)

pub read_kind-returns-in-List : goal.read_kind-returns-in-List
read_kind-returns-in-List t c = kind_as _ _ _ _ c.in-List.is c.read_list.ensures

pub read_kind-read_list-requires : goal.read_kind-read_list-requires
read_kind-read_list-requires t c = (omega arith, tt)

pub read_kind-returns-in-Empty : goal.read_kind-returns-in-Empty
read_kind-returns-in-Empty t c = kind_as _ _ _ _ c.in-Empty.is c.read_empty.ensures

pub read_kind-returns-in-Absent : goal.read_kind-returns-in-Absent
read_kind-returns-in-Absent t c = kind_as _ _ _ _ c.in-Absent.is c.read_absent.ensures

pub read_kind-returns-in-Slice : goal.read_kind-returns-in-Slice
read_kind-returns-in-Slice t c = kind_as _ _ _ _ c.in-Slice.is c.read_slice.ensures

pub read_kind-read_slice-requires : goal.read_kind-read_slice-requires
read_kind-read_slice-requires t c = (omega arith, tt)

pub read_kind-returns-in-Up : goal.read_kind-returns-in-Up
read_kind-returns-in-Up t c = kind_as _ _ _ _ c.in-Up.is c.read_up.ensures

pub read_kind-read_up-requires : goal.read_kind-read_up-requires
read_kind-read_up-requires t c = (omega arith, tt)

pub read_kind-returns-in-Iter : goal.read_kind-returns-in-Iter
read_kind-returns-in-Iter t c = kind_as _ _ _ _ c.in-Iter.is c.read_iter.ensures

pub read_kind-read_iter-requires : goal.read_kind-read_iter-requires
read_kind-read_iter-requires t c = (omega arith, tt)

pub read_boxed-read_exp-requires : goal.read_boxed-read_exp-requires
read_boxed-read_exp-requires t c = (omega arith, tt)

pub read_binary-read_two-requires : goal.read_binary-read_two-requires
read_binary-read_two-requires t c = (omega arith, tt)

pub read_fields-read_named-requires : goal.read_fields-read_named-requires
read_fields-read_named-requires t c = (omega arith, tt)

pub read_call-read_named-requires : goal.read_call-read_named-requires
read_call-read_named-requires t c = (omega arith, tt)

pub read_set-read_update-requires : goal.read_set-read_update-requires
read_set-read_update-requires t c = (omega arith, tt)

pub read_extend-read_update-requires : goal.read_extend-read_update-requires
read_extend-read_update-requires t c = (omega arith, tt)

pub read_tuple-read_exps-requires : goal.read_tuple-read_exps-requires
read_tuple-read_exps-requires t c = (omega arith, tt)

pub read_element-read_only-requires : goal.read_element-read_only-requires
read_element-read_only-requires t c = (omega arith, tt)

pub read_elements-read_only-requires : goal.read_elements-read_only-requires
read_elements-read_only-requires t c = (omega arith, tt)

pub read_index_step-read_only-requires : goal.read_index_step-read_only-requires
read_index_step-read_only-requires t c = (omega arith, tt)

pub read_slice_step-read_two-requires : goal.read_slice_step-read_two-requires
read_slice_step-read_two-requires t c = (omega arith, tt)

pub read_unary-read_boxed-requires : goal.read_unary-read_boxed-requires
read_unary-read_boxed-requires t c = (omega (arith, ap row_depth c.in-Some.ensures), tt)

pub read_unary-returns-in_default : goal.read_unary-returns-in_default
read_unary-returns-in_default t c = (refl, unary_long _ _ (λ x e. c.in_default.ensures _ e))

pub read_unary-returns-in_err-operand : goal.read_unary-returns-in_err-operand
read_unary-returns-in_err-operand t c =
    let failed = err_from_is_err_and c.from_residual.result c.from_residual.ensures.1 in
    passed _ _ _ _ _ _ c.in_err-operand.ensures (λ n. unary_none _ _ _ c.in-Some.ensures n) (failed.1 ∙ ap Err failed.2)

pub read_unary-returns : goal.read_unary-returns
read_unary-returns t c = unary_is _ _ _ _ _ c.in-Some.ensures c.in_ok-operand.ensures c.of.ensures

pub read_two-read_boxed-requires : goal.read_two-read_boxed-requires
read_two-read_boxed-requires t c = (omega (arith, ap row_depth c.in-Some.ensures), tt)

pub read_two-read_boxed-requires-2 : goal.read_two-read_boxed-requires-2
read_two-read_boxed-requires-2 t c = (omega (arith, ap row_depth c.in-Some.ensures), tt)

pub read_two-returns-in_default : goal.read_two-returns-in_default
read_two-returns-in_default t c = (refl, record { never = λ x y i. c.in_default.ensures _ _ i.are })

pub read_two-returns-in_err-first : goal.read_two-returns-in_err-first
read_two-returns-in_err-first t c =
    let failed = err_from_is_err_and c.from_residual.result c.from_residual.ensures.1 in
    passed _ _ _ _ _ _ c.in_err-first.ensures (λ n. record { never = λ x y i. n.never x i.first (first_of (sym c.in-Some.ensures ∙ i.are)) }) (failed.1 ∙ ap Err failed.2)

pub read_two-returns-in_err-second : goal.read_two-returns-in_err-second
read_two-returns-in_err-second t c =
    let failed = err_from_is_err_and c.from_residual-in_err-second.result c.from_residual-in_err-second.ensures.1 in
    passed _ _ _ _ _ _ c.in_err-second.ensures (λ n. record { never = λ x y i. n.never y i.second (first_of (rest_of (sym c.in-Some.ensures ∙ i.are))) }) (failed.1 ∙ ap Err failed.2)

pub read_two-returns : goal.read_two-returns
read_two-returns t c = record { first = c.in_ok-first.ensures.fits; second = c.in_ok-second.ensures.fits; are = two_parts c.in-Some.ensures c.in_ok-first.ensures.is c.in_ok-second.ensures.is }

pub read_binary-returns-in_err-first : goal.read_binary-returns-in_err-first
read_binary-returns-in_err-first t c =
    let failed = err_from_is_err_and c.from_residual.result c.from_residual.ensures.1 in
    passed _ _ _ _ _ _ c.in_err-first.ensures (λ n. binary_none _ _ n) (failed.1 ∙ ap Err failed.2)

pub read_binary-returns : goal.read_binary-returns
read_binary-returns t c = binary_is _ _ _ _ _ c.in_ok-first.ensures c.of.ensures

pub read_arithmetic-read_two-requires : goal.read_arithmetic-read_two-requires
read_arithmetic-read_two-requires t c = (omega (arith, ap row_depth c.in-Some.ensures), tt)

pub read_arithmetic-returns-in_default : goal.read_arithmetic-returns-in_default
read_arithmetic-returns-in_default t c = (refl, no_kind (kind.Arithmetic c.args.operator) _ (λ x p d. c.in_default.ensures _ _ d.4))

pub read_arithmetic-returns-in_default-read_number_type : goal.read_arithmetic-returns-in_default-read_number_type
read_arithmetic-returns-in_default-read_number_type t c = (refl, arithmetic_no_type _ _ _ _ c.in-Some.ensures c.in_default-read_number_type.ensures)

pub read_arithmetic-returns-in_err-first : goal.read_arithmetic-returns-in_err-first
read_arithmetic-returns-in_err-first t c =
    let failed = err_from_is_err_and c.from_residual.result c.from_residual.ensures.1 in
    passed _ _ _ _ _ _ c.in_err-first.ensures (λ n. arithmetic_none _ _ _ _ c.in-Some.ensures n) (failed.1 ∙ ap Err failed.2)

pub read_arithmetic-returns : goal.read_arithmetic-returns
read_arithmetic-returns t c = arithmetic_is _ _ _ _ _ _ _ _ c.in-Some.ensures c.in-Some-read_number_type.ensures c.in_ok-first.ensures c.of.ensures

pub read_case-read_exps-requires : goal.read_case-read_exps-requires
read_case-read_exps-requires t c = (omega (arith, ap row_depth c.in-Some.ensures), tt)

pub read_case-returns-in_default : goal.read_case-returns-in_default
read_case-returns-in_default t c = (refl, case_none _ (λ t tag es p e. c.in_default.ensures _ _ _ e))

pub read_case-returns-in_err-ty : goal.read_case-returns-in_err-ty
read_case-returns-in_err-ty t c =
    let failed = err_from_is_err_and c.from_residual.result c.from_residual.ensures.1 in
    passed _ _ _ _ _ _ c.in_err-ty.ensures (λ n. case_none _ (λ t tag es p e. n.never t refl (first_of (sym c.in-Some.ensures ∙ e)))) (failed.1 ∙ ap Err failed.2)

pub read_case-returns-in_err-tag : goal.read_case-returns-in_err-tag
read_case-returns-in_err-tag t c =
    let failed = err_from_is_err_and c.from_residual-in_err-tag.result c.from_residual-in_err-tag.ensures.1 in
    passed _ _ _ _ _ _ c.in_err-tag.ensures (λ n. case_none _ (λ t tag es p e. n.never tag refl (first_of (rest_of (sym c.in-Some.ensures ∙ e))))) (failed.1 ∙ ap Err failed.2)

pub read_case-returns-in_err-operands : goal.read_case-returns-in_err-operands
read_case-returns-in_err-operands t c =
    let failed = err_from_is_err_and c.from_residual-in_err-operands.result c.from_residual-in_err-operands.ensures.1 in
    passed _ _ _ _ _ _ c.in_err-operands.ensures (λ n. case_none _ (λ t tag es p e. n.never es p (rest_of (rest_of (sym c.in-Some.ensures ∙ e))))) (failed.1 ∙ ap Err failed.2)

pub read_case-returns : goal.read_case-returns
read_case-returns t c = case_is _ _ _ _ c.in_ok-operands.ensures.fit (two_and c.in-Some.ensures c.in_ok-ty.ensures.is c.in_ok-tag.ensures.is c.in_ok-operands.ensures.are)

pub read_named-read_exps-requires : goal.read_named-read_exps-requires
read_named-read_exps-requires t c = (omega (arith, ap row_depth c.in-Some.ensures), tt)

pub read_named-returns-in_default : goal.read_named-returns-in_default
read_named-returns-in_default t c = (refl, record { never = λ x es i. c.in_default.ensures _ _ i.are })

pub read_named-returns-in_err-name : goal.read_named-returns-in_err-name
read_named-returns-in_err-name t c =
    let failed = err_from_is_err_and c.from_residual.result c.from_residual.ensures.1 in
    passed _ _ _ _ _ _ c.in_err-name.ensures (λ n. record { never = λ x es i. n.never x refl (first_of (sym c.in-Some.ensures ∙ i.are)) }) (failed.1 ∙ ap Err failed.2)

pub read_named-returns-in_err-exps : goal.read_named-returns-in_err-exps
read_named-returns-in_err-exps t c =
    let failed = err_from_is_err_and c.from_residual-in_err-exps.result c.from_residual-in_err-exps.ensures.1 in
    passed _ _ _ _ _ _ c.in_err-exps.ensures (λ n. record { never = λ x es i. n.never es i.fit (rest_of (sym c.in-Some.ensures ∙ i.are)) }) (failed.1 ∙ ap Err failed.2)

pub read_named-returns : goal.read_named-returns
read_named-returns t c = record { fit = c.in_ok-exps.ensures.fit; are = part_and c.in-Some.ensures c.in_ok-name.ensures.is c.in_ok-exps.ensures.are }

pub read_fields-returns-in_err-ty : goal.read_fields-returns-in_err-ty
read_fields-returns-in_err-ty t c =
    let failed = err_from_is_err_and c.from_residual.result c.from_residual.ensures.1 in
    passed _ _ _ _ _ _ c.in_err-ty.ensures (λ n. fields_none _ n) (failed.1 ∙ ap Err failed.2)

pub read_fields-returns : goal.read_fields-returns
read_fields-returns t c = fields_is _ _ _ c.in_ok-ty.ensures

pub read_call-returns-in_err-fun : goal.read_call-returns-in_err-fun
read_call-returns-in_err-fun t c =
    let failed = err_from_is_err_and c.from_residual.result c.from_residual.ensures.1 in
    passed _ _ _ _ _ _ c.in_err-fun.ensures (λ n. call_none _ n) (failed.1 ∙ ap Err failed.2)

pub read_call-returns : goal.read_call-returns
read_call-returns t c = call_is _ _ _ c.in_ok-fun.ensures

pub read_dot-read_boxed-requires : goal.read_dot-read_boxed-requires
read_dot-read_boxed-requires t c = (omega (arith, ap row_depth c.in-Some.ensures), tt)

pub read_dot-returns-in_default : goal.read_dot-returns-in_default
read_dot-returns-in_default t c = (refl, dot_none _ (λ x f p e. c.in_default.ensures _ _ e))

pub read_dot-returns-in_err-exp : goal.read_dot-returns-in_err-exp
read_dot-returns-in_err-exp t c =
    let failed = err_from_is_err_and c.from_residual.result c.from_residual.ensures.1 in
    passed _ _ _ _ _ _ c.in_err-exp.ensures (λ n. dot_none _ (λ x f p e. n.never x p (first_of (sym c.in-Some.ensures ∙ e)))) (failed.1 ∙ ap Err failed.2)

pub read_dot-returns-in_err-field : goal.read_dot-returns-in_err-field
read_dot-returns-in_err-field t c =
    let failed = err_from_is_err_and c.from_residual-in_err-field.result c.from_residual-in_err-field.ensures.1 in
    passed _ _ _ _ _ _ c.in_err-field.ensures (λ n. dot_none _ (λ x f p e. n.never f refl (first_of (rest_of (sym c.in-Some.ensures ∙ e))))) (failed.1 ∙ ap Err failed.2)

pub read_dot-returns : goal.read_dot-returns
read_dot-returns t c = dot_is _ _ _ c.in_ok-exp.ensures.fits (two_parts c.in-Some.ensures c.in_ok-exp.ensures.is c.in_ok-field.ensures.is)

pub read_update-read_boxed-requires : goal.read_update-read_boxed-requires
read_update-read_boxed-requires t c = (omega (arith, ap row_depth c.in-Some.ensures), tt)

pub read_update-read_path-requires : goal.read_update-read_path-requires
read_update-read_path-requires t c = (omega (arith, ap row_depth c.in-Some.ensures), tt)

pub read_update-read_boxed-requires-2 : goal.read_update-read_boxed-requires-2
read_update-read_boxed-requires-2 t c = (omega (arith, ap row_depth c.in-Some.ensures), tt)

pub read_update-returns-in_default : goal.read_update-returns-in_default
read_update-returns-in_default t c = (refl, record { never = λ x path y i. c.in_default.ensures _ _ _ i.are })

pub read_update-returns-in_err-exp : goal.read_update-returns-in_err-exp
read_update-returns-in_err-exp t c =
    let failed = err_from_is_err_and c.from_residual.result c.from_residual.ensures.1 in
    passed _ _ _ _ _ _ c.in_err-exp.ensures (λ n. record { never = λ x path y i. n.never x i.first (first_of (sym c.in-Some.ensures ∙ i.are)) }) (failed.1 ∙ ap Err failed.2)

pub read_update-returns-in_err-path : goal.read_update-returns-in_err-path
read_update-returns-in_err-path t c =
    let failed = err_from_is_err_and c.from_residual-in_err-path.result c.from_residual-in_err-path.ensures.1 in
    passed _ _ _ _ _ _ c.in_err-path.ensures (λ n. record { never = λ x path y i. n.never path i.second (first_of (rest_of (sym c.in-Some.ensures ∙ i.are))) }) (failed.1 ∙ ap Err failed.2)

pub read_update-returns-in_err-value : goal.read_update-returns-in_err-value
read_update-returns-in_err-value t c =
    let failed = err_from_is_err_and c.from_residual-in_err-value.result c.from_residual-in_err-value.ensures.1 in
    passed _ _ _ _ _ _ c.in_err-value.ensures (λ n. record { never = λ x path y i. n.never y i.third (first_of (rest_of (rest_of (sym c.in-Some.ensures ∙ i.are)))) }) (failed.1 ∙ ap Err failed.2)

pub read_update-returns : goal.read_update-returns
read_update-returns t c =
    record {
      first = c.in_ok-exp.ensures.fits;
      second = c.in_ok-path.ensures.fits;
      third = c.in_ok-value.ensures.fits;
      are = three_parts c.in-Some.ensures c.in_ok-exp.ensures.is c.in_ok-path.ensures.is c.in_ok-value.ensures.is;
    }

pub read_set-returns-in_err-exp : goal.read_set-returns-in_err-exp
read_set-returns-in_err-exp t c =
    let failed = err_from_is_err_and c.from_residual.result c.from_residual.ensures.1 in
    passed _ _ _ _ _ _ c.in_err-exp.ensures (λ n. set_none _ n) (failed.1 ∙ ap Err failed.2)

pub read_set-returns : goal.read_set-returns
read_set-returns t c = set_is _ _ _ _ c.in_ok-exp.ensures

pub read_extend-returns-in_err-exp : goal.read_extend-returns-in_err-exp
read_extend-returns-in_err-exp t c =
    let failed = err_from_is_err_and c.from_residual.result c.from_residual.ensures.1 in
    passed _ _ _ _ _ _ c.in_err-exp.ensures (λ n. extend_none _ n) (failed.1 ∙ ap Err failed.2)

pub read_extend-returns : goal.read_extend-returns
read_extend-returns t c = extend_is _ _ _ _ c.in_ok-exp.ensures

pub read_tuple-returns-in_err-exps : goal.read_tuple-returns-in_err-exps
read_tuple-returns-in_err-exps t c =
    let failed = err_from_is_err_and c.from_residual.result c.from_residual.ensures.1 in
    passed _ _ _ _ _ _ c.in_err-exps.ensures (λ n. tuple_none _ n) (failed.1 ∙ ap Err failed.2)

pub read_tuple-returns-then-len-lt2 : goal.read_tuple-returns-then-len-lt2
read_tuple-returns-then-len-lt2 t c = (refl, tuple_short _ _ c.in_ok-exps.ensures (omega arith))

pub read_tuple-returns : goal.read_tuple-returns
read_tuple-returns t c = tuple_is _ _ c.in_ok-exps.ensures (omega arith)

pub read_list-read_items-requires : goal.read_list-read_items-requires
read_list-read_items-requires t c = (omega (arith, ap row_depth c.in-Some.ensures), tt)

pub read_list-returns-in_default : goal.read_list-returns-in_default
read_list-returns-in_default t c = (refl, no_kind kind.List _ (λ x p d. c.in_default.ensures _ _ d.3))

pub read_list-returns-in_err-ty : goal.read_list-returns-in_err-ty
read_list-returns-in_err-ty t c =
    let failed = err_from_is_err_and c.from_residual.result c.from_residual.ensures.1 in
    passed _ _ _ _ _ _ c.in_err-ty.ensures (λ n. list_no_type _ _ _ c.in-Some.ensures n) (failed.1 ∙ ap Err failed.2)

pub read_list-returns-in_err-items : goal.read_list-returns-in_err-items
read_list-returns-in_err-items t c =
    let failed = err_from_is_err_and c.from_residual-in_err-items.result c.from_residual-in_err-items.ensures.1 in
    passed _ _ _ _ _ _ c.in_err-items.ensures (λ n. list_no_items _ _ _ c.in-Some.ensures n) (failed.1 ∙ ap Err failed.2)

pub read_list-returns : goal.read_list-returns
read_list-returns t c = list_is _ _ _ _ _ c.in-Some.ensures c.in_ok-ty.ensures c.in_ok-items.ensures

pub read_slice-read_boxed-requires : goal.read_slice-read_boxed-requires
read_slice-read_boxed-requires t c = (omega (arith, ap row_depth c.in-Some.ensures), tt)

pub read_slice-read_two-requires : goal.read_slice-read_two-requires
read_slice-read_two-requires t c = (omega (arith, ap row_depth c.in-Some.ensures), tt)

pub read_slice-returns-in_default : goal.read_slice-returns-in_default
read_slice-returns-in_default t c = (refl, slice_none _ (λ x y z p q r e. c.in_default.ensures _ _ e))

pub read_slice-returns-in_err-exp : goal.read_slice-returns-in_err-exp
read_slice-returns-in_err-exp t c =
    let failed = err_from_is_err_and c.from_residual.result c.from_residual.ensures.1 in
    passed _ _ _ _ _ _ c.in_err-exp.ensures (λ n. slice_none _ (λ x y z p q r e. n.never x p (first_of (sym c.in-Some.ensures ∙ e)))) (failed.1 ∙ ap Err failed.2)

pub read_slice-returns-in_err-start : goal.read_slice-returns-in_err-start
read_slice-returns-in_err-start t c =
    let failed = err_from_is_err_and c.from_residual-in_err-start.result c.from_residual-in_err-start.ensures.1 in
    passed _ _ _ _ _ _ c.in_err-start.ensures (λ n. slice_none _ (λ x y z p q r e. n.never y z (record { first = q; second = r; are = rest_of (sym c.in-Some.ensures ∙ e) }))) (failed.1 ∙ ap Err failed.2)

pub read_slice-returns : goal.read_slice-returns
read_slice-returns t c = slice_is _ _ _ _ c.in_ok-exp.ensures.fits c.in_ok-start.ensures.first c.in_ok-start.ensures.second (part_and c.in-Some.ensures c.in_ok-exp.ensures.is c.in_ok-start.ensures.are)

pub read_up-read_boxed-requires : goal.read_up-read_boxed-requires
read_up-read_boxed-requires t c = (omega (arith, ap row_depth c.in-Some.ensures), tt)

pub read_up-returns-in_default : goal.read_up-returns-in_default
read_up-returns-in_default t c = (refl, up_none _ (λ t x p q e. c.in_default.ensures _ _ e))

pub read_up-returns-in_err-ty : goal.read_up-returns-in_err-ty
read_up-returns-in_err-ty t c =
    let failed = err_from_is_err_and c.from_residual.result c.from_residual.ensures.1 in
    passed _ _ _ _ _ _ c.in_err-ty.ensures (λ n. up_none _ (λ t x p q e. n.never t p (first_of (sym c.in-Some.ensures ∙ e)))) (failed.1 ∙ ap Err failed.2)

pub read_up-returns-in_err-exp : goal.read_up-returns-in_err-exp
read_up-returns-in_err-exp t c =
    let failed = err_from_is_err_and c.from_residual-in_err-exp.result c.from_residual-in_err-exp.ensures.1 in
    passed _ _ _ _ _ _ c.in_err-exp.ensures (λ n. up_none _ (λ t x p q e. n.never x q (first_of (rest_of (sym c.in-Some.ensures ∙ e))))) (failed.1 ∙ ap Err failed.2)

pub read_up-returns : goal.read_up-returns
read_up-returns t c = up_is _ _ _ c.in_ok-ty.ensures.fits c.in_ok-exp.ensures.fits (two_parts c.in-Some.ensures c.in_ok-ty.ensures.is c.in_ok-exp.ensures.is)

pub read_iter-read_iteration-requires : goal.read_iter-read_iteration-requires
read_iter-read_iteration-requires t c = (omega (arith, ap row_depth c.in-Some.ensures), tt)

pub read_iter-read_boxed-requires : goal.read_iter-read_boxed-requires
read_iter-read_boxed-requires t c = (omega (arith, ap row_depth c.in-Some.ensures), tt)

pub read_iter-returns-in_default : goal.read_iter-returns-in_default
read_iter-returns-in_default t c = (refl, iter_none _ (λ k xs x p q r e. c.in_default.ensures _ _ _ e))

pub read_iter-returns-in_err-count : goal.read_iter-returns-in_err-count
read_iter-returns-in_err-count t c =
    let failed = err_from_is_err_and c.from_residual.result c.from_residual.ensures.1 in
    passed _ _ _ _ _ _ c.in_err-count.ensures (λ n. iter_none _ (λ k xs x p q r e. n.never k p (first_of (sym c.in-Some.ensures ∙ e)))) (failed.1 ∙ ap Err failed.2)

pub read_iter-returns-in_err-names : goal.read_iter-returns-in_err-names
read_iter-returns-in_err-names t c =
    let failed = err_from_is_err_and c.from_residual-in_err-names.result c.from_residual-in_err-names.ensures.1 in
    passed _ _ _ _ _ _ c.in_err-names.ensures (λ n. iter_none _ (λ k xs x p q r e. n.never xs q (first_of (rest_of (sym c.in-Some.ensures ∙ e))))) (failed.1 ∙ ap Err failed.2)

pub read_iter-returns-in_err-body : goal.read_iter-returns-in_err-body
read_iter-returns-in_err-body t c =
    let failed = err_from_is_err_and c.from_residual-in_err-body.result c.from_residual-in_err-body.ensures.1 in
    passed _ _ _ _ _ _ c.in_err-body.ensures (λ n. iter_none _ (λ k xs x p q r e. n.never x r (first_of (rest_of (rest_of (sym c.in-Some.ensures ∙ e)))))) (failed.1 ∙ ap Err failed.2)

pub read_iter-returns : goal.read_iter-returns
read_iter-returns t c = iter_is _ _ _ _ c.in_ok-count.ensures.fits c.in_ok-names.ensures.fits c.in_ok-body.ensures.fits (three_parts c.in-Some.ensures c.in_ok-count.ensures.is c.in_ok-names.ensures.is c.in_ok-body.ensures.is)

pub read_exps-read_exp-requires : goal.read_exps-read_exp-requires
read_exps-read_exp-requires t c =
    let below = tree_below c.args.trees.now c.loop-tree.tree-index c.tree-item.result (omega arith) c.tree-item.is in
    (omega (arith, below), tt)

pub read_exps-returns-in_err-read_exp : goal.read_exps-returns-in_err-read_exp
read_exps-returns-in_err-read_exp t c =
    let failed = err_from_is_err_and c.from_residual.result c.from_residual.ensures.1 in
    passed _ _ _ _ _ _ c.in_err-read_exp.ensures (λ n. so_far_none exp_tree exp_written c.args.trees.now c.loop-tree.tree-index c.tree-item.result (omega arith) c.tree-item.is n) (failed.1 ∙ ap Err failed.2)

pub read_exps-loop-tree-init : goal.read_exps-loop-tree-init
read_exps-loop-tree-init t c = so_far_start exp_tree exp_written _ _ c.new-exps.ensures

pub read_exps-loop-tree-preserved : goal.read_exps-loop-tree-preserved
read_exps-loop-tree-preserved t c =
    so_far_step exp_tree exp_written _ _ _ _ _ _ c.loop-tree.invariant (omega arith) c.tree-item.is c.in_ok-read_exp.ensures c.in_ok-push.ensures.ok

pub read_exps-returns : goal.read_exps-returns
read_exps-returns t c = so_far_end exp_tree exp_written _ _ _ c.loop-tree.invariant (omega arith)

pub read_items-read_item-requires : goal.read_items-read_item-requires
read_items-read_item-requires t c =
    let below = tree_below c.args.trees.now c.loop-tree.tree-index c.tree-item.result (omega arith) c.tree-item.is in
    (omega (arith, below), tt)

pub read_items-returns-in_err-read_item : goal.read_items-returns-in_err-read_item
read_items-returns-in_err-read_item t c =
    let failed = err_from_is_err_and c.from_residual.result c.from_residual.ensures.1 in
    passed _ _ _ _ _ _ c.in_err-read_item.ensures (λ n. so_far_none item_tree item_written c.args.trees.now c.loop-tree.tree-index c.tree-item.result (omega arith) c.tree-item.is n) (failed.1 ∙ ap Err failed.2)

pub read_items-loop-tree-init : goal.read_items-loop-tree-init
read_items-loop-tree-init t c = so_far_start item_tree item_written _ _ c.new-items.ensures

pub read_items-loop-tree-preserved : goal.read_items-loop-tree-preserved
read_items-loop-tree-preserved t c =
    so_far_step item_tree item_written _ _ _ _ _ _ c.loop-tree.invariant (omega arith) c.tree-item.is c.in_ok-read_item.ensures c.in_ok-push.ensures.ok

pub read_items-returns : goal.read_items-returns
read_items-returns t c = so_far_end item_tree item_written _ _ _ c.loop-tree.invariant (omega arith)

pub read_segments-read_segment-requires : goal.read_segments-read_segment-requires
read_segments-read_segment-requires t c =
    let below = tree_below c.args.trees.now c.loop-tree.tree-index c.tree-item.result (omega arith) c.tree-item.is in
    (omega (arith, below), tt)

pub read_segments-returns-in_err-read_segment : goal.read_segments-returns-in_err-read_segment
read_segments-returns-in_err-read_segment t c =
    let failed = err_from_is_err_and c.from_residual.result c.from_residual.ensures.1 in
    passed _ _ _ _ _ _ c.in_err-read_segment.ensures (λ n. so_far_none segment_tree segment_written c.args.trees.now c.loop-tree.tree-index c.tree-item.result (omega arith) c.tree-item.is n) (failed.1 ∙ ap Err failed.2)

pub read_segments-loop-tree-init : goal.read_segments-loop-tree-init
read_segments-loop-tree-init t c = so_far_start segment_tree segment_written _ _ c.new-segments.ensures

pub read_segments-loop-tree-preserved : goal.read_segments-loop-tree-preserved
read_segments-loop-tree-preserved t c =
    so_far_step segment_tree segment_written _ _ _ _ _ _ c.loop-tree.invariant (omega arith) c.tree-item.is c.in_ok-read_segment.ensures c.in_ok-push.ensures.ok

pub read_segments-returns : goal.read_segments-returns
read_segments-returns t c = so_far_end segment_tree segment_written _ _ _ c.loop-tree.invariant (omega arith)

pub read_item-read_element-requires : goal.read_item-read_element-requires
read_item-read_element-requires t c = (omega (arith, ap depth c.in-Some.ensures), tt)

pub read_item-read_elements-requires : goal.read_item-read_elements-requires
read_item-read_elements-requires t c = (omega (arith, ap depth c.in-Some-form_parts.ensures), tt)

pub read_item-returns-in-Some : goal.read_item-returns-in-Some
read_item-returns-in-Some t c = read_as _ _ _ _ _ c.in-Some.ensures c.read_element.ensures

pub read_item-returns-in-Some-form_parts : goal.read_item-returns-in-Some-form_parts
read_item-returns-in-Some-form_parts t c = read_as _ _ _ _ _ c.in-Some-form_parts.ensures c.read_elements.ensures

pub read_item-returns : goal.read_item-returns
read_item-returns t c = (refl, item_none _ (λ x p e. c.in_default.ensures _ e) (λ x p e. c.in_default-form_parts.ensures _ e))

pub read_element-returns-in_err-exp : goal.read_element-returns-in_err-exp
read_element-returns-in_err-exp t c =
    let failed = err_from_is_err_and c.from_residual.result c.from_residual.ensures.1 in
    passed _ _ _ _ _ _ c.in_err-exp.ensures (λ n. element_none _ n) (failed.1 ∙ ap Err failed.2)

pub read_element-returns : goal.read_element-returns
read_element-returns t c = element_is _ _ c.in_ok-exp.ensures

pub read_elements-returns-in_err-exp : goal.read_elements-returns-in_err-exp
read_elements-returns-in_err-exp t c =
    let failed = err_from_is_err_and c.from_residual.result c.from_residual.ensures.1 in
    passed _ _ _ _ _ _ c.in_err-exp.ensures (λ n. elements_none _ n) (failed.1 ∙ ap Err failed.2)

pub read_elements-returns : goal.read_elements-returns
read_elements-returns t c = elements_is _ _ c.in_ok-exp.ensures

pub read_path-read_segments-requires : goal.read_path-read_segments-requires
read_path-read_segments-requires t c = (omega (arith, ap depth c.in-Some.ensures), tt)

pub read_path-returns-in_default : goal.read_path-returns-in_default
read_path-returns-in_default t c = (refl, row_no_list segment_tree segment_written path_written _ c.in_default.ensures)

pub read_path-returns-in_err-path : goal.read_path-returns-in_err-path
read_path-returns-in_err-path t c =
    let failed = err_from_is_err_and c.from_residual.result c.from_residual.ensures.1 in
    passed _ _ _ _ _ _ c.in_err-path.ensures (λ n. path_none _ _ c.in-Some.ensures n) (failed.1 ∙ ap Err failed.2)

pub read_path-returns-then-is_empty : goal.read_path-returns-then-is_empty
read_path-returns-then-is_empty t c = (refl, path_empty _ _ _ c.in-Some.ensures c.in_ok-path.ensures (c.is_empty.ensures.0 c.if-is_empty.true))

pub read_path-returns : goal.read_path-returns
read_path-returns t c = path_is _ _ _ c.in-Some.ensures c.in_ok-path.ensures (λ e. no_true c.if-is_empty.false (c.is_empty.ensures.1 e))

pub read_segment-read_index_step-requires : goal.read_segment-read_index_step-requires
read_segment-read_index_step-requires t c = (omega (arith, ap depth c.in-Some-form_parts.ensures), tt)

pub read_segment-read_slice_step-requires : goal.read_segment-read_slice_step-requires
read_segment-read_slice_step-requires t c = (omega (arith, ap depth c.in-Some-form_parts-2.ensures), tt)

pub read_segment-returns-in-Some : goal.read_segment-returns-in-Some
read_segment-returns-in-Some t c = read_as _ _ _ _ _ c.in-Some.ensures c.read_field_step.ensures

pub read_segment-returns-in-Some-form_parts : goal.read_segment-returns-in-Some-form_parts
read_segment-returns-in-Some-form_parts t c = read_as _ _ _ _ _ c.in-Some-form_parts.ensures c.read_index_step.ensures

pub read_segment-returns-in-Some-form_parts-2 : goal.read_segment-returns-in-Some-form_parts-2
read_segment-returns-in-Some-form_parts-2 t c = read_as _ _ _ _ _ c.in-Some-form_parts-2.ensures c.read_slice_step.ensures

pub read_segment-returns : goal.read_segment-returns
read_segment-returns t c = (refl, segment_none _ (λ f e. c.in_default.ensures _ e) (λ x p e. c.in_default-form_parts.ensures _ e) (λ x y p q e. c.in_default-form_parts-2.ensures _ e))

pub read_index_step-returns-in_err-index : goal.read_index_step-returns-in_err-index
read_index_step-returns-in_err-index t c =
    let failed = err_from_is_err_and c.from_residual.result c.from_residual.ensures.1 in
    passed _ _ _ _ _ _ c.in_err-index.ensures (λ n. index_none _ n) (failed.1 ∙ ap Err failed.2)

pub read_index_step-returns : goal.read_index_step-returns
read_index_step-returns t c = index_is _ _ c.in_ok-index.ensures

pub read_slice_step-returns-in_err-start : goal.read_slice_step-returns-in_err-start
read_slice_step-returns-in_err-start t c =
    let failed = err_from_is_err_and c.from_residual.result c.from_residual.ensures.1 in
    passed _ _ _ _ _ _ c.in_err-start.ensures (λ n. part_none _ n) (failed.1 ∙ ap Err failed.2)

pub read_slice_step-returns : goal.read_slice_step-returns
read_slice_step-returns t c = part_is _ _ _ _ _ c.in_ok-start.ensures c.into_inner.ensures c.into_inner-2.ensures

pub read_iteration-returns-then-is_word : goal.read_iteration-returns-then-is_word
read_iteration-returns-then-is_word t c = star_is _ (c.is_word.ensures.0 c.if-is_word.true)

pub read_iteration-returns-then-is_word-2 : goal.read_iteration-returns-then-is_word-2
read_iteration-returns-then-is_word-2 t c = plus_is _ (c.is_word-2.ensures.0 c.if-is_word-2.true)

pub read_iteration-returns-then-is_word-3 : goal.read_iteration-returns-then-is_word-3
read_iteration-returns-then-is_word-3 t c = quest_is _ (c.is_word-3.ensures.0 c.if-is_word-3.true)

pub read_iteration-read_count-requires : goal.read_iteration-read_count-requires
read_iteration-read_count-requires t c = (omega (arith, ap depth c.in-Some.ensures), tt)

pub read_iteration-returns-in_default : goal.read_iteration-returns-in_default
read_iteration-returns-in_default t c = (refl, iteration_none _ (λ e. no_true c.if-is_word.false (c.is_word.ensures.1 e)) (λ e. no_true c.if-is_word-2.false (c.is_word-2.ensures.1 e)) (λ e. no_true c.if-is_word-3.false (c.is_word-3.ensures.1 e)) (λ x p e. c.in_default.ensures _ e) (λ i x p e. c.in_default.ensures _ e))

pub read_iteration-returns : goal.read_iteration-returns
read_iteration-returns t c = read_as _ _ _ _ _ c.in-Some.ensures c.read_count.ensures

pub read_count-read_boxed-requires : goal.read_count-read_boxed-requires
read_count-read_boxed-requires t c = (omega (arith, ap row_depth c.in-Some.ensures), tt)

pub read_count-read_boxed-requires-2 : goal.read_count-read_boxed-requires-2
read_count-read_boxed-requires-2 t c = (omega (arith, ap row_depth c.in-Some-two.ensures), tt)

pub read_count-returns-in_err-read_boxed : goal.read_count-returns-in_err-read_boxed
read_count-returns-in_err-read_boxed t c =
    let failed = err_from_is_err_and c.from_residual.result c.from_residual.ensures.1 in
    passed _ _ _ _ _ _ c.in_err-read_boxed.ensures (λ n. count_none _ (λ x p e. n.never x p (first_of (sym c.in-Some.ensures ∙ e))) (λ i x p e. one_alone _ _ _ _ c.in-Some.ensures e)) (failed.1 ∙ ap Err failed.2)

pub read_count-returns-in-Some : goal.read_count-returns-in-Some
read_count-returns-in-Some t c = times_is _ _ c.in_ok-read_boxed.ensures.fits (one_part c.in-Some.ensures c.in_ok-read_boxed.ensures.is)

pub read_count-returns-in_default-two : goal.read_count-returns-in_default-two
read_count-returns-in_default-two t c = (refl, count_none _ (λ x p e. c.in_default.ensures _ e) (λ i x p e. c.in_default-two.ensures _ _ e))

pub read_count-returns-in_err-index : goal.read_count-returns-in_err-index
read_count-returns-in_err-index t c =
    let failed = err_from_is_err_and c.from_residual-in_err-index.result c.from_residual-in_err-index.ensures.1 in
    passed _ _ _ _ _ _ c.in_err-index.ensures (λ n. count_none _ (λ x p e. c.in_default.ensures _ e) (λ i x p e. n.never i refl (first_of (sym c.in-Some-two.ensures ∙ e)))) (failed.1 ∙ ap Err failed.2)

pub read_count-returns-in_err-count : goal.read_count-returns-in_err-count
read_count-returns-in_err-count t c =
    let failed = err_from_is_err_and c.from_residual-in_err-count.result c.from_residual-in_err-count.ensures.1 in
    passed _ _ _ _ _ _ c.in_err-count.ensures (λ n. count_none _ (λ x p e. c.in_default.ensures _ e) (λ i x p e. n.never x p (first_of (rest_of (sym c.in-Some-two.ensures ∙ e))))) (failed.1 ∙ ap Err failed.2)

pub read_count-returns : goal.read_count-returns
read_count-returns t c = below_is _ _ _ c.in_ok-count.ensures.fits (two_parts c.in-Some-two.ensures c.in_ok-index.ensures.is c.in_ok-count.ensures.is)
