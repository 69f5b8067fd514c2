use Rattle.std.proofs.Common.{◌+◌, refl, sym, ◌∙◌, ap, subst, ◌∷◌, length, drop, take, get_or, Some, arith, rules}
use Rattle.std.proofs.lemmas.List.{take_rest, drop_more, length-map}
use Rattle.st_il.specs.declared.expression.IlExp.{out-IlExp}
use Rattle.st_il.specs.declared.expression.IlExp.TheVariants as exp
use Rattle.st_il.specs.declared.expression.Iteration.TheVariants as iteration
use Rattle.st_il.specs.declared.expression.ListItem.TheVariants as item
use Rattle.st_il.specs.declared.value.Value.{Value}
use Rattle.st_il.specs.declared.value.Value.TheVariants as value
use Rattle.st_il.specs.Names.{Name}
use Rattle.st_semantics.specs.Iterations.{count_of, count_at}
use Rattle.st_match.specs.inner.Fitting.{field_values}
use Rattle.st_match.specs.inner.Covering.{AreCandidates}
use Rattle.st_match.specs.inner.Rows.{product}
use Rattle.st_match.proofs.AreCandidates.{names-differ, candidates-Var, candidates-Up, candidates-Case, candidates-Case-other, candidates-Case-none, candidates-Fields, candidates-Fields-none, candidates-Tuple, candidates-Tuple-none, candidates-Present, candidates-Present-absent, candidates-Present-none, candidates-List, candidates-List-none, candidates-Cat, candidates-Cat-none, all_unequal, all_step, all_done, cuts_step, cuts_end, cut_of, count_by}
use Rattle.st_match.proofs.AllColumnsCover.{candidates-column, candidates-elements, iteration_candidates}
use Rattle.st_match.proofs.AreRows.{AreRowsOf-option, option_rows-none, AreRows-none, RowsLead-found, RowsLead-none}
use Rattle.st_match.proofs.Positions.{PartLeads-step, ElementLeads-step, ElementLeads-next, follow-nothing, follow-position, CutLeads-next, CutsLead-begin, CutsLead-step, CutsLead-end, PartLeads-cuts, items_step}
use Rattle.st_match.proofs.covering.+candidates.Goals as goal

pub after_element-loop-position-preserved : goal.after_element-loop-position-preserved
after_element-loop-position-preserved t c =
    ElementLeads-step c.args.pattern.now c.args.values.now c.args.positions.now c.loop-position.after c.in_ok-more.more c.in_ok-after.after c.loop-position.position-index c.position-item.result c.loop-position-test.true
    c.position-item.is c.in_ok-after.ensures c.loop-position.invariant c.in_ok-more.ensures

pub after_list-loop-position-preserved : goal.after_list-loop-position-preserved
after_list-loop-position-preserved t c =
    PartLeads-step (item.All c.args.pattern.now) c.args.rest.now c.args.values.now c.args.positions.now c.loop-position.after c.in_ok-more.more c.in_ok-after.after c.loop-position.position-index c.position-item.result c.loop-position-test.true
    c.position-item.is c.in_ok-after.ensures c.loop-position.invariant c.in_ok-more.ensures

pub all_candidates-loop-i-preserved : goal.all_candidates-loop-i-preserved
all_candidates-loop-i-preserved t c =
    all_step c.args.parts.now c.args.parts.now c.args.values.now (drop c.loop-i.i c.args.values.now) (drop (c.loop-i.i + 1) c.args.values.now) c.args.envs.now c.loop-i.found c.as_slice.result.now c.in_ok-found-2.found
    c.loop-i.i c.index-parts-i.result c.index-values-i.result c.loop-i-test.true c.index-parts-i.is
    (drop_more c.args.values.now c.loop-i.i c.index-values-i.result (omega arith) ∙ ap (λ z. z ∷ drop (c.loop-i.i + 1) c.args.values.now) (sym c.index-values-i.is))
    c.as_slice.ensures c.in_ok-found-2.ensures c.loop-i.invariant

pub all_candidates-returns : goal.all_candidates-returns
all_candidates-returns t c = all_done c.args.parts.now c.args.parts.now c.args.values.now (drop c.loop-i.i c.args.values.now) c.args.envs.now c.loop-i.found c.loop-i.i c.loop-i-test.false c.loop-i.invariant

pub all_candidates-returns-then-parts-values : goal.all_candidates-returns-then-parts-values
all_candidates-returns-then-parts-values t c = all_unequal c.args.parts.now c.args.values.now c.args.envs.now c.new.result (length c.args.values.now) refl c.if-parts-values.true

pub candidates-returns-in_ok-found-in-Iter : goal.candidates-returns-in_ok-found-in-Iter
candidates-returns-in_ok-found-in-Iter t c =
    iteration_candidates c.args.pattern.now c.in-Iter.how c.in-Iter.names c.as_slice-in-Iter.result.now c.in-Iter.body c.get-in-Iter.result.now c.args.value.now c.element_count.result
    c.args.envs.now c.in_ok-counted-in-Iter.counted c.as_slice-counted.result.now c.in_ok-found-in-Iter.found
    c.in-Iter.is c.as_slice-in-Iter.ensures c.get-in-Iter.ensures c.element_count.ensures c.as_slice-counted.ensures
    c.in_ok-counted-in-Iter.ensures c.in_ok-found-in-Iter.ensures

pub candidates-returns-in_ok-found-in-Up : goal.candidates-returns-in_ok-found-in-Up
candidates-returns-in_ok-found-in-Up t c =
    candidates-Up c.args.pattern.now c.in-Up.field-0 c.in-Up.part c.get.result.now c.args.value.now c.args.envs.now c.in_ok-found-in-Up.found
    (ap out-IlExp c.in-Up.is ∙ exp.outs-Up c.in-Up.field-0 c.in-Up.part) c.get.ensures c.in_ok-found-in-Up.ensures

pub candidates-returns-in_ok-found-in-Var : goal.candidates-returns-in_ok-found-in-Var
candidates-returns-in_ok-found-in-Var t c =
    candidates-Var c.args.pattern.now c.in-Var.name c.args.value.now c.args.envs.now c.in_ok-found-in-Var.found (ap out-IlExp c.in-Var.is ∙ exp.outs-Var c.in-Var.name) c.in_ok-found-in-Var.ensures

pub case_candidates-returns-in_default : goal.case_candidates-returns-in_default
case_candidates-returns-in_default t c = record {
  are = λ type. candidates-Case-none (exp.Case type c.args.tag.now c.args.parts.now) type c.args.tag.now c.args.parts.now c.args.value.now c.args.envs.now c.new-in_default.result
      (exp.outs-Case type c.args.tag.now c.args.parts.now) c.in_default.not-Case c.new-in_default.ensures;
}

pub case_candidates-returns-in_ok-found-in-Case : goal.case_candidates-returns-in_ok-found-in-Case
case_candidates-returns-in_ok-found-in-Case t c = record {
  are = λ type. candidates-Case (exp.Case type c.args.tag.now c.args.parts.now) type c.args.tag.now c.in-Case.other c.args.parts.now c.args.value.now c.in-Case.values c.as_slice.result.now c.args.envs.now c.in_ok-found-in-Case.found
      (exp.outs-Case type c.args.tag.now c.args.parts.now) c.in-Case.is c.as_slice.ensures c.in_ok-found-in-Case.ensures;
}

pub case_candidates-returns-then-ne : goal.case_candidates-returns-then-ne
case_candidates-returns-then-ne t c = record {
  are = λ type. candidates-Case-other (exp.Case type c.args.tag.now c.args.parts.now) type c.args.tag.now c.in-Case.other c.args.parts.now c.args.value.now c.in-Case.values c.args.envs.now c.new.result
      (exp.outs-Case type c.args.tag.now c.args.parts.now) c.in-Case.is (names-differ c.args.tag.now c.in-Case.other c.if-ne.ensures) c.new.ensures;
}

pub cat_candidates-returns-in_default : goal.cat_candidates-returns-in_default
cat_candidates-returns-in_default t c left right is =
    candidates-Cat-none c.args.pattern.now left right c.args.value.now c.args.envs.now c.new.result (ap out-IlExp is ∙ exp.outs-Cat left right) c.in_default.not-List c.new.ensures

pub cat_candidates-returns-in_ok-found-in-List : goal.cat_candidates-returns-in_ok-found-in-List
cat_candidates-returns-in_ok-found-in-List t c left right is =
    candidates-Cat c.args.pattern.now left right c.args.value.now c.in-List.values c.as_slice.result.now c.args.envs.now c.in_ok-found-in-List.found
    (ap out-IlExp is ∙ exp.outs-Cat left right) c.in-List.is c.as_slice.ensures (c.in_ok-found-in-List.ensures left right is).are

pub count_candidates-returns-in_ok-found-in-Below : goal.count_candidates-returns-in_ok-found-in-Below
count_candidates-returns-in_ok-found-in-Below t c =
    count_by c.args.how.now c.args.count c.in-Below.pattern c.get-in-Below.result.now c.number-in-Below.result c.args.envs.now c.in_ok-found-in-Below.found
    (ap count_of c.in-Below.is ∙ ap count_at (iteration.outs-Below c.in-Below.field-0 c.in-Below.pattern)) c.get-in-Below.ensures c.number-in-Below.ensures c.in_ok-found-in-Below.ensures

pub count_candidates-returns-in_ok-found-in-Times : goal.count_candidates-returns-in_ok-found-in-Times
count_candidates-returns-in_ok-found-in-Times t c =
    count_by c.args.how.now c.args.count c.in-Times.pattern c.get.result.now c.number.result c.args.envs.now c.in_ok-found-in-Times.found
    (ap count_of c.in-Times.is ∙ ap count_at (iteration.outs-Times c.in-Times.pattern)) c.get.ensures c.number.ensures c.in_ok-found-in-Times.ensures

pub cut_at-returns-in_default : goal.cut_at-returns-in_default
cut_at-returns-in_default t c left right is = absurd (c.in_default.not-Cat left right is)

pub cut_at-returns-in_ok-found-in-Cat : goal.cut_at-returns-in_ok-found-in-Cat
cut_at-returns-in_ok-found-in-Cat t c left right is =
    cut_of c.args.pattern.now c.in-Cat.left c.in-Cat.right c.get.result.now c.get-in-Cat.result.now left right c.args.values.now c.args.count (drop c.args.count c.args.values.now) c.args.envs.now
    c.in_ok-first-in-Cat.first c.as_slice-first.result.now c.in_ok-found-in-Cat.found c.in-Cat.is is c.get.ensures c.get-in-Cat.ensures refl c.as_slice-first.ensures c.in_ok-first-in-Cat.ensures
    (subst (λ z. AreCandidates c.get-in-Cat.result.now (value.List z) c.as_slice-first.result.now c.in_ok-found-in-Cat.found) (take_rest c.args.values.now c.args.count) c.in_ok-found-in-Cat.ensures)

pub cut_candidates-loop-count-preserved : goal.cut_candidates-loop-count-preserved
cut_candidates-loop-count-preserved t c left right is =
    cuts_step left right c.args.values.now c.args.envs.now c.loop-count.found c.in_ok-more.more c.in_ok-found.found c.loop-count.count c.in_ok-found.ensures (c.loop-count.invariant left right is) (c.in_ok-more.ensures left right is)

pub cut_candidates-returns : goal.cut_candidates-returns
cut_candidates-returns t c left right is =
    cuts_end left right c.args.values.now c.args.envs.now c.loop-count.found c.loop-count.count (omega arith) (c.loop-count.invariant left right is)

pub element_rows-loop-value-init : goal.element_rows-loop-value-init
element_rows-loop-value-init t c = AreRows-none c.args.body.now (take 0 c.args.values.now) c.in_ok-rows.rows refl c.in_ok-rows.ensures

pub field_candidates-loop-i-preserved : goal.field_candidates-loop-i-preserved
field_candidates-loop-i-preserved t c =
    all_step c.args.parts.now c.args.parts.now (field_values c.args.fields.now) (field_values (drop c.loop-i.i c.args.fields.now)) (field_values (drop (c.loop-i.i + 1) c.args.fields.now)) c.args.envs.now c.loop-i.found
    c.as_slice.result.now c.in_ok-found-2.found c.loop-i.i c.index-parts-i.result (get_or c.args.fields.now c.loop-i.i c.index-fields-i.result).1 c.loop-i-test.true c.index-parts-i.is
    (ap field_values (drop_more c.args.fields.now c.loop-i.i c.index-fields-i.result (omega arith)))
    c.as_slice.ensures c.in_ok-found-2.ensures c.loop-i.invariant

pub field_candidates-returns : goal.field_candidates-returns
field_candidates-returns t c =
    all_done c.args.parts.now c.args.parts.now (field_values c.args.fields.now) (field_values (drop c.loop-i.i c.args.fields.now)) c.args.envs.now c.loop-i.found c.loop-i.i c.loop-i-test.false c.loop-i.invariant

pub field_candidates-returns-then-parts-fields : goal.field_candidates-returns-then-parts-fields
field_candidates-returns-then-parts-fields t c =
    all_unequal c.args.parts.now (field_values c.args.fields.now) c.args.envs.now c.new.result (length c.args.fields.now) (sym (length-map c.args.fields.now (λ (field : Name × Value). field.1))) c.if-parts-fields.true

pub item_candidates-loop-i-preserved : goal.item_candidates-loop-i-preserved
item_candidates-loop-i-preserved t c =
    items_step c.args.items.now c.args.values.now c.args.envs.now c.loop-i.i c.index-items-i.result _ c.loop-i.positions c.as_slice.result.now c.in_ok-positions-2.positions c.loop-i-test.true
    c.index-items-i.is (take_rest c.args.items.now (c.loop-i.i + 1)) c.as_slice.ensures c.in_ok-positions-2.ensures c.loop-i.invariant

pub later_positions-returns : goal.later_positions-returns
later_positions-returns t c =
    PartLeads-cuts c.args.pattern.now c.args.values.now c.args.rest.now c.args.position.now c.in_ok-after.after c.left_of-left.result.now c.ends_before-ends.result.first c.ends_before-ends.result.end
    c.left_of-left.ensures c.ends_before-ends.ensures c.in_ok-after.ensures

pub list_candidates-returns-in_default : goal.list_candidates-returns-in_default
list_candidates-returns-in_default t c = record {
  are = λ type. candidates-List-none (exp.List type c.args.items.now) type c.args.items.now c.args.value.now c.args.envs.now c.new.result
      (exp.outs-List type c.args.items.now) c.in_default.not-List c.new.ensures;
}

pub list_candidates-returns-in_ok-found-in-List : goal.list_candidates-returns-in_ok-found-in-List
list_candidates-returns-in_ok-found-in-List t c = record {
  are = λ type. candidates-List (exp.List type c.args.items.now) type c.args.items.now c.args.value.now c.in-List.values c.as_slice.result.now c.args.envs.now c.in_ok-found-in-List.found
      (exp.outs-List type c.args.items.now) c.in-List.is c.as_slice.ensures c.in_ok-found-in-List.ensures;
}

pub longer_rows-returns : goal.longer_rows-returns
longer_rows-returns t c =
    RowsLead-found c.args.body.now c.args.value.now c.as_slice.result.now c.in_ok-envs.envs c.args.rows c.in_ok-longer.longer (c.as_slice.ensures ∙ c.in_ok-start.ensures) c.in_ok-envs.ensures
    (c.in_ok-longer.ensures ∙ ap (product c.args.rows) c.as_slice-2.ensures)

pub longer_rows-returns-then-is_empty : goal.longer_rows-returns-then-is_empty
longer_rows-returns-then-is_empty t c = RowsLead-none c.args.body.now c.args.value.now c.args.rows c.args.rows (c.if-is_empty.ensures.0 (search rules))

pub next_position-returns : goal.next_position-returns
next_position-returns t c =
    ElementLeads-next c.args.pattern.now c.args.values.now c.args.position.now c.in_ok-after.after c.index-values-taken.result c.as_slice.result.now c.in_ok-envs.envs (omega arith) c.index-values-taken.is c.as_slice.ensures
    c.in_ok-envs.ensures (follow-position c.args.values.now c.in_ok-after.after (c.args.position.now.taken + 1) c.in_ok-envs.envs c.in_ok-after.ensures)

pub next_position-returns-then-is_empty : goal.next_position-returns-then-is_empty
next_position-returns-then-is_empty t c =
    ElementLeads-next c.args.pattern.now c.args.values.now c.args.position.now c.new-then-is_empty.result c.index-values-taken.result c.as_slice.result.now c.in_ok-envs.envs (omega arith) c.index-values-taken.is c.as_slice.ensures
    c.in_ok-envs.ensures (follow-nothing c.args.values.now c.new-then-is_empty.result (c.args.position.now.taken + 1) c.in_ok-envs.envs (c.if-is_empty.ensures.0 (search rules)))

pub option_candidates-returns-in-None : goal.option_candidates-returns-in-None
option_candidates-returns-in-None t c =
    candidates-Present-absent (exp.Present c.args.part.now) c.args.part.now c.args.value.now c.args.envs.now c.new.result
    (exp.outs-Present c.args.part.now) (c.in-Opt.is ∙ ap value.Opt c.in-None.is) c.new.ensures

pub option_candidates-returns-in_default : goal.option_candidates-returns-in_default
option_candidates-returns-in_default t c =
    candidates-Present-none (exp.Present c.args.part.now) c.args.part.now c.args.value.now c.args.envs.now c.new-in_default.result
    (exp.outs-Present c.args.part.now) (λ w. c.in_default.not-Opt (Some w)) c.new-in_default.ensures

pub option_candidates-returns-in_ok-found-in-Some : goal.option_candidates-returns-in_ok-found-in-Some
option_candidates-returns-in_ok-found-in-Some t c =
    candidates-Present (exp.Present c.args.part.now) c.args.part.now c.args.value.now c.in-Some.inner c.get.result.now c.args.envs.now c.in_ok-found-in-Some.found
    (exp.outs-Present c.args.part.now) (c.in-Opt.is ∙ ap value.Opt c.in-Some.is) c.get.ensures c.in_ok-found-in-Some.ensures

pub option_rows-returns-in_ok-rows-in-None : goal.option_rows-returns-in_ok-rows-in-None
option_rows-returns-in_ok-rows-in-None t c = option_rows-none c.args.body.now c.args.option.now c.in_ok-rows-in-None.rows c.in-None.is c.in_ok-rows-in-None.ensures

pub position_behind-returns : goal.position_behind-returns
position_behind-returns t c =
    CutLeads-next c.args.pattern.now c.args.values.now c.args.count c.args.position.now c.in_ok-after.after (take c.args.count c.left_of-left.result.now) c.as_slice.result.now c.in_ok-envs.envs
    (ap (take c.args.count) c.left_of-left.ensures) c.as_slice.ensures c.in_ok-envs.ensures
    (follow-position c.args.values.now c.in_ok-after.after (c.args.position.now.taken + c.args.count) c.in_ok-envs.envs c.in_ok-after.ensures)

pub position_behind-returns-then-is_empty : goal.position_behind-returns-then-is_empty
position_behind-returns-then-is_empty t c =
    CutLeads-next c.args.pattern.now c.args.values.now c.args.count c.args.position.now c.new.result (take c.args.count c.left_of-left.result.now) c.as_slice.result.now c.in_ok-envs.envs
    (ap (take c.args.count) c.left_of-left.ensures) c.as_slice.ensures c.in_ok-envs.ensures
    (follow-nothing c.args.values.now c.new.result (c.args.position.now.taken + c.args.count) c.in_ok-envs.envs (c.if-is_empty.ensures.0 (search rules)))

pub positions_between-loop-count-init : goal.positions_between-loop-count-init
positions_between-loop-count-init t c = CutsLead-begin c.args.pattern.now c.args.values.now c.args.ends.first c.args.position.now c.new-after.result

pub positions_between-loop-count-preserved : goal.positions_between-loop-count-preserved
positions_between-loop-count-preserved t c =
    CutsLead-step c.args.pattern.now c.args.values.now c.args.position.now c.loop-count.after c.in_ok-more.more c.in_ok-after.after c.args.ends.first c.loop-count.count c.in_ok-after.ensures
    c.loop-count.invariant c.in_ok-more.ensures

pub positions_between-returns : goal.positions_between-returns
positions_between-returns t c =
    CutsLead-end c.args.pattern.now c.args.values.now c.args.position.now c.loop-count.after c.args.ends.first c.loop-count.count c.args.ends.end c.loop-count-test.false c.loop-count.invariant

pub record_candidates-returns-in_default : goal.record_candidates-returns-in_default
record_candidates-returns-in_default t c = record {
  are = λ type. candidates-Fields-none (exp.Fields type c.args.parts.now) type c.args.parts.now c.args.value.now c.args.envs.now c.new.result
      (exp.outs-Fields type c.args.parts.now) c.in_default.not-Fields c.new.ensures;
}

pub record_candidates-returns-in_ok-found-in-Fields : goal.record_candidates-returns-in_ok-found-in-Fields
record_candidates-returns-in_ok-found-in-Fields t c = record {
  are = λ type. candidates-Fields (exp.Fields type c.args.parts.now) type c.args.parts.now c.args.value.now c.in-Fields.fields c.as_slice.result.now c.args.envs.now c.in_ok-found-in-Fields.found
      (exp.outs-Fields type c.args.parts.now) c.in-Fields.is c.as_slice.ensures c.in_ok-found-in-Fields.ensures;
}

pub rows_of-returns-in_ok-rows-in-Opt-value : goal.rows_of-returns-in_ok-rows-in-Opt-value
rows_of-returns-in_ok-rows-in-Opt-value t c =
    AreRowsOf-option c.args.kind c.args.body.now c.args.value.now c.in-Opt-value.option c.in_ok-rows-in-Opt-value.rows c.in-Opt.is c.in-Opt-value.is c.in_ok-rows-in-Opt-value.ensures

pub tuple_candidates-returns-in_default : goal.tuple_candidates-returns-in_default
tuple_candidates-returns-in_default t c =
    candidates-Tuple-none (exp.Tuple c.args.parts.now) c.args.parts.now c.args.value.now c.args.envs.now c.new.result (exp.outs-Tuple c.args.parts.now) c.in_default.not-Tuple c.new.ensures

pub tuple_candidates-returns-in_ok-found-in-Tuple : goal.tuple_candidates-returns-in_ok-found-in-Tuple
tuple_candidates-returns-in_ok-found-in-Tuple t c =
    candidates-Tuple (exp.Tuple c.args.parts.now) c.args.parts.now c.args.value.now c.in-Tuple.values c.as_slice.result.now c.args.envs.now c.in_ok-found-in-Tuple.found
    (exp.outs-Tuple c.args.parts.now) c.in-Tuple.is c.as_slice.ensures c.in_ok-found-in-Tuple.ensures

pub iterated_candidates-returns-in_ok-found-in-Some : goal.iterated_candidates-returns-in_ok-found-in-Some
iterated_candidates-returns-in_ok-found-in-Some t c =
    candidates-column c.args.how.now c.args.names.now c.args.body.now c.args.value.now c.in-Some.name.now c.args.counted.now c.in_ok-found-in-Some.found
    c.in-Some.ensures c.in_ok-found-in-Some.ensures

pub iterated_candidates-returns-in_ok-found-in-None : goal.iterated_candidates-returns-in_ok-found-in-None
iterated_candidates-returns-in_ok-found-in-None t c =
    candidates-elements c.args.how.now c.args.names.now c.args.body.now c.args.value.now c.kind_of.result c.in_ok-rows-in-None.rows c.as_slice.result.now c.args.counted.now c.in_ok-found-in-None.found
    c.kind_of.ensures c.as_slice.ensures c.in_ok-rows-in-None.ensures c.in_ok-found-in-None.ensures
