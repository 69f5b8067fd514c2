use Rattle.st_el.specs.declared.expression.Count.TheFolds.{the_lemmas}
use borrow.Author.Tests.{tests}
use Rattle.std.proofs.Common.{rules, ◌≡◌, ℕ, List, ◌++◌, map, ap, sym, ◌∙◌, subst, OnOk}
use Rattle.std.proofs.lemmas.Grind.{common_steps}
use Rattle.st_latex.specs.Parts.{joined, record_text}
use Rattle.st_latex.specs.Expressions.{latex_exp, latex_seg, latex_field}
use Rattle.st_latex.proofs.Nodes.{node-Fields, node-Extend, change_end, extended, extending}
use Rattle.st_latex.proofs.FieldTexts.{next_field}
use Rattle.st_latex.proofs.expression.+print_exp.Goals as goal

pub print_node-returns-in_ok-print_exp-in-Infix : goal.print_node-returns-in_ok-print_exp-in-Infix
print_node-returns-in_ok-print_exp-in-Infix t c = search (tests, rules, the_lemmas, common_steps)

pub print_node-returns-in-Fields : goal.print_node-returns-in-Fields
print_node-returns-in-Fields t c =
    let P : List ℕ → Type 0 = λ text. OnOk c.print_fields.result (c.print_fields.new.out.items ≡ c.args.out.now.items ++ text) in
    subst P (ap (λ fields. record_text (map latex_field fields)) c.as_slice-in-Fields.ensures ∙ sym (node-Fields c.args.node.now c.in-Fields.fields c.in-Fields.is)) c.print_fields.ensures

pub print_node-returns-in_ok-print_exp-in-At : goal.print_node-returns-in_ok-print_exp-in-At
print_node-returns-in_ok-print_exp-in-At t c = search (tests, rules, the_lemmas, common_steps)

pub print_node-returns-in_ok-print_behind-in-Slice : goal.print_node-returns-in_ok-print_behind-in-Slice
print_node-returns-in_ok-print_behind-in-Slice t c = search (tests, rules, the_lemmas, common_steps)

pub print_node-returns-in_ok-print_path-in-Update : goal.print_node-returns-in_ok-print_path-in-Update
print_node-returns-in_ok-print_path-in-Update t c = search (tests, rules, the_lemmas, common_steps)

pub print_node-returns-in_ok-print_path-in-Extend : goal.print_node-returns-in_ok-print_path-in-Extend
print_node-returns-in_ok-print_path-in-Extend t c =
    let P : List ℕ → Type 0 = λ items. OnOk c.print_enclosed-in-Extend.result (c.print_enclosed-in-Extend.new.out.items ≡ items) in
    let printed = node-Extend c.args.node.now c.in-Extend.e c.in-Extend.path c.in-Extend.part c.in-Extend.is
    ∙ ap (λ e. extended e c.in-Extend.path c.in-Extend.part) (sym c.get-in-Extend.ensures)
    ∙ ap (λ path. extended c.get-in-Extend.result.now path c.in-Extend.part) (sym c.as_slice-in-Extend.ensures)
    ∙ ap (λ part. extended c.get-in-Extend.result.now c.as_slice-in-Extend.result.now part) (sym c.get-in-Extend-2.ensures) in
    subst P (change_end _ _ _ (latex_exp c.get-in-Extend.result.now) (joined (map latex_seg c.as_slice-in-Extend.result.now)) extending (latex_exp c.get-in-Extend-2.result.now) _ c.in_ok-print_exp-in-Extend.ensures c.in_ok-print_path-in-Extend.ensures printed) c.print_enclosed-in-Extend.ensures

pub print_node-returns-in_ok-print_exp-in-Iter : goal.print_node-returns-in_ok-print_exp-in-Iter
print_node-returns-in_ok-print_exp-in-Iter t c = search (tests, rules, the_lemmas, common_steps)

pub print_listed_fields-loop-field-preserved : goal.print_listed_fields-loop-field-preserved
print_listed_fields-loop-field-preserved t c =
    next_field _ _ _ c.in-Some.others.now c.loop-field.field-index c.field-item.result c.loop-field-test.true c.field-item.is c.loop-field.invariant c.in_ok-print_next_field.ensures
