use Rattle.std.proofs.Common.{◌≡◌, List, ℕ, ◌++◌, map, codes, ap, sym, ◌∙◌, subst, OnOk}
use Rattle.st_el.specs.SourceText.{printed_field, fields_text}
use Rattle.st_el.proofs.FieldTexts.{fields-front, fields-end}
use Rattle.st_el.proofs.print.+print.Goals as goal

pub print_front-returns-in-Fields : goal.print_front-returns-in-Fields
print_front-returns-in-Fields t c =
    let P : List ℕ → Type 0 = λ text. OnOk c.print_fields.result (c.print_fields.new.out.items ≡ c.args.out.now.items ++ text) in
    subst P (ap (λ fields. codes "{" ++ fields_text (map printed_field fields) ++ codes "}") c.as_slice-in-Fields.ensures ∙ sym (fields-front c.args.around c.args.node.now c.in-Fields.fields c.in-Fields.is)) c.print_fields.ensures

pub print_fields-returns : goal.print_fields-returns
print_fields-returns t c =
    fields-end _ _ _ _ _ _ _ c.in-Some.first.now _ _ c.in-Some.ensures.cases.0 c.in_ok-print_label.ensures c.whole.ensures c.in_ok-print_at.ensures c.loop-field.invariant c.loop-field-test.false c.in_ok-print_word.ensures
