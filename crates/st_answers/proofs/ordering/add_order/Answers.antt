use Rattle.std.proofs.Common.{◌≡◌, sym, ◌∙◌, ◌++◌, subst}
use Rattle.std.specs.Prelude.{OnOk}
use Rattle.st_semantics.specs.OrderOf.{order_of}
use Rattle.st_answers.specs.OrderTexts.{numbers_text, order_text}
use Rattle.st_answers.proofs.OrderLines.{is_ordered}
use Rattle.st_answers.proofs.ordering.add_order.Goals as goal

pub returns-in-Some : goal.returns-in-Some
returns-in-Some c =
    let bytes = c.args.bytes.now.items in
    let ordered = is_ordered (order_of c.args.directions.now.il.now c.args.rule.now) c.in-Some.numbers (sym c.in-Some.is ∙ c.requires.order) in
    subst (λ order. OnOk c.add_numbers.result (c.add_numbers.new.bytes.items ≡ bytes ++ order_text order)) (sym ordered)
    (subst (λ ns. OnOk c.add_numbers.result (c.add_numbers.new.bytes.items ≡ bytes ++ numbers_text ns)) c.as_slice.ensures c.add_numbers.ensures)
