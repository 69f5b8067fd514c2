use Rattle.std.proofs.Common.{ap, Some}
use Rattle.st_type_table.specs.Meaning.{aliased}
use Rattle.st_type_table.proofs.NumberingLemmas.{ok-map, own-numbered}
use Rattle.st_type_table.proofs.numbering.body_number.Goals as goal

pub returns-in_ok-copy-in-Variant : goal.returns-in_ok-copy-in-Variant
returns-in_ok-copy-in-Variant c = ok-map c.add_form.result c.add_form.ensures
    (λ i a. own-numbered c.args.numbers.now.entries c.args.list.now.keys c.add_form.new.list.keys c.args.name.now c.in_ok-copy-in-Variant.field-0 (aliased (Some c.args.body.now)) i
    (ap (λ b. aliased (Some b)) c.in-Variant.is) c.in_ok-copy-in-Variant.ensures c.requires.ordered a)

pub returns-in_ok-copy-in-Fields : goal.returns-in_ok-copy-in-Fields
returns-in_ok-copy-in-Fields c = ok-map c.add_form-in-Fields.result c.add_form-in-Fields.ensures
    (λ i a. own-numbered c.args.numbers.now.entries c.args.list.now.keys c.add_form-in-Fields.new.list.keys c.args.name.now c.in_ok-copy-in-Fields.field-0 (aliased (Some c.args.body.now)) i
    (ap (λ b. aliased (Some b)) c.in-Fields.is) c.in_ok-copy-in-Fields.ensures c.requires.ordered a)
