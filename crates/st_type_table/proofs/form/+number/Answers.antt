use Rattle.std.proofs.Common.{◌≡◌, sym, ap, ◌∙◌, arith, ◌-◌, ◌<◌, suc, [], length, drop}
use Rattle.st_type_table.specs.inner.Forms.{pair_number, type_number, parts_number}
use Rattle.st_type_table.proofs.Measure.{item-within}
use Rattle.st_type_table.proofs.FormLemmas.{parts-next, parts-end}
use Rattle.st_type_table.proofs.form.+number.Goals as goal

pub parts_number-type_number-requires : goal.parts_number-type_number-requires
parts_number-type_number-requires t c =
    let f = item-within [] c.args.parts.now (c.loop-at.at - 1) c.index-parts-at.result (let h = c.loop-at.invariant.1 in let g = c.loop-at-test.true in omega (arith, h, g)) (sym c.index-parts-at.is) in
    (omega (arith, f, c.decreases), tt)

pub parts_number-loop-at-init : goal.parts_number-loop-at-init
parts_number-loop-at-init t c = (
  sym (c.form_number-rest.ensures ∙ parts-end c.args.forms.now.numbers.entries c.args.forms.now.list.keys c.args.parts.now (length c.args.parts.now) (omega arith)),
  omega arith,
)

pub parts_number-loop-at-preserved : goal.parts_number-loop-at-preserved
parts_number-loop-at-preserved t c =
    let some = c.loop-at-test.true in
    let within = c.loop-at.invariant.1 in
    let less : c.loop-at.at - 1 < length c.args.parts.now = omega (arith, some, within) in
    let whole : suc (c.loop-at.at - 1) ≡ c.loop-at.at = omega (arith, some) in (
      parts-next c.args.forms.now.numbers.entries c.args.forms.now.list.keys c.args.parts.now (c.loop-at.at - 1) c.index-parts-at.result less c.index-parts-at.is
          ∙ ap (λ k. pair_number c.args.forms.now.list.keys (type_number c.args.forms.now.numbers.entries c.args.forms.now.list.keys c.index-parts-at.result) (parts_number c.args.forms.now.numbers.entries c.args.forms.now.list.keys (drop k c.args.parts.now))) whole
          ∙ ap (pair_number c.args.forms.now.list.keys (type_number c.args.forms.now.numbers.entries c.args.forms.now.list.keys c.index-parts-at.result)) c.loop-at.invariant.0
          ∙ ap (λ o. pair_number c.args.forms.now.list.keys o c.loop-at.rest) (sym c.type_number.ensures)
          ∙ sym c.pair_number-rest.ensures,
      omega (arith, within),
    )
