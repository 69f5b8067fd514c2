use Rattle.std.proofs.Common.{◌≡◌, sym, ap, ◌∙◌, subst, arith, ◌-◌, ◌<◌, suc, [], length, drop}
use Rattle.st_il.specs.declared.ty.Ty.{out-Ty}
use Rattle.st_il.specs.declared.ty.Ty.TheOpen.{Ty-F}
use Rattle.st_il.specs.declared.ty.Ty.TheVariants as ty
use Rattle.st_type_table.specs.declared.form.Form.TheVariants as form
use Rattle.st_type_table.specs.inner.Forms.{parts_number}
use Rattle.st_type_table.specs.inner.Numbering.{Numbered}
use Rattle.st_type_table.proofs.Measure.{item-within}
use Rattle.st_type_table.proofs.FormLemmas.{number-level}
use Rattle.st_type_table.proofs.NamesNumberedLemmas.{among-part}
use Rattle.st_type_table.proofs.NumberingLemmas.{ok-map, typed-plain, typed-list, typed-option, typed-end, typed-pair}
use Rattle.st_type_table.proofs.numbering.+add.Goals as goal

pub add_type-returns-in-Bool : goal.add_type-returns-in-Bool
add_type-returns-in-Bool t c = ok-map c.add_form.result c.add_form.ensures
    (λ i a. typed-plain c.args.numbers.now.entries c.args.list.now.keys c.add_form.new.list.keys c.args.ty.now form.Bool i c.requires.ordered tt
    (λ forms. number-level c.args.numbers.now.entries forms c.args.ty.now Ty-F.Bool (ap out-Ty c.in-Bool.is ∙ ty.outs-Bool)) a)

pub add_type-returns-in-Nat : goal.add_type-returns-in-Nat
add_type-returns-in-Nat t c = ok-map c.add_form-in-Nat.result c.add_form-in-Nat.ensures
    (λ i a. typed-plain c.args.numbers.now.entries c.args.list.now.keys c.add_form-in-Nat.new.list.keys c.args.ty.now form.Nat i c.requires.ordered tt
    (λ forms. number-level c.args.numbers.now.entries forms c.args.ty.now Ty-F.Nat (ap out-Ty c.in-Nat.is ∙ ty.outs-Nat)) a)

pub add_type-returns-in-Int : goal.add_type-returns-in-Int
add_type-returns-in-Int t c = ok-map c.add_form-in-Int.result c.add_form-in-Int.ensures
    (λ i a. typed-plain c.args.numbers.now.entries c.args.list.now.keys c.add_form-in-Int.new.list.keys c.args.ty.now form.Int i c.requires.ordered tt
    (λ forms. number-level c.args.numbers.now.entries forms c.args.ty.now Ty-F.Int (ap out-Ty c.in-Int.is ∙ ty.outs-Int)) a)

pub add_type-returns-in-Text : goal.add_type-returns-in-Text
add_type-returns-in-Text t c = ok-map c.add_form-in-Text.result c.add_form-in-Text.ensures
    (λ i a. typed-plain c.args.numbers.now.entries c.args.list.now.keys c.add_form-in-Text.new.list.keys c.args.ty.now form.Text i c.requires.ordered tt
    (λ forms. number-level c.args.numbers.now.entries forms c.args.ty.now Ty-F.Text (ap out-Ty c.in-Text.is ∙ ty.outs-Text)) a)

pub add_type-returns-in_ok-part-in-List : goal.add_type-returns-in_ok-part-in-List
add_type-returns-in_ok-part-in-List t c = ok-map c.add_form-in-List.result c.add_form-in-List.ensures
    (λ i a. typed-list c.args.numbers.now.entries c.args.list.now.keys c.add_type.new.list.keys c.add_form-in-List.new.list.keys c.args.ty.now c.get.result.now c.in_ok-part-in-List.part i
    (ap out-Ty c.in-List.is ∙ ty.outs-List c.in-List.one ∙ ap Ty-F.List (sym c.get.ensures)) c.in_ok-part-in-List.ensures a)

pub add_type-returns-in_ok-part-in-Opt : goal.add_type-returns-in_ok-part-in-Opt
add_type-returns-in_ok-part-in-Opt t c = ok-map c.add_form-in-Opt.result c.add_form-in-Opt.ensures
    (λ i a. typed-option c.args.numbers.now.entries c.args.list.now.keys c.add_type-in-Opt.new.list.keys c.add_form-in-Opt.new.list.keys c.args.ty.now c.get-in-Opt.result.now c.in_ok-part-in-Opt.part i
    (ap out-Ty c.in-Opt.is ∙ ty.outs-Opt c.in-Opt.one ∙ ap Ty-F.Opt (sym c.get-in-Opt.ensures)) c.in_ok-part-in-Opt.ensures a)

pub add_parts-loop-at-init : goal.add_parts-loop-at-init
add_parts-loop-at-init t c = (
  typed-end c.args.numbers.now.entries c.args.list.now.keys c.add_form.new.list.keys c.args.parts.now (length c.args.parts.now) c.in_ok-rest.rest (omega arith) c.requires.ordered c.in_ok-rest.ensures,
  omega arith,
)

pub add_parts-add_type-requires : goal.add_parts-add_type-requires
add_parts-add_type-requires t c =
    let h = c.loop-at.invariant.1 in
    let g = c.loop-at-test.true in
    let less : c.loop-at.at - 1 < length c.args.parts.now = omega (arith, h, g) in
    let f = item-within [] c.args.parts.now (c.loop-at.at - 1) c.index-parts-at.result less (sym c.index-parts-at.is) in (
      omega (arith, f, c.decreases),
      (
        c.loop-at.invariant.0.ordered,
        λ name a. c.requires.ready name (among-part c.args.parts.now (c.loop-at.at - 1) c.index-parts-at.result less (sym c.index-parts-at.is) name a),
      ),
    )

pub add_parts-loop-at-preserved : goal.add_parts-loop-at-preserved
add_parts-loop-at-preserved t c =
    let some = c.loop-at-test.true in
    let within = c.loop-at.invariant.1 in
    let less : c.loop-at.at - 1 < length c.args.parts.now = omega (arith, some, within) in
    let whole : suc (c.loop-at.at - 1) ≡ c.loop-at.at = omega (arith, some) in (
      typed-pair c.args.numbers.now.entries c.args.list.now.keys c.loop-at.list.keys c.add_type.new.list.keys c.add_form-in-loop-at.new.list.keys
          c.args.parts.now (c.loop-at.at - 1) c.index-parts-at.result c.loop-at.rest c.in_ok-first.first c.in_ok-rest-2.rest less c.index-parts-at.is
          (subst (λ k. Numbered c.args.numbers.now.entries c.args.list.now.keys c.loop-at.list.keys (λ forms. parts_number c.args.numbers.now.entries forms (drop k c.args.parts.now)) c.loop-at.rest) (sym whole) c.loop-at.invariant.0)
          c.in_ok-first.ensures c.in_ok-rest-2.ensures,
      omega (arith, within),
    )
