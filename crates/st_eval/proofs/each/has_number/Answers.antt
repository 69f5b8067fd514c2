use Rattle.std.proofs.Common.{◌≡◌, pos, sym, ◌∙◌, ap, [], length, nat_eq, arith}
use Rattle.st_num.specs.Number.{IsNumber}
use Rattle.st_eval.proofs.Counts.{number_has, number_refused, no_kinds}
use Rattle.st_eval.proofs.each.has_number.Goals as goal

pub returns-then-not-is_empty : goal.returns-then-not-is_empty
returns-then-not-is_empty c =
    number_refused c.args.types.now c.args.number c.args.listed.now.dim c.args.listed.now.ty c.is_empty.result (c.is_empty.ensures ∙ ap (λ z. nat_eq (length z) 0) c.as_slice.ensures) c.if-not-is_empty.true

pub returns : goal.returns
returns c =
    let number : IsNumber (pos c.args.number) = omega arith in
    let plain : c.args.listed.now.dim ≡ [] = no_kinds c.args.listed.now.dim (sym (c.is_empty.ensures ∙ ap (λ z. nat_eq (length z) 0) c.as_slice.ensures) ∙ c.if-not-is_empty.false) in
    number_has c.args.types.now c.args.number c.args.listed.now.dim c.args.listed.now.ty c.in-Some.value c.has_type.result (sym c.in-Some.is ∙ c.number_value.ensures) number plain c.has_type.ensures
