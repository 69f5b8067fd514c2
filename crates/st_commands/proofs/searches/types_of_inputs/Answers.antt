use Rattle.std.proofs.Common.{◌∙◌, ap, sym, arith}
use Rattle.std.specs.Borrow.{Bor}
use Rattle.st_il.specs.declared.definition.RelationDef.{RelationDef}
use Rattle.std.proofs.lemmas.Result.{IfOk-weaker}
use Rattle.st_order.specs.Known.{all_now}
use Rattle.st_semantics.specs.Directions.{mask}
use Rattle.st_answers.proofs.MarkLemmas.{is_within, few_at}
use Rattle.st_commands.proofs.InputTypes.{not_declared, are_types}
use Rattle.st_commands.proofs.searches.types_of_inputs.Goals as goal

pub bounds-relations-number : goal.bounds-relations-number
bounds-relations-number c = is_within c.as_slice-relations.result.now c.args.relation.now c.in-Some.number c.in-Some.ensures

pub offset_bounds-relations-number : goal.offset_bounds-relations-number
offset_bounds-relations-number c =
    let small = few_at c.args.il.now c.as_slice-relations.result.now c.args.relation.now c.in-Some.number (ap all_now c.as_slice-relations.ensures ∙ c.in_ok-relations.ensures) c.in-Some.ensures
    c.requires.few in
    omega (arith, small)

pub unreachable-requires : goal.unreachable-requires
unreachable-requires c =
    not_declared c.args.il.now c.as_slice-relations.result.now c.args.relation.now (ap all_now c.as_slice-relations.ensures ∙ c.in_ok-relations.ensures) c.in-None.ensures c.requires.declared

pub returns : goal.returns
returns c =
    let il = c.args.il.now in
    let relation = c.args.relation.now in
    IfOk-weaker c.input_types.result _ _
    (λ types told. are_types il c.as_slice-relations.result.now relation c.in-Some.number c.index-relations-number.result c.mask_under-inputs.result.now c.as_slice.result.now types
    (ap all_now c.as_slice-relations.ensures ∙ c.in_ok-relations.ensures) c.in-Some.ensures c.index-relations-number.is (c.mask_under-inputs.ensures ∙ ap (λ z. mask z relation) c.in_ok-directions.ensures.1)
    (c.as_slice.ensures ∙ ap (λ (z : Bor RelationDef). z.now.holes) (sym c.index-relations-number.is)) told)
    c.input_types.ensures
