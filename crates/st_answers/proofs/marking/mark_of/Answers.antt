use Rattle.std.proofs.Common.{◌≡◌, ◌<◌, ◌∙◌, ap, length, arith}
use Rattle.std.proofs.lemmas.Result.{IfOk-weaker}
use Rattle.st_order.specs.Known.{all_now}
use Rattle.st_il.specs.Definitions.{relations}
use Rattle.st_answers.proofs.MarkLemmas.{undeclared, is_within, tagged_at, by_name}
use Rattle.st_answers.proofs.OrderLines.{within_few, within_marks, mark_at}
use Rattle.st_answers.proofs.marking.mark_of.Goals as goal

pub returns-in-None : goal.returns-in-None
returns-in-None c =
    undeclared c.args.il.now c.args.steps c.args.name.now c.as_slice-relations.result.now c.in_ok-text-in-None.text.items (ap all_now c.as_slice-relations.ensures ∙ c.in_ok-relations.ensures)
    c.in-None.ensures c.in_ok-text-in-None.ensures.items

pub bounds-relations-number : goal.bounds-relations-number
bounds-relations-number c = is_within c.as_slice-relations.result.now c.args.name.now c.in-Some.number c.in-Some.ensures

pub offset_bounds-relations-number : goal.offset_bounds-relations-number
offset_bounds-relations-number c =
    let refs = c.as_slice-relations.result.now in
    let small = within_few c.args.il.now refs c.args.modes.now c.requires.modes (ap all_now c.as_slice-relations.ensures ∙ c.in_ok-relations.ensures) c.in-Some.number
    (is_within refs c.args.name.now c.in-Some.number c.in-Some.ensures) c.requires.few in
    omega (arith, small)

pub bounds-marks-number : goal.bounds-marks-number
bounds-marks-number c =
    let refs = c.as_slice-relations.result.now in
    within_marks c.args.il.now refs c.args.modes.now c.requires.modes (ap all_now c.as_slice-relations.ensures ∙ c.in_ok-relations.ensures) c.in-Some.number
    (is_within refs c.args.name.now c.in-Some.number c.in-Some.ensures) c.as_slice-marks.result.now c.as_slice-marks.ensures

pub offset_bounds-marks-number : goal.offset_bounds-marks-number
offset_bounds-marks-number c =
    let refs = c.as_slice-relations.result.now in
    let small = within_few c.args.il.now refs c.args.modes.now c.requires.modes (ap all_now c.as_slice-relations.ensures ∙ c.in_ok-relations.ensures) c.in-Some.number
    (is_within refs c.args.name.now c.in-Some.number c.in-Some.ensures) c.requires.few in
    omega (arith, small)

pub declared_mark-requires : goal.declared_mark-requires
declared_mark-requires c = record {
  tagged =
      let refs = c.as_slice-relations.result.now in
      tagged_at c.args.il.now refs c.in-Some.number c.index-relations-number.result (ap all_now c.as_slice-relations.ensures ∙ c.in_ok-relations.ensures)
      (is_within refs c.args.name.now c.in-Some.number c.in-Some.ensures) c.index-relations-number.is c.requires.tagged;
}

pub returns : goal.returns
returns c =
    let il = c.args.il.now in
    let refs = c.as_slice-relations.result.now in
    let all : all_now refs ≡ relations il = ap all_now c.as_slice-relations.ensures ∙ c.in_ok-relations.ensures in
    let n = c.in-Some.number in
    let r = c.index-relations-number.result in
    let within : n < length refs = is_within refs c.args.name.now n c.in-Some.ensures in
    let has = mark_at il refs c.args.modes.now c.requires.modes all n within c.as_slice-marks.result.now r c.index-marks-number.result c.as_slice-marks.ensures c.index-relations-number.is
    c.index-marks-number.is in
    IfOk-weaker c.declared_mark.result _ _
    (λ text says. by_name il c.args.steps refs c.args.name.now n r c.index-marks-number.result _ all c.in-Some.ensures c.index-relations-number.is has (says il c.requires.types)) c.declared_mark.ensures
