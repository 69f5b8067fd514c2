use Rattle.std.proofs.Common.{rules, arith}
use Rattle.std.proofs.lemmas.List.{drop_all}
use Rattle.st_notation.specs.Fitted.{fillings}
use Rattle.st_elab_exp.proofs.Collecting.{empty}
use Rattle.st_elab_exp.proofs.Recording.{align_step, align_stops, align_unshaped, align_whole, align_unused}
use Rattle.st_elab_exp.proofs.record_row.aligned.Goals as goal

pub loop-field-preserved : goal.loop-field-preserved
loop-field-preserved c =
    align_step _ c.args.fields.now c.loop-field.field-index c.field-item.result c.loop-field.left.now _ _ c.loop-field.rest.now _ c.loop-field.filled _ _
    c.loop-field-test.true c.field-item.is c.in-Some.ensures.cases.0 c.in_ok-push.ensures.ok c.in-Some-place_field.ensures c.loop-field.invariant

pub returns-in_default : goal.returns-in_default
returns-in_default c =
    align_unshaped _ c.args.fields.now c.loop-field.field-index c.field-item.result c.loop-field.left.now c.loop-field.rest.now (fillings c.loop-field.filled)
    c.loop-field-test.true c.field-item.is (empty c.loop-field.left.now (omega (arith, c.in_default.ensures.cases))) c.loop-field.invariant

pub returns-in_default-place_field : goal.returns-in_default-place_field
returns-in_default-place_field c =
    align_stops _ c.args.fields.now c.loop-field.field-index c.field-item.result c.loop-field.left.now _ _ c.loop-field.rest.now (fillings c.loop-field.filled)
    c.loop-field-test.true c.field-item.is c.in-Some.ensures.cases.0 c.in_default-place_field.ensures c.loop-field.invariant

pub returns-then-is_empty : goal.returns-then-is_empty
returns-then-is_empty c =
    align_whole _ _ c.loop-field.left.now c.loop-field.rest.now (fillings c.loop-field.filled) (drop_all c.loop-field.field-index c.args.fields.now c.loop-field-test.false)
    (empty c.loop-field.rest.now (search (rules, c.is_empty.ensures))) c.loop-field.invariant

pub returns : goal.returns
returns c =
    align_unused _ _ c.loop-field.left.now c.loop-field.rest.now (fillings c.loop-field.filled) (drop_all c.loop-field.field-index c.args.fields.now c.loop-field-test.false)
    (search (rules, c.is_empty.ensures)) c.loop-field.invariant
