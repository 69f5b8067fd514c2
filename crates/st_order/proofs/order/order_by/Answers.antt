use Rattle.std.proofs.Common.{sym, subst, true, false, ◌<◌, ◌^◌, length}
use Rattle.st_semantics.specs.Variables.{vars_of}
use Rattle.st_order.specs.inner.Index.{names_in}
use Rattle.st_order.specs.inner.Parts.{exps_in}
use Rattle.st_order.specs.inner.Endings.{AreInputs, Ends, told_of}
use Rattle.st_order.proofs.SameNames.{names_made}
use Rattle.st_order.proofs.EndingParts.{holes_are, refused_inputs, refused_end, ordered, selected_of}
use Rattle.st_order.proofs.order.order_by.Goals as goal

pub fault_of_inputs-requires : goal.fault_of_inputs-requires
fault_of_inputs-requires c = names_made c.as_slice-names.result.now c.push_vars_of.new.names c.new-names.result (vars_of (exps_in c.as_slice-inputs.result.now)) c.as_slice-names.ensures c.in_ok-push_vars_of.ensures c.new-names.ensures

pub returns-in-Some : goal.returns-in-Some
returns-in-Some c =
    let il = c.args.directions.now.il.now in
    let rule = c.args.rule.now in
    let ins = holes_are il rule true c.as_slice-inputs.result.now c.in_ok-inputs.inputs c.mask_under-mask.result.now c.as_slice-conclusion.result.now c.as_slice-inputs.ensures c.in_ok-inputs.ensures c.mask_under-mask.ensures c.as_slice-conclusion.ensures in
    sym (refused_inputs il rule (exps_in c.as_slice-inputs.result.now) c.in-Some.wrong ins (subst (AreInputs (exps_in c.as_slice-inputs.result.now)) c.in-Some.is c.in_ok-wrong.ensures))

pub returns-in-Some-open : goal.returns-in-Some-open
returns-in-Some-open c =
    let il = c.args.directions.now.il.now in
    let rule = c.args.rule.now in
    let ins = holes_are il rule true c.as_slice-inputs.result.now c.in_ok-inputs.inputs c.mask_under-mask.result.now c.as_slice-conclusion.result.now c.as_slice-inputs.ensures c.in_ok-inputs.ensures c.mask_under-mask.ensures c.as_slice-conclusion.ensures in
    let outs = holes_are il rule false c.as_slice-outputs.result.now c.in_ok-outputs.outputs c.mask_under-mask.result.now c.as_slice-conclusion.result.now c.as_slice-outputs.ensures c.in_ok-outputs.ensures c.mask_under-mask.ensures c.as_slice-conclusion.ensures in
    let names = names_made c.as_slice-names.result.now c.push_vars_of.new.names c.new-names.result (vars_of (exps_in c.as_slice-inputs.result.now)) c.as_slice-names.ensures c.in_ok-push_vars_of.ensures c.new-names.ensures in
    let is = selected_of il rule (exps_in c.as_slice-inputs.result.now) (names_in c.as_slice-names.result.now) c.as_slice-premises.result.now c.in_ok-selection.selection c.as_slice-premises.ensures ins names c.in_ok-selection.ensures in
    sym
    (refused_end il rule (exps_in c.as_slice-inputs.result.now) (exps_in c.as_slice-outputs.result.now) c.in_ok-selection.selection c.in-Some-open.open ins
    (subst (AreInputs (exps_in c.as_slice-inputs.result.now)) c.in_default.is c.in_ok-wrong.ensures) outs is
    (subst (Ends (exps_in c.as_slice-outputs.result.now) (told_of c.in_ok-selection.selection)) c.in-Some-open.is c.in_ok-open.ensures))

pub returns : goal.returns
returns c =
    let il = c.args.directions.now.il.now in
    let rule = c.args.rule.now in
    let ins = holes_are il rule true c.as_slice-inputs.result.now c.in_ok-inputs.inputs c.mask_under-mask.result.now c.as_slice-conclusion.result.now c.as_slice-inputs.ensures c.in_ok-inputs.ensures c.mask_under-mask.ensures c.as_slice-conclusion.ensures in
    let outs = holes_are il rule false c.as_slice-outputs.result.now c.in_ok-outputs.outputs c.mask_under-mask.result.now c.as_slice-conclusion.result.now c.as_slice-outputs.ensures c.in_ok-outputs.ensures c.mask_under-mask.ensures c.as_slice-conclusion.ensures in
    let names = names_made c.as_slice-names.result.now c.push_vars_of.new.names c.new-names.result (vars_of (exps_in c.as_slice-inputs.result.now)) c.as_slice-names.ensures c.in_ok-push_vars_of.ensures c.new-names.ensures in
    let is = selected_of il rule (exps_in c.as_slice-inputs.result.now) (names_in c.as_slice-names.result.now) c.as_slice-premises.result.now c.in_ok-selection.selection c.as_slice-premises.ensures ins names c.in_ok-selection.ensures in
    sym (ordered il rule (exps_in c.as_slice-inputs.result.now) (exps_in c.as_slice-outputs.result.now) c.in_ok-selection.selection ins
    (subst (AreInputs (exps_in c.as_slice-inputs.result.now)) c.in_default.is c.in_ok-wrong.ensures) outs is
    (subst (Ends (exps_in c.as_slice-outputs.result.now) (told_of c.in_ok-selection.selection)) c.in_default-open.is c.in_ok-open.ensures))

pub select-requires-clause-few : goal.select-requires-clause-few
select-requires-clause-few c = subst (λ z. length z < 2 ^ 32) (sym c.as_slice-premises.ensures) c.requires.few
