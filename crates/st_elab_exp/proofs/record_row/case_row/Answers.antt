use Rattle.std.proofs.Common.{rules, sym, subst, ◌∙◌}
use Rattle.st_il.specs.declared.expression.IlExp.{IlExp}
use Rattle.st_il.specs.declared.expression.IlExp.TheVariants as il
use Rattle.st_notation.specs.Fitted.{fillings}
use Rattle.st_elab_table.specs.Records.{passed_on, case_row}
use Rattle.st_elab_table.specs.Steps.{give, holes_behind, exp_of}
use Rattle.st_elab_table.proofs.RowLemmas.{case_unfit}
use Rattle.st_elab_rows.specs.Asking.{LeadsTo}
use Rattle.st_elab_rows.specs.Told.{TellsAll}
use Rattle.st_elab_table.specs.Parts.{AskedAs}
use Rattle.st_elab_rows.proofs.Builds.{leading_by, leading_breaks, leads_asks, gives_made}
use Rattle.st_elab_exp.proofs.Collecting.{same_holes}
use Rattle.st_elab_exp.proofs.Recording.{case_fills, filled_in, none_filled, unnamed_unfit, none_chosen, none_fills}
use Rattle.st_elab_exp.proofs.record_row.case_row.Goals as goal

pub returns-in_default : goal.returns-in_default
returns-in_default g c =
    let x = c.args.context.now in
    let part = c.args.part.now in
    subst (LeadsTo x (case_row x.within.now part.at part.passed.now part.exp.now c.args.ty.now c.args.variant.now)) (sym c.unfit.ensures)
    (case_unfit x.decls.now x.scope.now x.within.now part.at part.passed.now part.exp.now c.args.ty.now c.args.variant.now (unnamed_unfit x.decls.now.types c.args.ty.now part.exp.now c.in_default.not-Name))

pub returns-in_default-chosen_case : goal.returns-in_default-chosen_case
returns-in_default-chosen_case g c =
    let x = c.args.context.now in
    let part = c.args.part.now in
    subst (LeadsTo x (case_row x.within.now part.at part.passed.now part.exp.now c.args.ty.now c.args.variant.now)) (sym c.unfit-in_default-chosen_case.ensures)
    (case_unfit x.decls.now x.scope.now x.within.now part.at part.passed.now part.exp.now c.args.ty.now c.args.variant.now
    (none_chosen x.decls.now.types c.args.ty.now part.exp.now c.in_default-chosen_case.ensures.none))

pub returns-in_default-2 : goal.returns-in_default-2
returns-in_default-2 g c =
    let x = c.args.context.now in
    let part = c.args.part.now in
    subst (LeadsTo x (case_row x.within.now part.at part.passed.now part.exp.now c.args.ty.now c.args.variant.now)) (sym c.unfit-in_default-2.ensures)
    (case_unfit x.decls.now x.scope.now x.within.now part.at part.passed.now part.exp.now c.args.ty.now c.args.variant.now
    (none_fills x.decls.now.types c.args.ty.now part.exp.now c.in-Some.case.now c.in-Some.ensures.some
    (none_filled x.decls.now.types c.in-Some.case.now part.exp.now _ c.in_default-2.is c.in_ok-filled.ensures)))

pub returns-in_err-all : goal.returns-in_err-all
returns-in_err-all g c =
    let x = c.args.context.now in
    let part = c.args.part.now in
    leading_by _ _ _ _ _ _ (λ a h. case_fills x.decls.now x.scope.now x.within.now part.at part.passed.now part.exp.now c.args.ty.now c.args.variant.now c.in-Name.name c.in-Some.case.now (fillings c.in-Some-2.filled) c.in_ok-whole.whole a
    c.in-Name.is c.in-Some.ensures.some
    (filled_in x.decls.now.types c.in-Some.case.now part.exp.now _ _ c.in-Some-2.is c.in_ok-filled.ensures) c.in_ok-whole.ensures h)
    (leading_breaks _ _ (holes_behind x.within.now part.at (passed_on c.in_ok-whole.whole part.passed.now c.args.variant.now) (fillings c.in-Some-2.filled) c.in-Some.case.now.operands) _ exp_of _
    c.all_holes.result c.from_residual-in_err-all.result c.in_err-all.field-0.0 c.in_err-all.was (search rules)
    (subst (λ z. TellsAll x.decls.now x.scope.now z exp_of c.all_holes.result)
    (same_holes x.within.now part.at _ _ _ _ _ _ (c.as_slice.ensures ∙ c.in_ok-passed.ensures) c.as_slice-2.ensures c.as_slice-3.ensures) c.all_holes.ensures))

pub returns : goal.returns
returns g c =
    let x = c.args.context.now in
    let part = c.args.part.now in
    case_fills x.decls.now x.scope.now x.within.now part.at part.passed.now part.exp.now c.args.ty.now c.args.variant.now c.in-Name.name c.in-Some.case.now (fillings c.in-Some-2.filled) c.in_ok-whole.whole _
    c.in-Name.is c.in-Some.ensures.some
    (filled_in x.decls.now.types c.in-Some.case.now part.exp.now _ _ c.in-Some-2.is c.in_ok-filled.ensures) c.in_ok-whole.ensures
    (leads_asks _ _ _ exp_of c.in_ok-all.all (λ xs. give (il.Case c.in-Name.name c.in-Some.case.now.tag xs) c.args.ty.now) _
    (subst (λ z. AskedAs x.decls.now x.scope.now z IlExp exp_of c.in_ok-all.all)
    (same_holes x.within.now part.at _ _ _ _ _ _ (c.as_slice.ensures ∙ c.in_ok-passed.ensures) c.as_slice-2.ensures c.as_slice-3.ensures) c.in_ok-all.ensures)
    (gives_made _ _ _ _ _ (search rules)))
