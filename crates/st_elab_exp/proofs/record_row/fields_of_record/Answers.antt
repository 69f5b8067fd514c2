use Rattle.std.proofs.Common.{rules, sym, ap, subst, ◌∙◌}
use Rattle.st_il.specs.declared.expression.IlExp.TheVariants as il
use Rattle.st_elab_table.specs.Choice.{HaveShapes}
use Rattle.st_elab_table.specs.Records.{field_types, field_names, aligned}
use Rattle.st_elab_table.specs.Steps.{give, holes, exp_of}
use Rattle.st_notation.specs.Fitted.{fillings}
use Rattle.st_elab_rows.specs.Told.{TellsAll}
use Rattle.st_elab_table.specs.Parts.{AskedAs}
use Rattle.st_il.specs.declared.expression.IlExp.{IlExp}
use Rattle.st_elab_rows.proofs.Builds.{leading_by, leading_breaks, leads_asks, gives_made}
use Rattle.st_elab_exp.proofs.Recording.{record_fills, record_unfit}
use Rattle.st_elab_exp.proofs.record_row.fields_of_record.Goals as goal

pub returns-in_default : goal.returns-in_default
returns-in_default g c =
    let x = c.args.context.now in
    record_unfit x.decls.now x.scope.now x.within.now c.args.at c.args.name.now c.args.written.now c.args.ty.now c.args.fields.now c.in_ok-shapes.shapes
    (subst (λ z. HaveShapes x.decls.now.types z c.in_ok-shapes.shapes) (c.as_slice.ensures ∙ c.in_ok-tys.ensures) c.in_ok-shapes.ensures)
    (sym (ap (λ z. aligned (field_names c.args.fields.now) z c.args.written.now) c.as_slice-2.ensures) ∙ sym c.in_ok-filled.ensures ∙ search (rules, c.in_default.is))

pub returns-in_err-all : goal.returns-in_err-all
returns-in_err-all g c =
    let x = c.args.context.now in
    leading_by _ _ _ _ _ _ (λ a h. record_fills x.decls.now x.scope.now x.within.now c.args.at c.args.name.now c.args.written.now c.args.ty.now c.args.fields.now c.in_ok-shapes.shapes (fillings c.in-Some.filled) a
    (subst (λ z. HaveShapes x.decls.now.types z c.in_ok-shapes.shapes) (c.as_slice.ensures ∙ c.in_ok-tys.ensures) c.in_ok-shapes.ensures)
    (sym (ap (λ z. aligned (field_names c.args.fields.now) z c.args.written.now) c.as_slice-2.ensures) ∙ sym c.in_ok-filled.ensures ∙ search (rules, c.in-Some.is)) h)
    (leading_breaks _ _ (holes x.within.now c.args.at (fillings c.in-Some.filled) (field_types c.args.fields.now)) _ exp_of _
    c.all_holes.result c.from_residual-in_err-all.result c.in_err-all.field-0.0 c.in_err-all.was (search rules)
    (subst (λ z. TellsAll x.decls.now x.scope.now (holes x.within.now c.args.at (fillings c.in-Some.filled) z) exp_of c.all_holes.result) (c.as_slice-4.ensures ∙ c.in_ok-tys.ensures)
    (subst (λ z. TellsAll x.decls.now x.scope.now (holes x.within.now c.args.at (fillings z) c.as_slice-4.result.now) exp_of c.all_holes.result) c.as_slice-3.ensures c.all_holes.ensures)))

pub returns : goal.returns
returns g c =
    let x = c.args.context.now in
    record_fills x.decls.now x.scope.now x.within.now c.args.at c.args.name.now c.args.written.now c.args.ty.now c.args.fields.now c.in_ok-shapes.shapes (fillings c.in-Some.filled) _
    (subst (λ z. HaveShapes x.decls.now.types z c.in_ok-shapes.shapes) (c.as_slice.ensures ∙ c.in_ok-tys.ensures) c.in_ok-shapes.ensures)
    (sym (ap (λ z. aligned (field_names c.args.fields.now) z c.args.written.now) c.as_slice-2.ensures) ∙ sym c.in_ok-filled.ensures ∙ search (rules, c.in-Some.is))
    (leads_asks _ _ _ exp_of c.in_ok-all.all (λ xs. give (il.Fields c.args.name.now xs) c.args.ty.now) _
    (subst (λ z. AskedAs x.decls.now x.scope.now (holes x.within.now c.args.at (fillings c.in-Some.filled) z) IlExp exp_of c.in_ok-all.all) (c.as_slice-4.ensures ∙ c.in_ok-tys.ensures)
    (subst (λ z. AskedAs x.decls.now x.scope.now (holes x.within.now c.args.at (fillings z) c.as_slice-4.result.now) IlExp exp_of c.in_ok-all.all) c.as_slice-3.ensures c.in_ok-all.ensures))
    (gives_made _ _ _ _ _ (search rules)))
