use Rattle.std.proofs.Common.{rules, sym, ap, subst, ◌∙◌}
use Rattle.st_el.specs.declared.expression.Seg.{out-Seg}
use Rattle.st_el.specs.declared.expression.Seg.TheVariants as seg
use Rattle.st_il.specs.declared.ty.Ty.{Ty}
use Rattle.st_il.specs.declared.ty.Ty.TheVariants as typ
use Rattle.st_il.specs.declared.expression.PathSeg.{PathSeg}
use Rattle.st_il.specs.declared.expression.PathSeg.TheVariants as place
use Rattle.st_elab_table.specs.Questions.{Breach, Fails, Step, Asks}
use Rattle.st_elab_table.specs.Steps.{asked, as_list}
use Rattle.st_elab_table.specs.Paths.{as_field, step_row}
use Rattle.st_elab_table.specs.Elaboration.{Leads}
use Rattle.st_elab_rows.proofs.Builds.{Told-stops}
use Rattle.st_elab_rows.proofs.path.step.Goals as goal

pub returns-in_err-field-in-Field : goal.returns-in_err-field-in-Field
returns-in_err-field-in-Field g c = Told-stops _ _
    (λ (b : Breach). (next : Ty → Step) → Leads c.args.context.now.decls.now c.args.context.now.scope.now (as_field c.args.context.now.decls.now c.args.at c.args.at c.in-Field.name c.args.ty.now next) (Fails b))
    (λ (b : Breach). (next : PathSeg → Ty → Step) → Leads c.args.context.now.decls.now c.args.context.now.scope.now (step_row c.args.context.now.decls.now c.args.context.now.within.now c.args.at c.args.ty.now next (out-Seg c.args.seg.now)) (Fails b))
    c.as_field.result c.from_residual.result c.in_err-field-in-Field.field-0.0 c.in_err-field-in-Field.was (search rules)
    (λ b k. λ next. subst (λ z. Leads c.args.context.now.decls.now c.args.context.now.scope.now (step_row c.args.context.now.decls.now c.args.context.now.within.now c.args.at c.args.ty.now next z) (Fails b)) (sym (ap out-Seg c.in-Field.is ∙ seg.outs-Field _)) (k (next (place.Field c.in-Field.name)))) (c.as_field.ensures c.args.context.now.scope.now)

pub returns-in_err-element-in-At : goal.returns-in_err-element-in-At
returns-in_err-element-in-At g c = Told-stops _ _
    (λ (b : Breach). (next : Ty → Step) → Leads c.args.context.now.decls.now c.args.context.now.scope.now (as_list c.args.at c.args.ty.now next) (Fails b))
    (λ (b : Breach). (next : PathSeg → Ty → Step) → Leads c.args.context.now.decls.now c.args.context.now.scope.now (step_row c.args.context.now.decls.now c.args.context.now.within.now c.args.at c.args.ty.now next (out-Seg c.args.seg.now)) (Fails b))
    c.as_list.result c.from_residual-in_err-element-in-At.result c.in_err-element-in-At.field-0.0 c.in_err-element-in-At.was (search rules)
    (λ b k. λ next. subst (λ z. Leads c.args.context.now.decls.now c.args.context.now.scope.now (step_row c.args.context.now.decls.now c.args.context.now.within.now c.args.at c.args.ty.now next z) (Fails b)) (sym (ap out-Seg c.in-At.is ∙ seg.outs-At _)) (k (λ x. Asks (asked c.args.context.now.within.now c.in-At.from typ.Nat) (λ a. next (place.At a.exp) x)))) (c.as_list.ensures c.args.context.now.scope.now)

pub returns-in_err-as_list-in-Slice : goal.returns-in_err-as_list-in-Slice
returns-in_err-as_list-in-Slice g c = Told-stops _ _
    (λ (b : Breach). (next : Ty → Step) → Leads c.args.context.now.decls.now c.args.context.now.scope.now (as_list c.args.at c.args.ty.now next) (Fails b))
    (λ (b : Breach). (next : PathSeg → Ty → Step) → Leads c.args.context.now.decls.now c.args.context.now.scope.now (step_row c.args.context.now.decls.now c.args.context.now.within.now c.args.at c.args.ty.now next (out-Seg c.args.seg.now)) (Fails b))
    c.as_list-in-Slice.result c.from_residual-in_err-as_list-in-Slice.result c.in_err-as_list-in-Slice.field-0.0 c.in_err-as_list-in-Slice.was (search rules)
    (λ b k. λ next. subst (λ z. Leads c.args.context.now.decls.now c.args.context.now.scope.now (step_row c.args.context.now.decls.now c.args.context.now.within.now c.args.at c.args.ty.now next z) (Fails b)) (sym (ap out-Seg c.in-Slice.is ∙ seg.outs-Slice _ _)) (k (λ x. Asks (asked c.args.context.now.within.now c.in-Slice.from typ.Nat) (λ a. Asks (asked c.args.context.now.within.now c.in-Slice.length typ.Nat) (λ b. next (place.Slice a.exp b.exp) c.args.ty.now))))) (c.as_list-in-Slice.ensures c.args.context.now.scope.now)
