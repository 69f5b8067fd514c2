use Rattle.std.proofs.Common.{rules, subst, ◌∙◌}
use Rattle.std.proofs.lemmas.Bool.{eq-eqb}
use Rattle.st_il.specs.declared.expression.IlExp.{IlExp}
use Rattle.st_il.specs.declared.expression.IlExp.TheVariants as il
use Rattle.st_elab_table.specs.Steps.{give, each_asked, exp_of}
use Rattle.st_elab_rows.specs.Told.{TellsAll}
use Rattle.st_elab_table.specs.Parts.{AskedAs}
use Rattle.st_elab_rows.specs.Asking.{manner}
use Rattle.st_elab_rows.proofs.Builds.{leading_by, leading_breaks, leads_asks, gives_made}
use Rattle.st_elab_exp.proofs.Checking.{tuple_counted}
use Rattle.st_elab_exp.proofs.checked.tuple_at.Goals as goal

pub returns-in_err-all-in-Tuple : goal.returns-in_err-all-in-Tuple
returns-in_err-all-in-Tuple g c =
    let x = c.args.context.now in
    let part = c.args.part.now in
    leading_by _ _ _ _ _ _ (λ a h. tuple_counted x.decls.now x.scope.now x.within.now part.at (manner part) part.exp.now c.args.parts.now c.args.ty.now c.args.meaning.now c.in-Tuple.tys a
    c.in-Tuple.is (eq-eqb _ _ (c.if-parts-len.true ∙ c.len.ensures)) h)
    (leading_breaks _ _ (each_asked x.within.now c.args.parts.now c.in-Tuple.tys) _ exp_of _
    c.arguments.result c.from_residual.result c.in_err-all-in-Tuple.field-0.0 c.in_err-all-in-Tuple.was (search rules)
    (subst (λ z. TellsAll x.decls.now x.scope.now (each_asked x.within.now c.args.parts.now z) exp_of c.arguments.result) c.as_slice.ensures c.arguments.ensures))

pub returns-then-parts-len : goal.returns-then-parts-len
returns-then-parts-len g c =
    let x = c.args.context.now in
    let part = c.args.part.now in
    tuple_counted x.decls.now x.scope.now x.within.now part.at (manner part) part.exp.now c.args.parts.now c.args.ty.now c.args.meaning.now c.in-Tuple.tys _
    c.in-Tuple.is (eq-eqb _ _ (c.if-parts-len.true ∙ c.len.ensures))
    (leads_asks _ _ _ exp_of c.in_ok-all-in-Tuple.all (λ xs. give (il.Tuple xs) c.args.ty.now) _
    (subst (λ z. AskedAs x.decls.now x.scope.now (each_asked x.within.now c.args.parts.now z) IlExp exp_of c.in_ok-all-in-Tuple.all) c.as_slice.ensures c.in_ok-all-in-Tuple.ensures)
    (gives_made _ _ _ _ _ (search rules)))
