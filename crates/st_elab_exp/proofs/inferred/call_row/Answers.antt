use Rattle.std.proofs.Common.{rules, sym, ap, subst, ◌∙◌}
use Rattle.std.proofs.lemmas.Bool.{eq-eqb, ne_eqb}
use Rattle.std.specs.Option.{option_copied}
use Rattle.st_il.specs.declared.expression.IlExp.{IlExp}
use Rattle.st_il.specs.declared.expression.IlExp.TheVariants as il
use Rattle.st_elab_table.specs.Steps.{give, each_asked, exp_of}
use Rattle.st_elab_table.proofs.RowLemmas.{call_counted, call_miscounted}
use Rattle.st_elab_rows.specs.Told.{TellsAll}
use Rattle.st_elab_table.specs.Parts.{AskedAs}
use Rattle.st_elab_rows.proofs.Builds.{leading_by, leading_breaks, leads_asks, gives_made}
use Rattle.st_elab_exp.proofs.Inferring.{no_function, has_function}
use Rattle.st_elab_exp.proofs.inferred.call_row.Goals as goal

pub returns-in_default : goal.returns-in_default
returns-in_default g c =
    let x = c.args.context.now in
    no_function x.decls.now x.scope.now x.within.now c.args.at c.args.exps.now _
    (sym c.in_default.ensures)

pub returns-then-exps-len : goal.returns-then-exps-len
returns-then-exps-len g c =
    let x = c.args.context.now in
    has_function x.decls.now x.scope.now x.within.now c.args.at c.args.exps.now _ c.in-Some.fun.now _
    (sym c.fun_named.ensures ∙ ap option_copied c.in-Some.is)
    (call_miscounted x.decls.now x.scope.now x.within.now c.args.at c.args.exps.now c.in-Some.fun.now (ne_eqb _ _ (λ e. c.if-exps-len.true (e ∙ sym c.len.ensures))))

pub returns-in_err-all : goal.returns-in_err-all
returns-in_err-all g c =
    let x = c.args.context.now in
    leading_by _ _ _ _ _ _ (λ a h. has_function x.decls.now x.scope.now x.within.now c.args.at c.args.exps.now _ c.in-Some.fun.now a
    (sym c.fun_named.ensures ∙ ap option_copied c.in-Some.is)
    (call_counted x.decls.now x.scope.now x.within.now c.args.at c.args.exps.now c.in-Some.fun.now a (eq-eqb _ _ (c.if-exps-len.false ∙ c.len.ensures)) h))
    (leading_breaks _ _ (each_asked x.within.now c.args.exps.now c.in-Some.fun.now.params) _ exp_of _
    c.arguments.result c.from_residual.result c.in_err-all.field-0.0 c.in_err-all.was (search rules)
    (subst (λ z. TellsAll x.decls.now x.scope.now (each_asked x.within.now c.args.exps.now z) exp_of c.arguments.result) c.as_slice.ensures c.arguments.ensures))

pub returns : goal.returns
returns g c =
    let x = c.args.context.now in
    has_function x.decls.now x.scope.now x.within.now c.args.at c.args.exps.now _ c.in-Some.fun.now _
    (sym c.fun_named.ensures ∙ ap option_copied c.in-Some.is)
    (call_counted x.decls.now x.scope.now x.within.now c.args.at c.args.exps.now c.in-Some.fun.now _ (eq-eqb _ _ (c.if-exps-len.false ∙ c.len.ensures))
    (leads_asks _ _ _ exp_of c.in_ok-all.all (λ xs. give (il.Call c.in-Some.fun.now.name xs) c.in-Some.fun.now.result) _
    (subst (λ z. AskedAs x.decls.now x.scope.now (each_asked x.within.now c.args.exps.now z) IlExp exp_of c.in_ok-all.all) c.as_slice.ensures c.in_ok-all.ensures)
    (gives_made _ _ _ _ _ (search rules))))
