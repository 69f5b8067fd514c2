use Rattle.std.proofs.Common.{rules, arith}
use Rattle.st_elab_table.specs.Questions.{Made, Breach, Gives, Fails, Step, Ends, Asks}
use Rattle.st_elab_table.specs.Steps.{asked, each_asked}
use Rattle.st_elab_table.specs.Elaboration.{Leads, ends}
use Rattle.st_elab_rows.specs.Asking.{made_by}
use Rattle.st_elab_table.specs.Parts.{Breaks}
use Rattle.st_elab_rows.proofs.Builds.{Told-stops}
use Rattle.st_elab_exp.proofs.Collecting.{empty, next_answered, next_breaks, next_argument, none_left, no_argument, arguments_end, passed}
use Rattle.st_elab_exp.proofs.inferred.arguments.Goals as goal

pub loop-exp-preserved : goal.loop-exp-preserved
loop-exp-preserved g c =
    let x = c.args.context.now in
    next_answered x.decls.now x.scope.now _ _ _ (asked x.within.now c.exp-item.result c.in-Some.ty.now) c.loop-exp.all _ c.into_inner.result (made_by c.in_ok-one.one)
    (next_argument x.within.now c.args.exps.now _ _ c.loop-exp.exp-index c.exp-item.result _ c.loop-exp-test.true c.exp-item.is c.in-Some.ensures.cases.0)
    c.into_inner.ensures c.in_ok-push.ensures.ok c.loop-exp.invariant
    (passed x.decls.now x.scope.now _ _ (c.in_ok-one.ensures (λ m. Ends (Gives m)) _ ends))

pub returns-in_err-one : goal.returns-in_err-one
returns-in_err-one g c =
    let x = c.args.context.now in
    let all = each_asked x.within.now c.args.exps.now c.args.tys.now in
    Told-stops _ _
    (λ (b : Breach). (next : Made → Step) → Leads x.decls.now x.scope.now (Asks (asked x.within.now c.exp-item.result c.in-Some.ty.now) next) (Fails b))
    (λ (b : Breach). Breaks x.decls.now x.scope.now all b)
    c.asked.result c.from_residual.result c.in_err-one.field-0.0 c.in_err-one.was (search rules)
    (λ b k. next_breaks x.decls.now x.scope.now all _ _ (asked x.within.now c.exp-item.result c.in-Some.ty.now) c.loop-exp.all b
    (next_argument x.within.now c.args.exps.now _ _ c.loop-exp.exp-index c.exp-item.result _ c.loop-exp-test.true c.exp-item.is c.in-Some.ensures.cases.0)
    c.loop-exp.invariant (passed x.decls.now x.scope.now _ _ (k (λ m. Ends (Gives m))))) c.asked.ensures

pub returns-in_default : goal.returns-in_default
returns-in_default g c =
    let x = c.args.context.now in
    none_left x.decls.now x.scope.now _ _ c.loop-exp.all (no_argument x.within.now _ c.loop-exp.rest.now (empty c.loop-exp.rest.now (omega (arith, c.in_default.ensures.cases)))) c.loop-exp.invariant

pub returns : goal.returns
returns g c =
    let x = c.args.context.now in
    none_left x.decls.now x.scope.now _ _ c.loop-exp.all (arguments_end x.within.now c.args.exps.now c.loop-exp.rest.now c.loop-exp.exp-index c.loop-exp-test.false) c.loop-exp.invariant
