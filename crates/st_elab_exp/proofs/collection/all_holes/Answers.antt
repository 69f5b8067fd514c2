use Rattle.std.proofs.Common.{rules, arith}
use Rattle.st_notation.specs.Fitted.{plain, fillings}
use Rattle.st_elab_table.specs.Questions.{hole, Breach, Fails}
use Rattle.st_elab_table.specs.Steps.{holes_behind}
use Rattle.st_elab_table.specs.Collections.{hole_row}
use Rattle.st_elab_table.specs.Elaboration.{Leads, by_row}
use Rattle.st_elab_rows.specs.Asking.{made_by}
use Rattle.st_elab_table.specs.Parts.{Breaks}
use Rattle.st_elab_rows.proofs.Builds.{Told-stops}
use Rattle.st_elab_exp.proofs.Collecting.{empty, next_answered, next_breaks, next_hole, none_left, no_hole, holes_end}
use Rattle.st_elab_exp.proofs.collection.all_holes.Goals as goal

pub loop-filling-preserved : goal.loop-filling-preserved
loop-filling-preserved g c =
    let x = c.args.context.now in
    next_answered x.decls.now x.scope.now _ _ _ (hole x.within.now c.args.at c.args.passed.now (plain c.filling-item.result) _) c.loop-filling.all _ c.into_inner.result (made_by c.in_ok-one.one)
    (next_hole x.within.now c.args.at c.args.passed.now c.args.filled.now _ _ c.loop-filling.filling-index c.filling-item.result _ c.loop-filling-test.true c.filling-item.is c.in-Some.ensures.cases.0)
    c.into_inner.ensures c.in_ok-push.ensures.ok c.loop-filling.invariant (by_row c.in_ok-one.ensures)

pub returns-in_err-one : goal.returns-in_err-one
returns-in_err-one g c =
    let x = c.args.context.now in
    let all = holes_behind x.within.now c.args.at c.args.passed.now (fillings c.args.filled.now) c.args.tys.now in
    Told-stops _ _
    (λ (b : Breach). Leads x.decls.now x.scope.now (hole_row x.within.now c.args.at c.args.passed.now (plain c.filling-item.result) c.in-Some.ty.now) (Fails b))
    (λ (b : Breach). Breaks x.decls.now x.scope.now all b)
    c.hole.result c.from_residual.result c.in_err-one.field-0.0 c.in_err-one.was (search rules)
    (λ b k. next_breaks x.decls.now x.scope.now all _ _ (hole x.within.now c.args.at c.args.passed.now (plain c.filling-item.result) c.in-Some.ty.now) c.loop-filling.all b
    (next_hole x.within.now c.args.at c.args.passed.now c.args.filled.now _ _ c.loop-filling.filling-index c.filling-item.result _ c.loop-filling-test.true c.filling-item.is c.in-Some.ensures.cases.0)
    c.loop-filling.invariant (by_row k)) c.hole.ensures

-- a filling without a type is not asked
pub returns-in_default : goal.returns-in_default
returns-in_default g c =
    let x = c.args.context.now in
    none_left x.decls.now x.scope.now _ _ c.loop-filling.all (no_hole x.within.now c.args.at c.args.passed.now _ c.loop-filling.rest.now (empty c.loop-filling.rest.now (omega (arith, c.in_default.ensures.cases)))) c.loop-filling.invariant

pub returns : goal.returns
returns g c =
    let x = c.args.context.now in
    none_left x.decls.now x.scope.now _ _ c.loop-filling.all (holes_end x.within.now c.args.at c.args.passed.now c.args.filled.now c.loop-filling.rest.now c.loop-filling.filling-index c.loop-filling-test.false) c.loop-filling.invariant
