use Rattle.std.proofs.Common.{rules, ap, map}
use Rattle.std.proofs.lemmas.List.{drop_all}
use Rattle.st_elab_table.specs.Questions.{Made, Breach, Gives, Fails, Step, Ends, Asks}
use Rattle.st_elab_table.specs.Steps.{found}
use Rattle.st_elab_table.specs.Elaboration.{Leads, ends}
use Rattle.st_elab_rows.specs.Asking.{made_by}
use Rattle.st_elab_table.specs.Parts.{Breaks}
use Rattle.st_elab_rows.proofs.Builds.{Told-stops, questions_from}
use Rattle.st_elab_exp.proofs.Collecting.{passed}
use Rattle.st_elab_exp.proofs.Pairing.{found_more, found_breaks, found_end}
use Rattle.st_elab_exp.proofs.inferred.each_found.Goals as goal

pub loop-exp-preserved : goal.loop-exp-preserved
loop-exp-preserved g c =
    let x = c.args.context.now in
    found_more x.decls.now x.scope.now _ _ _ (found x.within.now c.exp-item.result) c.loop-exp.parts _ c.loop-exp.tys _ (made_by c.in_ok-one.one)
    (questions_from (found x.within.now) c.args.exps.now c.loop-exp.exp-index c.exp-item.result c.loop-exp-test.true c.exp-item.is)
    (search (rules, c.in_ok-push.ensures, c.into_inner.ensures)) c.in_ok-push-2.ensures.ok c.loop-exp.invariant
    (passed x.decls.now x.scope.now _ _ (c.in_ok-one.ensures (λ m. Ends (Gives m)) _ ends))

pub returns-in_err-one : goal.returns-in_err-one
returns-in_err-one g c =
    let x = c.args.context.now in
    let all = map (found x.within.now) c.args.exps.now in
    Told-stops _ _
    (λ (b : Breach). (next : Made → Step) → Leads x.decls.now x.scope.now (Asks (found x.within.now c.exp-item.result) next) (Fails b))
    (λ (b : Breach). Breaks x.decls.now x.scope.now all b)
    c.found.result c.from_residual.result c.in_err-one.field-0.0 c.in_err-one.was (search rules)
    (λ b k. found_breaks x.decls.now x.scope.now all _ _ (found x.within.now c.exp-item.result) c.loop-exp.parts c.loop-exp.tys b
    (questions_from (found x.within.now) c.args.exps.now c.loop-exp.exp-index c.exp-item.result c.loop-exp-test.true c.exp-item.is)
    c.loop-exp.invariant (passed x.decls.now x.scope.now _ _ (k (λ m. Ends (Gives m))))) c.found.ensures

pub returns : goal.returns
returns g c =
    let x = c.args.context.now in
    found_end x (map (found x.within.now) c.args.exps.now) _ _ (ap (map (found x.within.now)) (drop_all c.loop-exp.exp-index c.args.exps.now c.loop-exp-test.false)) c.loop-exp.invariant
