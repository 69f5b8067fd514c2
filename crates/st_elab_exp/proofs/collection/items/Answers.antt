use Rattle.std.proofs.Common.{rules, subst, map}
use Rattle.std.proofs.lemmas.List.{drop_all}
use Rattle.st_il.specs.declared.expression.ListItem.{ListItem}
use Rattle.st_elab_table.specs.Questions.{item, Breach, Fails}
use Rattle.st_elab_table.specs.Collections.{item_of, item_row}
use Rattle.st_elab_table.specs.Elaboration.{Leads}
use Rattle.st_elab_table.specs.Parts.{Breaks}
use Rattle.st_elab_rows.specs.inner.Continuing.{Continues}
use Rattle.st_elab_rows.proofs.Builds.{Told-stops, continues_ends}
use Rattle.st_elab_exp.proofs.Collecting.{item_more, item_stops}
use Rattle.st_elab_exp.proofs.collection.items.Goals as goal

pub loop-part-preserved : goal.loop-part-preserved
loop-part-preserved g c =
    let x = c.args.context.now in
    item_more x.decls.now x.scope.now x.within.now c.args.ty.now c.args.element.now c.args.parts.now c.loop-part.part-index c.part-item.result c.loop-part.all _ _
    c.loop-part-test.true c.part-item.is c.in_ok-push.ensures.ok c.loop-part.invariant c.in_ok-item.ensures

pub returns-in_err-item : goal.returns-in_err-item
returns-in_err-item g c =
    let x = c.args.context.now in
    Told-stops _ _
    (λ (b : Breach). Leads x.decls.now x.scope.now (item_row x.within.now c.args.ty.now c.args.element.now c.part-item.result) (Fails b))
    (λ (b : Breach). Breaks x.decls.now x.scope.now (map (item x.within.now c.args.ty.now c.args.element.now) c.args.parts.now) b)
    c.item.result c.from_residual.result c.in_err-item.field-0.0 c.in_err-item.was (search rules)
    (λ b k. item_stops x.decls.now x.scope.now x.within.now c.args.ty.now c.args.element.now c.args.parts.now c.loop-part.part-index c.part-item.result c.loop-part.all b
    c.loop-part-test.true c.part-item.is c.loop-part.invariant k) c.item.ensures

pub returns : goal.returns
returns g c =
    let x = c.args.context.now in
    let ask = item x.within.now c.args.ty.now c.args.element.now in
    continues_ends x.decls.now x.scope.now (map ask c.args.parts.now) item_of c.loop-part.all
    (subst (λ z. Continues x.decls.now x.scope.now (map ask c.args.parts.now) (map ask z) ListItem item_of c.loop-part.all)
    (drop_all c.loop-part.part-index c.args.parts.now c.loop-part-test.false) c.loop-part.invariant)
