use Rattle.std.proofs.Common.{rules, sym, ◌∙◌}
use Rattle.st_elab_table.proofs.RowLemmas.{element_collection, element_plain}
use Rattle.st_elab_rows.specs.inner.Words.{lift_of}
use Rattle.st_elab_rows.specs.Asking.{manner}
use Rattle.st_elab_rows.proofs.Builds.{leading_by, reaches_stops, gives_made}
use Rattle.st_elab_exp.proofs.collection.element.Goals as goal

pub returns-then-is_collection : goal.returns-then-is_collection
returns-then-is_collection g c = element_collection c.args.context.now.decls.now c.args.context.now.scope.now c.args.context.now.within.now
    c.args.part.now.at (manner c.args.part.now) c.args.part.now.exp.now c.args.ty.now c.args.inner.now c.meaning.result.now (lift_of c.args.lifting c.args.inner.now)
    c.meaning.ensures.means (sym c.is_collection.ensures ∙ c.if-is_collection.true)

pub returns-in_err-one : goal.returns-in_err-one
returns-in_err-one g c = leading_by _ _ _ _ _ _
    (λ a h. element_plain c.args.context.now.decls.now c.args.context.now.scope.now c.args.context.now.within.now
    c.args.part.now.at (manner c.args.part.now) c.args.part.now.exp.now c.args.ty.now c.args.inner.now c.meaning.result.now (lift_of c.args.lifting c.args.inner.now) a
    c.meaning.ensures.means (sym c.is_collection.ensures ∙ c.if-is_collection.false) h)
    (reaches_stops _ _ _ _ _ _ c.asked_at.result c.from_residual.result c.in_err-one.field-0.0 c.in_err-one.was (search rules) c.asked_at.ensures)

pub returns : goal.returns
returns g c = element_plain c.args.context.now.decls.now c.args.context.now.scope.now c.args.context.now.within.now
    c.args.part.now.at (manner c.args.part.now) c.args.part.now.exp.now c.args.ty.now c.args.inner.now c.meaning.result.now (lift_of c.args.lifting c.args.inner.now) _
    c.meaning.ensures.means (sym c.is_collection.ensures ∙ c.if-is_collection.false)
    (c.in_ok-one.ensures _ _ (gives_made _ _ _ _ _ (search rules)))
