use Rattle.std.proofs.Common.{rules, sym, ◌∙◌}
use Rattle.st_elab_table.specs.Steps.{give}
use Rattle.st_elab_rows.specs.Asking.{made_by}
use Rattle.st_elab_rows.specs.inner.Words.{lift_of}
use Rattle.st_elab_rows.proofs.Leaves.{refuted, proved, lifts, lifts_no_collection, lifts_none_above}
use Rattle.st_elab_rows.proofs.Builds.{gives_made}
use Rattle.st_elab_rows.proofs.fitting.lifted_to.Goals as goal

pub returns-then-is_collection : goal.returns-then-is_collection
returns-then-is_collection c = lifts_no_collection c.args.context.now.decls.now c.args.context.now.scope.now c.args.at (made_by c.args.given) c.args.ty.now c.args.element.now c.meaning.result.now (lift_of c.args.lifting c.args.element.now) c.meaning.ensures.means (sym c.is_collection.ensures ∙ c.if-is_collection.true)

pub returns-then-is_sub : goal.returns-then-is_sub
returns-then-is_sub c = lifts c.args.context.now.decls.now c.args.context.now.scope.now c.args.at (made_by c.args.given) c.args.ty.now c.args.element.now c.meaning.result.now (lift_of c.args.lifting c.args.element.now) _ c.meaning.ensures.means (sym c.is_collection.ensures ∙ c.if-is_collection.false)
    (proved c.is_sub.result c.if-is_sub.true c.is_sub.ensures.exact.0)
    (c.in_ok-one.ensures c.args.context.now.scope.now (λ x. give (lift_of c.args.lifting c.args.element.now x) c.args.ty.now) _ (gives_made _ _ _ _ _ (search rules)))

pub returns : goal.returns
returns c = lifts_none_above c.args.context.now.decls.now c.args.context.now.scope.now c.args.at (made_by c.args.given) c.args.ty.now c.args.element.now c.meaning.result.now (lift_of c.args.lifting c.args.element.now) c.meaning.ensures.means (sym c.is_collection.ensures ∙ c.if-is_collection.false)
    (refuted c.is_sub.result c.if-is_sub.false c.is_sub.ensures.exact.1)
