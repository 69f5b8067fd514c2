use Rattle.std.proofs.Common.{subst}
use Rattle.st_elab_table.specs.Steps.{lifted_to}
use Rattle.st_elab_rows.specs.Asking.{made_by}
use Rattle.st_elab_rows.specs.Told.{Leading}
use Rattle.st_elab_rows.specs.inner.Words.{lift_of}
use Rattle.st_elab_rows.specs.declared.fitting.Lifting.TheVariants as lifting
use Rattle.st_elab_rows.proofs.Leaves.{refuted, proved, fitted_same, fitted_up, fitted_list, fitted_option, fitted_fails}
use Rattle.st_elab_rows.proofs.Builds.{leading_by, gives_is}
use Rattle.st_elab_rows.proofs.fitting.fitted.Goals as goal

pub returns-then-same : goal.returns-then-same
returns-then-same c = gives_is _ _ _ _ _ c.in_ok-same.ensures
    (fitted_same c.args.context.now.decls.now c.args.context.now.scope.now c.args.at c.args.given.exp c.args.given.ty c.args.ty.now (proved c.same.result c.if-same.true c.same.ensures.exact.0))

pub returns-then-is_sub : goal.returns-then-is_sub
returns-then-is_sub c = gives_is _ _ _ _ _ c.in_ok-injected.ensures
    (fitted_up c.args.context.now.decls.now c.args.context.now.scope.now c.args.at c.args.given.exp c.in_ok-exp.exp c.args.given.ty c.args.ty.now
    (refuted c.same.result c.if-same.false c.same.ensures.exact.1) (proved c.is_sub.result c.if-is_sub.true c.is_sub.ensures.exact.0) c.in_ok-exp.ensures)

pub returns-in-List : goal.returns-in-List
returns-in-List c = leading_by _ _ _ _ _ _
    (λ a h. fitted_list c.args.context.now.decls.now c.args.context.now.scope.now c.args.at c.args.given.exp c.args.given.ty c.args.ty.now c.meaning.result.now c.in-List.element a (refuted c.same.result c.if-same.false c.same.ensures.exact.1) (refuted c.is_sub.result c.if-is_sub.false c.is_sub.ensures.exact.1) c.meaning.ensures.means c.in-List.is h)
    (subst (λ z. Leading c.args.context.now.decls.now c.args.context.now.scope.now (lifted_to c.args.at (made_by c.args.given) c.args.ty.now z (lift_of lifting.List z)) made_by c.lifted_to.result) c.get.ensures c.lifted_to.ensures)

pub returns-in-Opt : goal.returns-in-Opt
returns-in-Opt c = leading_by _ _ _ _ _ _
    (λ a h. fitted_option c.args.context.now.decls.now c.args.context.now.scope.now c.args.at c.args.given.exp c.args.given.ty c.args.ty.now c.meaning.result.now c.in-Opt.element a (refuted c.same.result c.if-same.false c.same.ensures.exact.1) (refuted c.is_sub.result c.if-is_sub.false c.is_sub.ensures.exact.1) c.meaning.ensures.means c.in-Opt.is h)
    (subst (λ z. Leading c.args.context.now.decls.now c.args.context.now.scope.now (lifted_to c.args.at (made_by c.args.given) c.args.ty.now z (lift_of lifting.Option z)) made_by c.lifted_to-in-Opt.result) c.get-in-Opt.ensures c.lifted_to-in-Opt.ensures)

pub returns-in_default : goal.returns-in_default
returns-in_default c = fitted_fails c.args.context.now.decls.now c.args.context.now.scope.now c.args.at c.args.given.exp c.args.given.ty c.args.ty.now c.meaning.result.now
    (refuted c.same.result c.if-same.false c.same.ensures.exact.1) (refuted c.is_sub.result c.if-is_sub.false c.is_sub.ensures.exact.1) c.meaning.ensures.means c.in_default.not-List c.in_default.not-Opt
