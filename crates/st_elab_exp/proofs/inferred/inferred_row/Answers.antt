use Rattle.std.proofs.Common.{sym, subst, ◌∙◌}
use Rattle.st_notation.specs.Elements.{opened}
use Rattle.st_elab_table.specs.Inferred.{inferred_row}
use Rattle.st_elab_rows.specs.Asking.{LeadsTo}
use Rattle.st_elab_rows.proofs.Builds.{leading_by}
use Rattle.st_elab_exp.proofs.Inferring.{row_inferable, row_uninferable}
use Rattle.st_elab_exp.proofs.inferred.inferred_row.Goals as goal

pub returns-then-inferable : goal.returns-then-inferable
returns-then-inferable g c =
    let x = c.args.context.now in
    leading_by _ _ _ _ _ _ (λ a h. row_inferable x.decls.now x.scope.now x.within.now c.args.at c.args.exp.now (opened c.args.exp.now) a
    (sym c.inferable.ensures ∙ c.if-inferable.true) h) c.inferred_at.ensures

pub returns : goal.returns
returns g c =
    let x = c.args.context.now in
    subst (LeadsTo x (inferred_row x.decls.now x.scope.now x.within.now c.args.at c.args.exp.now (opened c.args.exp.now))) (sym c.untyped.ensures)
    (row_uninferable x.decls.now x.scope.now x.within.now c.args.at c.args.exp.now (opened c.args.exp.now) (sym c.inferable.ensures ∙ c.if-inferable.false))
