use Rattle.std.proofs.Common.{sym, subst, ◌∙◌}
use Rattle.st_il.specs.declared.ty.Ty.{out-Ty}
use Rattle.st_elab_table.specs.Records.{variant_row}
use Rattle.st_elab_table.proofs.RowLemmas.{variant_again, variant_first, variant_unnamed}
use Rattle.st_elab_rows.specs.Asking.{LeadsTo}
use Rattle.st_elab_rows.proofs.Builds.{leading_by}
use Rattle.st_elab_exp.proofs.record_row.variant_row.Goals as goal

pub returns-in_default : goal.returns-in_default
returns-in_default g c =
    let x = c.args.context.now in
    let part = c.args.part.now in
    subst (LeadsTo x (variant_row x.within.now part.at part.passed.now part.exp.now c.args.ty.now (out-Ty c.args.meaning.now))) (sym c.unfit.ensures)
    (variant_unnamed x.decls.now x.scope.now x.within.now part.at part.passed.now part.exp.now c.args.ty.now c.args.meaning.now c.in_default.not-Name)

pub returns-then-is_among : goal.returns-then-is_among
returns-then-is_among g c =
    let x = c.args.context.now in
    let part = c.args.part.now in
    subst (LeadsTo x (variant_row x.within.now part.at part.passed.now part.exp.now c.args.ty.now (out-Ty c.args.meaning.now))) (sym c.unfit-then-is_among.ensures)
    (variant_again x.decls.now x.scope.now x.within.now part.at part.passed.now part.exp.now c.args.ty.now c.args.meaning.now c.in-Name.variant
    c.in-Name.is (sym c.is_among.ensures ∙ c.if-is_among.true))

pub returns : goal.returns
returns g c =
    let x = c.args.context.now in
    let part = c.args.part.now in
    leading_by _ _ _ _ _ _ (λ a h. variant_first x.decls.now x.scope.now x.within.now part.at part.passed.now part.exp.now c.args.ty.now c.args.meaning.now c.in-Name.variant a
    c.in-Name.is (sym c.is_among.ensures ∙ c.if-is_among.false) h) c.case_row.ensures
