use Rattle.st_elab_table.proofs.RowLemmas.{notation_variant, notation_other}
use Rattle.st_elab_rows.specs.Asking.{manner}
use Rattle.st_elab_rows.proofs.Builds.{leading_by}
use Rattle.st_elab_exp.proofs.record_row.notation_row.Goals as goal

pub returns-in-Some : goal.returns-in-Some
returns-in-Some g c =
    let x = c.args.context.now in
    let part = c.args.part.now in
    leading_by _ _ _ _ _ _ (λ a h. notation_variant x.decls.now x.scope.now x.within.now part.at (manner part) part.exp.now c.args.ty.now c.args.meaning.now c.in-Some.field-0.now a
    c.in-Some.ensures.some h) c.variant_row.ensures

pub returns-in-None : goal.returns-in-None
returns-in-None g c =
    let x = c.args.context.now in
    let part = c.args.part.now in
    leading_by _ _ _ _ _ _ (λ a h. notation_other x.decls.now x.scope.now x.within.now part.at (manner part) part.exp.now c.args.ty.now c.args.meaning.now a
    c.in-None.ensures.none h) c.other_row.ensures
