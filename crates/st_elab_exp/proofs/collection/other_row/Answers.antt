use Rattle.std.proofs.Common.{subst}
use Rattle.st_elab_table.specs.Collections.{element}
use Rattle.st_elab_rows.specs.Asking.{manner, LeadsTo}
use Rattle.st_elab_rows.specs.inner.Words.{lift_of}
use Rattle.st_elab_rows.specs.declared.fitting.Lifting.TheVariants as lifting
use Rattle.st_elab_rows.proofs.Builds.{leading_by}
use Rattle.st_elab_exp.proofs.Collecting.{other_list, other_option, other_fails}
use Rattle.st_elab_exp.proofs.collection.other_row.Goals as goal

pub returns-in-List : goal.returns-in-List
returns-in-List g c =
    let x = c.args.context.now in
    let part = c.args.part.now in
    leading_by _ _ _ _ _ _
    (λ a h. other_list _ _ x.within.now part.at (manner part) part.exp.now c.args.ty.now c.args.meaning.now c.in-List.of a c.in-List.is h)
    (subst (λ z. LeadsTo x (element x.within.now part.at (manner part) part.exp.now c.args.ty.now z (lift_of lifting.List z)) c.element.result) c.get.ensures c.element.ensures)

pub returns-in-Opt : goal.returns-in-Opt
returns-in-Opt g c =
    let x = c.args.context.now in
    let part = c.args.part.now in
    leading_by _ _ _ _ _ _
    (λ a h. other_option _ _ x.within.now part.at (manner part) part.exp.now c.args.ty.now c.args.meaning.now c.in-Opt.of a c.in-Opt.is h)
    (subst (λ z. LeadsTo x (element x.within.now part.at (manner part) part.exp.now c.args.ty.now z (lift_of lifting.Option z)) c.element-in-Opt.result) c.get-in-Opt.ensures c.element-in-Opt.ensures)

pub returns-in_default : goal.returns-in_default
returns-in_default g c =
    let x = c.args.context.now in
    let part = c.args.part.now in
    other_fails _ _ x.within.now part.at (manner part) part.exp.now c.args.ty.now c.args.meaning.now c.in_default.not-List c.in_default.not-Opt
