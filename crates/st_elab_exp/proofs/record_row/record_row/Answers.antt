use Rattle.st_elab_rows.specs.Asking.{manner}
use Rattle.st_elab_rows.proofs.Builds.{leading_by}
use Rattle.st_elab_exp.proofs.Recording.{record_has, record_none, record_unnamed}
use Rattle.st_elab_exp.proofs.record_row.record_row.Goals as goal

pub returns-in-Some : goal.returns-in-Some
returns-in-Some g c =
    let x = c.args.context.now in
    let part = c.args.part.now in
    leading_by _ _ _ _ _ _ (λ a h. record_has x.decls.now x.scope.now x.within.now part.at (manner part) part.exp.now c.args.written.now c.args.ty.now c.args.meaning.now c.in-Name.name c.in-Some.fields.now a
    c.in-Name.is c.requires.means c.in-Some.ensures.some h) c.fields_of_record.ensures

pub returns-in-None : goal.returns-in-None
returns-in-None g c =
    let x = c.args.context.now in
    let part = c.args.part.now in
    leading_by _ _ _ _ _ _ (λ a h. record_none x.decls.now x.scope.now x.within.now part.at (manner part) part.exp.now c.args.written.now c.args.ty.now c.args.meaning.now a
    c.requires.means c.in-None.ensures.none h) c.other_row.ensures

pub returns-in_default : goal.returns-in_default
returns-in_default g c =
    let x = c.args.context.now in
    let part = c.args.part.now in
    leading_by _ _ _ _ _ _ (λ a h. record_unnamed x.decls.now x.scope.now x.within.now part.at (manner part) part.exp.now c.args.written.now c.args.ty.now c.args.meaning.now a
    c.in_default.not-Name h) c.other_row-in_default.ensures
