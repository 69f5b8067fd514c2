use Rattle.std.proofs.Common.{sym, subst, ◌∙◌}
use Rattle.st_elab_table.specs.Collections.{sequence}
use Rattle.st_elab_rows.specs.Asking.{manner, LeadsTo}
use Rattle.st_elab_rows.proofs.Builds.{leading_by}
use Rattle.st_elab_exp.proofs.Checking.{run_at_list, element_at_list, notation_at}
use Rattle.st_elab_exp.proofs.checked.sequence_at.Goals as goal

pub returns-then-is_run : goal.returns-then-is_run
returns-then-is_run g c =
    let x = c.args.context.now in
    let part = c.args.part.now in
    leading_by _ _ _ _ _ _ (λ a h. run_at_list x.decls.now x.scope.now x.within.now part.at (manner part) part.exp.now c.args.parts.now c.args.ty.now c.args.meaning.now c.in-List.of a
    c.in-List.is (sym c.is_run.ensures ∙ c.if-is_run.true) h)
    (subst (λ z. LeadsTo x (sequence x.within.now part.at c.args.parts.now c.args.ty.now z) c.sequence.result) c.get.ensures c.sequence.ensures)

pub returns-else-is_run : goal.returns-else-is_run
returns-else-is_run g c =
    let x = c.args.context.now in
    let part = c.args.part.now in
    leading_by _ _ _ _ _ _ (λ a h. element_at_list x.decls.now x.scope.now x.within.now part.at (manner part) part.exp.now c.args.parts.now c.args.ty.now c.args.meaning.now c.in-List.of a
    c.in-List.is (sym c.is_run.ensures ∙ c.if-is_run.false) h) c.other_row.ensures

pub returns-in_default : goal.returns-in_default
returns-in_default g c =
    let x = c.args.context.now in
    let part = c.args.part.now in
    leading_by _ _ _ _ _ _ (λ a h. notation_at x.decls.now x.scope.now x.within.now part.at (manner part) part.exp.now c.args.parts.now c.args.ty.now c.args.meaning.now a
    c.in_default.not-List h) c.notation_row.ensures
