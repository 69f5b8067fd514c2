use Rattle.std.proofs.Common.{sym, subst, ◌∙◌}
use Rattle.st_elab_table.specs.Collections.{body_row}
use Rattle.st_elab_rows.specs.Asking.{manner, LeadsTo}
use Rattle.st_elab_rows.proofs.Builds.{leading_by}
use Rattle.st_elab_exp.proofs.Turning.{turn_list, turn_option, element_of_list, element_of_option, turn_other}
use Rattle.st_elab_exp.proofs.turn.iteration_row.Goals as goal

pub returns-then-goes_over_list : goal.returns-then-goes_over_list
returns-then-goes_over_list g c =
    let x = c.args.context.now in
    let part = c.args.part.now in
    leading_by _ _ _ _ _ _ (λ a h. turn_list x.decls.now x.scope.now x.within.now part.at (manner part) part.exp.now c.args.body.now c.args.count.now c.args.ty.now c.args.meaning.now c.in-List.of a
    c.in-List.is (sym c.goes_over_list.ensures ∙ c.if-goes_over_list.true) h)
    (subst (λ z. LeadsTo x (body_row x.scope.now x.within.now c.args.body.now c.args.count.now z c.args.ty.now) c.body_row.result) c.get.ensures c.body_row.ensures)

pub returns-else-goes_over_list : goal.returns-else-goes_over_list
returns-else-goes_over_list g c =
    let x = c.args.context.now in
    let part = c.args.part.now in
    leading_by _ _ _ _ _ _ (λ a h. element_of_list x.decls.now x.scope.now x.within.now part.at (manner part) part.exp.now c.args.body.now c.args.count.now c.args.ty.now c.args.meaning.now c.in-List.of a
    c.in-List.is (sym c.goes_over_list.ensures ∙ c.if-goes_over_list.false) h) c.other_row.ensures

pub returns-then-goes_over_list-2 : goal.returns-then-goes_over_list-2
returns-then-goes_over_list-2 g c =
    let x = c.args.context.now in
    let part = c.args.part.now in
    leading_by _ _ _ _ _ _ (λ a h. element_of_option x.decls.now x.scope.now x.within.now part.at (manner part) part.exp.now c.args.body.now c.args.count.now c.args.ty.now c.args.meaning.now c.in-Opt.of a
    c.in-Opt.is (sym c.goes_over_list-in-Opt.ensures ∙ c.if-goes_over_list-2.true) h) c.other_row-then-goes_over_list-2.ensures

pub returns-else-goes_over_list-2 : goal.returns-else-goes_over_list-2
returns-else-goes_over_list-2 g c =
    let x = c.args.context.now in
    let part = c.args.part.now in
    leading_by _ _ _ _ _ _ (λ a h. turn_option x.decls.now x.scope.now x.within.now part.at (manner part) part.exp.now c.args.body.now c.args.count.now c.args.ty.now c.args.meaning.now c.in-Opt.of a
    c.in-Opt.is (sym c.goes_over_list-in-Opt.ensures ∙ c.if-goes_over_list-2.false) h)
    (subst (λ z. LeadsTo x (body_row x.scope.now x.within.now c.args.body.now c.args.count.now z c.args.ty.now) c.body_row-in-Opt.result) c.get-in-Opt.ensures c.body_row-in-Opt.ensures)

pub returns-in_default : goal.returns-in_default
returns-in_default g c =
    let x = c.args.context.now in
    let part = c.args.part.now in
    leading_by _ _ _ _ _ _ (λ a h. turn_other x.decls.now x.scope.now x.within.now part.at (manner part) part.exp.now c.args.body.now c.args.count.now c.args.ty.now c.args.meaning.now a
    c.in_default.not-List c.in_default.not-Opt h) c.other_row-in_default.ensures
