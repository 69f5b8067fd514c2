use Rattle.std.proofs.Common.{ap, subst, arith}
use Rattle.st_elab_table.specs.Collections.{sequence, run_row}
use Rattle.st_elab_rows.specs.Asking.{LeadsTo}
use Rattle.st_elab_rows.proofs.Builds.{leading_by, leading_is, pass_reach}
use Rattle.st_elab_exp.proofs.Collecting.{empty, only_one, run_list, run_fails}
use Rattle.st_elab_exp.proofs.collection.run_row.Goals as goal

pub returns-in-empty : goal.returns-in-empty
returns-in-empty g c =
    let x = c.args.context.now in
    leading_is _ _ _ _ _ _ (ap (λ z. run_row x.within.now c.args.at c.args.passed.now z c.args.ty.now) (empty c.args.parts.now (omega (arith, c.in-empty.len_below)))) c.absent.ensures

pub returns-in-len1 : goal.returns-in-len1
returns-in-len1 g c =
    let x = c.args.context.now in
    leading_is _ _ _ _ _ _ (ap (λ z. run_row x.within.now c.args.at c.args.passed.now z c.args.ty.now)
    (only_one c.args.parts.now c.one-item.result (omega (arith, c.in-len1.len_at_least)) (omega (arith, c.in-len1.len_below)) c.one-item.is)) (pass_reach _ _ _ _ _ c.asked_at.ensures)

pub returns-in-List : goal.returns-in-List
returns-in-List g c =
    let x = c.args.context.now in
    leading_by _ _ _ _ _ _ (λ a h. run_list x.decls.now x.scope.now x.within.now c.args.at c.args.passed.now c.args.parts.now c.args.ty.now c.meaning.result.now c.in-List.of a
    (omega (arith, c.in_default.len_at_least)) c.meaning.ensures.means c.in-List.is h)
    (subst (λ z. LeadsTo x (sequence x.within.now c.args.at c.args.parts.now c.args.ty.now z) c.sequence.result) c.get.ensures c.sequence.ensures)

pub returns-in_default-meaning : goal.returns-in_default-meaning
returns-in_default-meaning g c =
    let x = c.args.context.now in
    run_fails x.decls.now x.scope.now x.within.now c.args.at c.args.passed.now c.args.parts.now c.args.ty.now c.meaning.result.now
    (omega (arith, c.in_default.len_at_least)) c.meaning.ensures.means c.in_default-meaning.not-List
