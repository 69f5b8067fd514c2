use Rattle.std.proofs.Common.{sym, ◌∙◌}
use Rattle.st_elab_table.proofs.RowLemmas.{equation_left, equation_right, equation_fails}
use Rattle.st_elab_rows.proofs.Builds.{leading_by}
use Rattle.st_elab_rows.proofs.operand.equation_row.Goals as goal

pub returns-then-inferable : goal.returns-then-inferable
returns-then-inferable g c = leading_by _ _ _ _ _ _
    (λ a h. equation_left _ _ c.args.context.now.within.now c.args.at c.args.sign c.args.left.now c.args.right.now a (sym c.inferable.ensures ∙ c.if-inferable.true) h)
    c.equation_from_left.ensures

pub returns-then-inferable-2 : goal.returns-then-inferable-2
returns-then-inferable-2 g c = leading_by _ _ _ _ _ _
    (λ a h. equation_right _ _ c.args.context.now.within.now c.args.at c.args.sign c.args.left.now c.args.right.now a
    (sym c.inferable.ensures ∙ c.if-inferable.false) (sym c.inferable-2.ensures ∙ c.if-inferable-2.true) h)
    c.equation_from_right.ensures

pub returns : goal.returns
returns g c = equation_fails _ _ c.args.context.now.within.now c.args.at c.args.sign c.args.left.now c.args.right.now
    (sym c.inferable.ensures ∙ c.if-inferable.false) (sym c.inferable-2.ensures ∙ c.if-inferable-2.false)
