use Rattle.std.proofs.Common.{sym, ◌∙◌}
use Rattle.st_elab_rows.proofs.Builds.{leading_by}
use Rattle.st_elab_rows.proofs.Members.{membership_list, membership_element, membership_fails}
use Rattle.st_elab_rows.proofs.operand.membership_row.Goals as goal

pub returns-then-inferable : goal.returns-then-inferable
returns-then-inferable g c = leading_by _ _ _ _ _ _
    (λ a h. membership_list _ _ c.args.context.now.within.now c.args.at c.args.element.now c.args.list.now a (sym c.inferable.ensures ∙ c.if-inferable.true) h)
    c.member_of_found.ensures

pub returns-then-inferable-2 : goal.returns-then-inferable-2
returns-then-inferable-2 g c = leading_by _ _ _ _ _ _
    (λ a h. membership_element _ _ c.args.context.now.within.now c.args.at c.args.element.now c.args.list.now a
    (sym c.inferable.ensures ∙ c.if-inferable.false) (sym c.inferable-2.ensures ∙ c.if-inferable-2.true) h)
    c.found_member.ensures

pub returns : goal.returns
returns g c = membership_fails _ _ c.args.context.now.within.now c.args.at c.args.element.now c.args.list.now
    (sym c.inferable.ensures ∙ c.if-inferable.false) (sym c.inferable-2.ensures ∙ c.if-inferable-2.false)
