use Rattle.std.proofs.Common.{sym, ap, subst, ◌∙◌}
use Rattle.st_num.specs.declared.rule.RuleId.TheVariants.{Y3}
use Rattle.st_elab_table.specs.Operands.{binary_row}
use Rattle.st_elab_table.specs.Questions.{Fails}
use Rattle.st_elab_table.specs.Elaboration.{Leads, ends}
use Rattle.st_elab_rows.proofs.Builds.{leading_is}
use Rattle.st_elab_exp.proofs.inferred.binary_row.Goals as goal

pub returns-in-Logic : goal.returns-in-Logic
returns-in-Logic g c =
    leading_is _ _ _ _ _ _ (ap (binary_row c.args.context.now.within.now c.args.at c.args.sign c.args.left.now c.args.right.now) (sym c.operator_of.ensures ∙ c.in-Logic.is)) c.logic_row.ensures

pub returns-in-Equation : goal.returns-in-Equation
returns-in-Equation g c =
    leading_is _ _ _ _ _ _ (ap (binary_row c.args.context.now.within.now c.args.at c.args.sign c.args.left.now c.args.right.now) (sym c.operator_of.ensures ∙ c.in-Equation.is)) c.equation_row.ensures

pub returns-in-Order : goal.returns-in-Order
returns-in-Order g c =
    leading_is _ _ _ _ _ _ (ap (binary_row c.args.context.now.within.now c.args.at c.args.sign c.args.left.now c.args.right.now) (sym c.operator_of.ensures ∙ c.in-Order.is)) c.order_row.ensures

pub returns-in-Membership : goal.returns-in-Membership
returns-in-Membership g c =
    leading_is _ _ _ _ _ _ (ap (binary_row c.args.context.now.within.now c.args.at c.args.sign c.args.left.now c.args.right.now) (sym c.operator_of.ensures ∙ c.in-Membership.is)) c.membership_row.ensures

pub returns-in-Concatenation : goal.returns-in-Concatenation
returns-in-Concatenation g c =
    leading_is _ _ _ _ _ _ (ap (binary_row c.args.context.now.within.now c.args.at c.args.sign c.args.left.now c.args.right.now) (sym c.operator_of.ensures ∙ c.in-Concatenation.is)) c.inferred_concatenation.ensures

pub returns-in-Arithmetic : goal.returns-in-Arithmetic
returns-in-Arithmetic g c =
    leading_is _ _ _ _ _ _ (ap (binary_row c.args.context.now.within.now c.args.at c.args.sign c.args.left.now c.args.right.now) (sym c.operator_of.ensures ∙ c.in-Arithmetic.is)) c.arithmetic_row.ensures

pub returns-in-Power : goal.returns-in-Power
returns-in-Power g c =
    leading_is _ _ _ _ _ _ (ap (binary_row c.args.context.now.within.now c.args.at c.args.sign c.args.left.now c.args.right.now) (sym c.operator_of.ensures ∙ c.in-Power.is)) c.power_row.ensures

pub returns-in-Other : goal.returns-in-Other
returns-in-Other g c =
    let x = c.args.context.now in
    subst (λ z. Leads x.decls.now x.scope.now (binary_row x.within.now c.args.at c.args.sign c.args.left.now c.args.right.now z) (Fails (record { at = c.args.at; rule = Y3 })))
    (sym (sym c.operator_of.ensures ∙ c.in-Other.is)) ends
