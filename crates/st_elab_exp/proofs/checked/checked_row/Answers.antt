use Rattle.std.proofs.Common.{sym, ap, ◌∙◌}
use Rattle.st_el.specs.declared.expression.Node.{out-Node}
use Rattle.st_el.specs.declared.expression.Node.TheVariants as node
use Rattle.st_il.specs.declared.ty.Ty.{out-Ty}
use Rattle.st_elab_table.specs.Checked.{tuple_at, checked_row}
use Rattle.st_elab_rows.specs.Asking.{manner}
use Rattle.st_elab_rows.proofs.Builds.{leading_by, leading_is, leading_opens, pass_reach}
use Rattle.st_elab_exp.proofs.Checking.{checked_plain}
use Rattle.st_elab_exp.proofs.checked.checked_row.Goals as goal

pub returns-in_default : goal.returns-in_default
returns-in_default g c =
    let x = c.args.context.now in
    let part = c.args.part.now in
    leading_by _ _ _ _ _ _ (λ a h. checked_plain x.decls.now x.scope.now x.within.now part.at (manner part) part.exp.now c.args.ty.now part.exp.now.node a
    c.in_default.not-Paren c.in_default.not-Tuple h) c.plain_row.ensures

pub returns-in-Paren : goal.returns-in-Paren
returns-in-Paren g c =
    let x = c.args.context.now in
    let part = c.args.part.now in
    leading_is _ _ _ _ _ _ (ap (checked_row x.decls.now x.scope.now x.within.now part.at (manner part) part.exp.now c.args.ty.now)
    (ap out-Node (c.in-Paren.is ∙ (λ k. node.Paren (sym c.get.ensures k))) ∙ node.outs-Paren _)) (pass_reach _ _ _ _ _ c.asked_at.ensures)

pub returns-in-Tuple : goal.returns-in-Tuple
returns-in-Tuple g c =
    let x = c.args.context.now in
    let part = c.args.part.now in
    leading_is _ _ _ _ _ _ (ap (checked_row x.decls.now x.scope.now x.within.now part.at (manner part) part.exp.now c.args.ty.now)
    (ap out-Node (c.in-Tuple.is ∙ (λ k. node.Tuple (sym c.as_slice.ensures k))) ∙ node.outs-Tuple _))
    (leading_opens x.decls.now x.scope.now c.args.ty.now c.meaning-meaning.result.now
    (λ u. tuple_at x.decls.now x.scope.now x.within.now part.at (manner part) part.exp.now c.as_slice.result.now c.args.ty.now (out-Ty u)) _ _
    c.meaning-meaning.ensures.means c.tuple_at.ensures)
