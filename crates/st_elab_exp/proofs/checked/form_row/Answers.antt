use Rattle.std.proofs.Common.{sym, ap, ◌∙◌}
use Rattle.st_el.specs.declared.expression.Node.{out-Node}
use Rattle.st_el.specs.declared.expression.Node.TheVariants as node
use Rattle.st_elab_rows.specs.Asking.{manner}
use Rattle.st_elab_rows.proofs.Builds.{leading_by}
use Rattle.st_elab_exp.proofs.Checking.{form_arm, form_concatenation, form_binary, form_other}
use Rattle.st_elab_exp.proofs.checked.form_row.Goals as goal

pub returns-in-Eps : goal.returns-in-Eps
returns-in-Eps g c =
    form_arm c.args.context.now c.args.part.now c.args.ty.now c.args.meaning.now c.args.node.now _ _ (ap out-Node c.in-Eps.is ∙ node.outs-Eps) c.eps_row.ensures

pub returns-in-Iter : goal.returns-in-Iter
returns-in-Iter g c =
    form_arm c.args.context.now c.args.part.now c.args.ty.now c.args.meaning.now c.args.node.now _ _ (ap out-Node (c.in-Iter.is ∙ (λ k. node.Iter (sym c.get-in-Iter.ensures k) c.in-Iter.count)) ∙ node.outs-Iter _ _) c.iteration_row.ensures

pub returns-in-Seq : goal.returns-in-Seq
returns-in-Seq g c =
    form_arm c.args.context.now c.args.part.now c.args.ty.now c.args.meaning.now c.args.node.now _ _ (ap out-Node (c.in-Seq.is ∙ (λ k. node.Seq (sym c.as_slice.ensures k))) ∙ node.outs-Seq _) c.sequence_at.ensures

pub returns-in-Fields : goal.returns-in-Fields
returns-in-Fields g c =
    form_arm c.args.context.now c.args.part.now c.args.ty.now c.args.meaning.now c.args.node.now _ _ (ap out-Node (c.in-Fields.is ∙ (λ k. node.Fields (sym c.as_slice-in-Fields.ensures k))) ∙ node.outs-Fields _) c.record_row.ensures

pub returns-in-Atom : goal.returns-in-Atom
returns-in-Atom g c =
    form_arm c.args.context.now c.args.part.now c.args.ty.now c.args.meaning.now c.args.node.now _ _ (ap out-Node c.in-Atom.is ∙ node.outs-Atom _) c.notation_row.ensures

pub returns-in-Infix : goal.returns-in-Infix
returns-in-Infix g c =
    form_arm c.args.context.now c.args.part.now c.args.ty.now c.args.meaning.now c.args.node.now _ _ (ap out-Node c.in-Infix.is ∙ node.outs-Infix _ _ _) c.notation_row-in-Infix.ensures

pub returns-in-Bracket : goal.returns-in-Bracket
returns-in-Bracket g c =
    form_arm c.args.context.now c.args.part.now c.args.ty.now c.args.meaning.now c.args.node.now _ _ (ap out-Node c.in-Bracket.is ∙ node.outs-Bracket _ _) c.notation_row-in-Bracket.ensures

pub returns-in_default : goal.returns-in_default
returns-in_default g c =
    let x = c.args.context.now in
    let part = c.args.part.now in
    leading_by _ _ _ _ _ _ (λ a h. form_other x.decls.now x.scope.now x.within.now part.at (manner part) part.exp.now c.args.ty.now c.args.meaning.now c.args.node.now a
    c.in_default.not-Eps c.in_default.not-Binary c.in_default.not-Iter c.in_default.not-Seq c.in_default.not-Fields c.in_default.not-Atom c.in_default.not-Infix c.in_default.not-Bracket h)
    c.other_row-in_default.ensures

pub returns-in-Concatenation : goal.returns-in-Concatenation
returns-in-Concatenation g c =
    let x = c.args.context.now in
    let part = c.args.part.now in
    leading_by _ _ _ _ _ _ (λ a h. form_concatenation x.decls.now x.scope.now x.within.now part.at (manner part) part.exp.now _ _ c.in-Binary.sign c.args.ty.now c.args.meaning.now c.args.node.now a
    (c.in-Binary.is ∙ (λ k. node.Binary (sym c.get.ensures k) c.in-Binary.sign (sym c.get-in-Concatenation.ensures k)))
    (sym c.operator_of.ensures ∙ c.in-Concatenation.is) h) c.concatenation_row.ensures

pub returns-in_default-operator_of : goal.returns-in_default-operator_of
returns-in_default-operator_of g c =
    let x = c.args.context.now in
    let part = c.args.part.now in
    leading_by _ _ _ _ _ _ (λ a h. form_binary x.decls.now x.scope.now x.within.now part.at (manner part) part.exp.now _ _ c.in-Binary.sign c.args.ty.now c.args.meaning.now c.args.node.now a
    c.in-Binary.is (λ e. c.in_default-operator_of.not-Concatenation (c.operator_of.ensures ∙ e)) h) c.other_row.ensures
