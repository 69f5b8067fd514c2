use Rattle.std.proofs.Common.{sym, ap, subst, ◌∙◌}
use Rattle.st_el.specs.declared.expression.Node.{out-Node}
use Rattle.st_el.specs.declared.expression.Node.TheVariants as node
use Rattle.st_elab_table.specs.Inferred.{inferred_at}
use Rattle.st_elab_rows.specs.Asking.{LeadsTo}
use Rattle.st_elab_rows.proofs.Builds.{pass_reach}
use Rattle.st_elab_exp.proofs.Inferring.{inferred_arm, notation_untyped, bracket_untyped}
use Rattle.st_elab_exp.proofs.inferred.inferred_at.Goals as goal

pub returns-in-Name : goal.returns-in-Name
returns-in-Name g c =
    inferred_arm c.args.context.now c.args.at c.args.node.now _ _ (ap out-Node c.in-Name.is ∙ node.outs-Name _) c.variable_row.ensures

pub returns-in-Bool : goal.returns-in-Bool
returns-in-Bool g c =
    inferred_arm c.args.context.now c.args.at c.args.node.now _ _ (ap out-Node c.in-Bool.is ∙ node.outs-Bool _) c.bool_row.ensures

pub returns-in-Number : goal.returns-in-Number
returns-in-Number g c =
    inferred_arm c.args.context.now c.args.at c.args.node.now _ _ (ap out-Node c.in-Number.is ∙ node.outs-Number _) c.number_row.ensures

pub returns-in-Text : goal.returns-in-Text
returns-in-Text g c =
    inferred_arm c.args.context.now c.args.at c.args.node.now _ _ (ap out-Node c.in-Text.is ∙ node.outs-Text _) c.text_row.ensures

pub returns-in-Binary : goal.returns-in-Binary
returns-in-Binary g c =
    inferred_arm c.args.context.now c.args.at c.args.node.now _ _ (ap out-Node (c.in-Binary.is ∙ (λ k. node.Binary (sym c.get.ensures k) c.in-Binary.sign (sym c.get-in-Binary.ensures k))) ∙ node.outs-Binary _ _ _) c.binary_row.ensures

pub returns-in-Not : goal.returns-in-Not
returns-in-Not g c =
    inferred_arm c.args.context.now c.args.at c.args.node.now _ _ (ap out-Node (c.in-Not.is ∙ (λ k. node.Not (sym c.get-in-Not.ensures k))) ∙ node.outs-Not _) c.not_row.ensures

pub returns-in-Neg : goal.returns-in-Neg
returns-in-Neg g c =
    inferred_arm c.args.context.now c.args.at c.args.node.now _ _ (ap out-Node (c.in-Neg.is ∙ (λ k. node.Neg (sym c.get-in-Neg.ensures k))) ∙ node.outs-Neg _) c.negation_row.ensures

pub returns-in-Arith : goal.returns-in-Arith
returns-in-Arith g c =
    inferred_arm c.args.context.now c.args.at c.args.node.now _ _ (ap out-Node (c.in-Arith.is ∙ (λ k. node.Arith (sym c.get-in-Arith.ensures k))) ∙ node.outs-Arith _) (pass_reach _ _ _ _ _ c.found.ensures)

pub returns-in-Paren : goal.returns-in-Paren
returns-in-Paren g c =
    inferred_arm c.args.context.now c.args.at c.args.node.now _ _ (ap out-Node (c.in-Paren.is ∙ (λ k. node.Paren (sym c.get-in-Paren.ensures k))) ∙ node.outs-Paren _) (pass_reach _ _ _ _ _ c.found_at.ensures)

pub returns-in-Tuple : goal.returns-in-Tuple
returns-in-Tuple g c =
    inferred_arm c.args.context.now c.args.at c.args.node.now _ _ (ap out-Node (c.in-Tuple.is ∙ (λ k. node.Tuple (sym c.as_slice.ensures k))) ∙ node.outs-Tuple _) c.tuple_row.ensures

pub returns-in-Dot : goal.returns-in-Dot
returns-in-Dot g c =
    inferred_arm c.args.context.now c.args.at c.args.node.now _ _ (ap out-Node (c.in-Dot.is ∙ (λ k. node.Dot (sym c.get-in-Dot.ensures k) c.in-Dot.name)) ∙ node.outs-Dot _ _) c.field_row.ensures

pub returns-in-At : goal.returns-in-At
returns-in-At g c =
    inferred_arm c.args.context.now c.args.at c.args.node.now _ _ (ap out-Node (c.in-At.is ∙ (λ k. node.At (sym c.get-in-At.ensures k) (sym c.get-in-At-2.ensures k))) ∙ node.outs-At _ _) c.position_row.ensures

pub returns-in-Slice : goal.returns-in-Slice
returns-in-Slice g c =
    inferred_arm c.args.context.now c.args.at c.args.node.now _ _ (ap out-Node (c.in-Slice.is ∙ (λ k. node.Slice (sym c.get-in-Slice.ensures k) (sym c.get-in-Slice-2.ensures k) (sym c.get-in-Slice-3.ensures k))) ∙ node.outs-Slice _ _ _) c.slice_row.ensures

pub returns-in-Update : goal.returns-in-Update
returns-in-Update g c =
    inferred_arm c.args.context.now c.args.at c.args.node.now _ _ (ap out-Node (c.in-Update.is ∙ (λ k. node.Update (sym c.get-in-Update.ensures k) (sym c.as_slice-path.ensures k) (sym c.get-in-Update-2.ensures k))) ∙ node.outs-Update _ _ _) c.update_row.ensures

pub returns-in-Extend : goal.returns-in-Extend
returns-in-Extend g c =
    inferred_arm c.args.context.now c.args.at c.args.node.now _ _ (ap out-Node (c.in-Extend.is ∙ (λ k. node.Extend (sym c.get-in-Extend.ensures k) (sym c.as_slice-path-in-Extend.ensures k) (sym c.get-in-Extend-2.ensures k))) ∙ node.outs-Extend _ _ _) c.extension_row.ensures

pub returns-in-Len : goal.returns-in-Len
returns-in-Len g c =
    inferred_arm c.args.context.now c.args.at c.args.node.now _ _ (ap out-Node (c.in-Len.is ∙ (λ k. node.Len (sym c.get-in-Len.ensures k))) ∙ node.outs-Len _) c.length_row.ensures

pub returns-in-Call : goal.returns-in-Call
returns-in-Call g c =
    inferred_arm c.args.context.now c.args.at c.args.node.now _ _ (ap out-Node (c.in-Call.is ∙ (λ k. node.Call c.in-Call.name (sym c.as_slice-in-Call.ensures k))) ∙ node.outs-Call _ _) c.call_row.ensures

pub returns-in-Iter : goal.returns-in-Iter
returns-in-Iter g c =
    inferred_arm c.args.context.now c.args.at c.args.node.now _ _ (ap out-Node (c.in-Iter.is ∙ (λ k. node.Iter (sym c.get-in-Iter.ensures k) c.in-Iter.count)) ∙ node.outs-Iter _ _) c.inferred_iteration.ensures

pub returns-in-Atom : goal.returns-in-Atom
returns-in-Atom g c =
    let x = c.args.context.now in
    subst (LeadsTo x (inferred_at x.decls.now x.scope.now x.within.now c.args.at (out-Node c.args.node.now))) (sym c.untyped-in-Atom.ensures)
    (notation_untyped x.decls.now x.scope.now x.within.now c.args.at c.args.node.now c.in-Atom.is)

pub returns-in-Bracket : goal.returns-in-Bracket
returns-in-Bracket g c =
    let x = c.args.context.now in
    subst (LeadsTo x (inferred_at x.decls.now x.scope.now x.within.now c.args.at (out-Node c.args.node.now))) (sym c.untyped.ensures)
    (bracket_untyped x.decls.now x.scope.now x.within.now c.args.at c.args.node.now c.in-Bracket.is)
