use Rattle.std.proofs.Common.{rules, sym, ◌∙◌}
use Rattle.st_il.specs.declared.expression.IlExp.TheVariants as il
use Rattle.st_elab_table.specs.Steps.{give}
use Rattle.st_elab_table.specs.Collections.{item_of}
use Rattle.st_elab_table.proofs.RowLemmas.{sequence_collection, sequence_plain}
use Rattle.st_elab_rows.proofs.Builds.{leading_by, leading_breaks, leads_asks, gives_made}
use Rattle.st_elab_exp.proofs.collection.sequence.Goals as goal

pub returns-then-is_collection : goal.returns-then-is_collection
returns-then-is_collection g c = sequence_collection _ _ c.args.context.now.within.now c.args.at c.args.parts.now c.args.ty.now c.args.element.now c.meaning.result.now
    c.meaning.ensures.means (sym c.is_collection.ensures ∙ c.if-is_collection.true)

pub returns-in_err-all : goal.returns-in_err-all
returns-in_err-all g c = leading_by _ _ _ _ _ _
    (λ a h. sequence_plain _ _ c.args.context.now.within.now c.args.at c.args.parts.now c.args.ty.now c.args.element.now c.meaning.result.now a
    c.meaning.ensures.means (sym c.is_collection.ensures ∙ c.if-is_collection.false) h)
    (leading_breaks _ _ _ _ _ _ c.items.result c.from_residual.result c.in_err-all.field-0.0 c.in_err-all.was (search rules) c.items.ensures)

pub returns : goal.returns
returns g c = sequence_plain _ _ c.args.context.now.within.now c.args.at c.args.parts.now c.args.ty.now c.args.element.now c.meaning.result.now _
    c.meaning.ensures.means (sym c.is_collection.ensures ∙ c.if-is_collection.false)
    (leads_asks _ _ _ item_of c.in_ok-all.all (λ items. give (il.List c.args.element.now items) c.args.ty.now) _ c.in_ok-all.ensures (gives_made _ _ _ _ _ (search rules)))
