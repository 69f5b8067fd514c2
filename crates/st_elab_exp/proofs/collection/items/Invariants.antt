use Rattle.std.proofs.Common.{drop, map}
use Rattle.st_il.specs.declared.expression.ListItem.{ListItem}
use Rattle.st_elab_table.specs.Questions.{item}
use Rattle.st_elab_table.specs.Collections.{item_of}
use Rattle.st_elab_rows.specs.inner.Continuing.{Continues}
use Rattle.st_elab_exp.proofs.collection.items.Given as goal

abbrev pub invariant-loop-part : goal.invariant-loop-part
invariant-loop-part g l =
    Continues l.context.decls.now l.context.scope.now (map (item l.context.within.now l.ty l.element) l.parts)
    (map (item l.context.within.now l.ty l.element) (drop l.part-index l.parts)) ListItem item_of l.all
