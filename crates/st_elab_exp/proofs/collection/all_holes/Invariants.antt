use Rattle.std.proofs.Common.{drop}
use Rattle.st_il.specs.declared.expression.IlExp.{IlExp}
use Rattle.st_notation.specs.Fitted.{fillings}
use Rattle.st_elab_table.specs.Steps.{exp_of, holes_behind}
use Rattle.st_elab_rows.specs.inner.Continuing.{Continues}
use Rattle.st_elab_exp.proofs.collection.all_holes.Given as goal

abbrev pub invariant-loop-filling : goal.invariant-loop-filling
invariant-loop-filling g l =
    Continues l.context.decls.now l.context.scope.now (holes_behind l.context.within.now l.at l.passed (fillings l.filled) l.tys)
    (holes_behind l.context.within.now l.at l.passed (fillings (drop l.filling-index l.filled)) l.rest) IlExp exp_of l.all
