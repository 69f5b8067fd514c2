use Rattle.std.proofs.Common.{drop}
use Rattle.st_il.specs.declared.expression.IlExp.{IlExp}
use Rattle.st_elab_table.specs.Steps.{exp_of, each_asked}
use Rattle.st_elab_rows.specs.inner.Continuing.{Continues}
use Rattle.st_elab_exp.proofs.inferred.arguments.Given as goal

abbrev pub invariant-loop-exp : goal.invariant-loop-exp
invariant-loop-exp g l =
    Continues l.context.decls.now l.context.scope.now (each_asked l.context.within.now l.exps l.tys)
    (each_asked l.context.within.now (drop l.exp-index l.exps) l.rest) IlExp exp_of l.all
