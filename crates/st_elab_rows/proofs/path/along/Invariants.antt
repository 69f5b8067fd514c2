use Rattle.std.proofs.Common.{List, ◌++◌, drop}
use Rattle.st_il.specs.declared.ty.Ty.{Ty}
use Rattle.st_il.specs.declared.expression.PathSeg.{PathSeg}
use Rattle.st_elab_table.specs.Questions.{Answer, Step}
use Rattle.st_elab_table.specs.Paths.{along}
use Rattle.st_elab_table.specs.Elaboration.{Leads}
use Rattle.st_elab_rows.proofs.path.along.Given as goal

abbrev pub invariant-loop-seg : goal.invariant-loop-seg
invariant-loop-seg g l =
    (next : List PathSeg → Ty → Step) (a : Answer)
    → Leads l.context.decls.now l.context.scope.now (along l.context.decls.now l.context.within.now l.at (drop l.seg-index l.path) l.place (λ ps v. next (l.done ++ ps) v)) a
    → Leads l.context.decls.now l.context.scope.now (along l.context.decls.now l.context.within.now l.at l.path l.ty next) a
