-- Steps of paths that are found, in the words of the table.
use Rattle.std.specs.Prelude.{List, Result}
use Rattle.st_il.specs.declared.ty.Ty.{Ty}
use Rattle.st_il.specs.declared.expression.PathSeg.{PathSeg}
use Rattle.st_num.specs.declared.fault.Fault.{Fault as ExpFault}
use Rattle.st_elab_table.specs.Questions.{Answer, Fails, Step}
use Rattle.st_elab_table.specs.Elaboration.{Leads}
use Rattle.st_elab_rows.specs.declared.asking.Context.{Context}
use Rattle.st_elab_rows.specs.declared.path.Stepped.{Stepped}
use Rattle.st_elab_rows.specs.declared.path.Walked.{Walked}
use Rattle.st_elab_rows.specs.Told.{Told}

-- Where a step is found, the steps lead where those behind it lead; a breach is theirs whatever
-- is behind.
abbrev pub Steps : Context → ((PathSeg → Ty → Step) → Step) → Result Stepped ExpFault → Type 0
Steps x steps r =
    Told (λ s. (next : PathSeg → Ty → Step) (a : Answer)
    → Leads x.decls.now x.scope.now (next s.step s.ty) a
    → Leads x.decls.now x.scope.now (steps next) a)
    (λ b. (next : PathSeg → Ty → Step) → Leads x.decls.now x.scope.now (steps next) (Fails b)) r

-- Where a whole path is found, the steps lead where those behind it lead; a breach is theirs
-- whatever stands behind.
abbrev pub Walks : Context → ((List PathSeg → Ty → Step) → Step) → Result Walked ExpFault → Type 0
Walks x steps r =
    Told (λ s. (next : List PathSeg → Ty → Step) (a : Answer)
    → Leads x.decls.now x.scope.now (next s.path s.ty) a
    → Leads x.decls.now x.scope.now (steps next) a)
    (λ b. (next : List PathSeg → Ty → Step)
    → Leads x.decls.now x.scope.now (steps next) (Fails b)) r
