-- Numbers that are found, in the words of the table.
use Rattle.std.specs.Prelude.{Result}
use Rattle.st_il.specs.declared.ty.NumTy.{NumTy}
use Rattle.st_il.specs.declared.expression.IlExp.{IlExp}
use Rattle.st_num.specs.declared.fault.Fault.{Fault as ExpFault}
use Rattle.st_elab_table.specs.Questions.{Made, Answer, Fails, Step}
use Rattle.st_elab_table.specs.Elaboration.{Leads}
use Rattle.st_il.specs.declared.ty.Ty.{Ty}
use Rattle.st_elab_table.specs.Steps.{made}
use Rattle.st_elab_rows.specs.declared.asking.Context.{Context}
use Rattle.st_elab_rows.specs.declared.number.Numeric.{Numeric}
use Rattle.st_elab_rows.specs.declared.number.BothNumeric.{BothNumeric}
use Rattle.st_elab_rows.specs.Told.{Told}

-- Where a number is found, the steps lead where those behind it lead, with this expression of
-- some type; a breach is theirs.
abbrev pub IsNumeric : Context → ((Made → NumTy → Step) → Step) → Result Numeric ExpFault → Type 0
IsNumeric x steps r =
    Told (λ n. (t : Ty) × ((next : Made → NumTy → Step) (a : Answer)
    → Leads x.decls.now x.scope.now (next (made n.exp t) n.number) a
    → Leads x.decls.now x.scope.now (steps next) a))
    (λ b. (next : Made → NumTy → Step) → Leads x.decls.now x.scope.now (steps next) (Fails b)) r

-- the same of two numbers of one type
abbrev pub AreNumeric : Context → ((NumTy → IlExp → IlExp → Step) → Step)
    → Result BothNumeric ExpFault → Type 0
AreNumeric x steps r =
    Told (λ n. (next : NumTy → IlExp → IlExp → Step) (a : Answer)
    → Leads x.decls.now x.scope.now (next n.number n.left n.right) a
    → Leads x.decls.now x.scope.now (steps next) a)
    (λ b. (next : NumTy → IlExp → IlExp → Step)
    → Leads x.decls.now x.scope.now (steps next) (Fails b)) r
