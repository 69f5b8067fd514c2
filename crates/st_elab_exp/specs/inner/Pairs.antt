-- Expressions with their types, as several questions are answered.
use Rattle.std.specs.Prelude.{◌≡◌, List, map, Result}
use Rattle.st_num.specs.declared.fault.Fault.{Fault as ExpFault}
use Rattle.st_elab_table.specs.Questions.{Question, Made}
use Rattle.st_elab_table.specs.Steps.{ty_of, exps}
use Rattle.st_elab_rows.specs.declared.asking.Context.{Context}
use Rattle.st_elab_exp.specs.declared.inferred.FoundAll.{FoundAll}
use Rattle.st_elab_rows.specs.Told.{Told}
use Rattle.st_elab_table.specs.Parts.{Asked, Breaks}

-- these are the expressions and the types of the answers to the questions
pub record AreFound (x : Context) (qs : List Question) (all : FoundAll) : Type 0 where
  pub mades : List Made
  pub asked : Asked x.decls.now x.scope.now qs mades
  pub exps-are : exps mades ≡ all.exps
  pub tys-are : map ty_of mades ≡ all.tys

-- the result is the expressions and types that the questions ask for, or their first breach
abbrev pub TellsPairs : Context → List Question → Result FoundAll ExpFault → Type 0
TellsPairs x qs r = Told (AreFound x qs) (λ b. Breaks x.decls.now x.scope.now qs b) r
