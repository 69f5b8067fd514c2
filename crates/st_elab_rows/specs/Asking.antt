-- Questions of the code, in the words of the table.
use Rattle.std.specs.Prelude.{Result}
use Rattle.std.specs.Borrow.{Bor}
use Rattle.st_dims.specs.declared.within.Within.{Within}
use Rattle.st_num.specs.declared.fault.Fault.{Fault as ExpFault}
use Rattle.st_elab_table.specs.Questions.{Manner, Question, check, infer, Made, Step}
use Rattle.st_elab_table.specs.Steps.{made}
use Rattle.st_elab_rows.specs.declared.asking.Found.{Found}
use Rattle.st_elab_rows.specs.declared.asking.Part.{Part}
use Rattle.st_elab_rows.specs.declared.asking.Asking.{Asking}
use Rattle.st_elab_rows.specs.declared.asking.Asking.TheVariants as asking
use Rattle.st_elab_rows.specs.declared.asking.Context.{Context}
use Rattle.st_elab_rows.specs.Told.{Tells, Leading, Reaches}

-- what the code finds, as what a part is made to: an expression of a type, not spliced
abbrev pub made_by : Found → Made
made_by found = made found.exp found.ty

-- how the part is asked
abbrev pub manner : Part → Manner
manner part = record { in_parentheses = part.in_parentheses; passed = part.passed.now }

-- the question, inside of this
abbrev pub question : Within → Asking → Question
question w (asking.Check part t) = check w part.at (manner part) part.exp.now t.now
question w (asking.Infer at e) = infer w at e.now

-- the result is the answer of the table to the question in this context
abbrev pub IsAnswer : Context → Asking → Result Found ExpFault → Type 0
IsAnswer x a r = Tells x.decls.now x.scope.now (question x.within.now a) made_by r

-- whatever is asked, in whatever context, is answered as the table says
abbrev pub AnswersAll : (Bor Context → Bor Asking → Result Found ExpFault → Type 0) → Type 0
AnswersAll post =
    (x : Bor Context) (a : Bor Asking) (r : Result Found ExpFault) → post x a r
    → IsAnswer x.now a.now r

-- the steps lead to the result
abbrev pub LeadsTo : Context → Step → Result Found ExpFault → Type 0
LeadsTo x s r = Leading x.decls.now x.scope.now s made_by r

-- what follows from the answer to the question leads to the result
abbrev pub Meets : Context → ((Made → Step) → Step) → Result Found ExpFault → Type 0
Meets x steps r = Reaches x.decls.now x.scope.now steps made_by r
