-- What the answers of calls say.
use Rattle.std.specs.Prelude.{List, Result, Ok, Err}
use Rattle.st_elab_table.specs.declared.decls.Decls.{Decls}
use Rattle.st_elab_table.specs.declared.decls.Scope.{Scope}
use Rattle.st_num.specs.declared.fault.Fault.{Fault as ExpFault}
use Rattle.st_num.specs.declared.fault.Fault.TheVariants as fault
use Rattle.st_elab_table.specs.Questions.{Question, Made, Breach, Gives, Fails, Step}
use Rattle.st_elab_table.specs.Elaboration.{Answered, Leads, Reached, Stopped}
use Rattle.st_elab_table.specs.Parts.{AskedAs, Breaks}

-- P holds of what is given and F of a breach; want of memory says nothing
abbrev pub Told : {A : Type 0} → (A → Type 0) → (Breach → Type 0) → Result A ExpFault → Type 0
Told P F (Ok x) = P x
Told P F (Err (fault.Refused at rule)) = F (record { at = at; rule = rule })
Told P F (Err fault.Memory) = Unit {0}

-- the result is the answer to a question
abbrev pub Tells : Decls → Scope → Question → {A : Type 0} → (A → Made) → Result A ExpFault → Type 0
Tells D S q f r = Told (λ x. Answered D S q (Gives (f x))) (λ b. Answered D S q (Fails b)) r

-- the steps lead to the result
abbrev pub Leading : Decls → Scope → Step → {A : Type 0} → (A → Made) → Result A ExpFault → Type 0
Leading D S s f r = Told (λ x. Leads D S s (Gives (f x))) (λ b. Leads D S s (Fails b)) r

-- Where something is found, the steps that go on with it lead where the steps behind it lead; a
-- breach is theirs whatever is behind.
abbrev pub Reaches : Decls → Scope → {X : Type 0} → ((X → Step) → Step) → {A : Type 0} → (A → X)
    → Result A ExpFault → Type 0
Reaches D S {X} steps f r =
    Told (λ x. Reached D S steps (f x)) (Stopped D S steps) r

-- the result is the parts of all answers, or the first breach
abbrev pub TellsAll : Decls → Scope → List Question → {A : Type 0} → (Made → A)
    → Result (List A) ExpFault → Type 0
TellsAll D S qs {A} part r = Told (λ xs. AskedAs D S qs A part xs) (λ b. Breaks D S qs b) r
