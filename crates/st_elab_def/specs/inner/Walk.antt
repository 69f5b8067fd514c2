-- What one definition is asked, and what a walk through a source says of it.
use Rattle.std.specs.Prelude.{◌⊎◌, ℕ, List, [], ◌∷◌, map, Result, Ok, Err}
use Rattle.st_num.specs.declared.fault.Fault.{Fault}
use Rattle.st_num.specs.declared.fault.Fault.TheVariants as fault
use Rattle.st_el.specs.declared.definition.Def.{Def}
use Rattle.st_elab_table.specs.declared.decls.Decls.{Decls}
use Rattle.st_elab_table.specs.Questions.{Breach as PartBreach}
use Rattle.st_elab_rows.specs.Told.{Told}
use Rattle.st_elab_def.specs.declared.breach.DefFault.{DefFault}
use Rattle.st_elab_def.specs.declared.breach.DefFault.TheVariants as def_fault
use Rattle.st_elab_def.specs.Definitions.{Definition}
use Rattle.st_elab_def.specs.Phases.{Placed, Question, of_definition}
use Rattle.st_elab_def.specs.Breaches.{Passes, Fails, AllPass, FirstBreach}
use Rattle.st_elab_def.specs.Answers.{Told as ToldOfAll}

-- a definition between those before it and those behind it
abbrev pub standing : List Def → Def → List Def → Definition
standing before def behind = record { before = before; def = def; behind = behind }

-- ---- the parts of one definition

-- whatever is asked at these places is as it should be
abbrev pub AllPassAt : Decls → List Placed → Type 0
AllPassAt D [] = Unit {0}
AllPassAt D (p ∷ ps) = Passes D p.asked × AllPassAt D ps

-- what is asked at one of these places has this breach, and what is asked before it is as it should
-- be
abbrev pub FirstBreachAt : Decls → List Placed → PartBreach → Type 0
FirstBreachAt D [] b = ⊥
FirstBreachAt D (p ∷ ps) b =
    Fails D p.at p.asked b ⊎ (Passes D p.asked × FirstBreachAt D ps b)

-- The result says whether these are as they should be, and which is the first that is not.
abbrev pub Checks : Decls → List Placed → {A : Type 0} → Result A Fault → Type 0
Checks D ps r = Told (λ x. AllPassAt D ps) (λ b. FirstBreachAt D ps b) r

-- ---- the questions of a phase

-- what a phase asks of a definition
abbrev pub asked_of : (Definition → List Placed) → Definition → List Question
asked_of on d = map (of_definition d) (on d)

-- The result says whether all that is asked is as it should be, and which is the first breach.
abbrev pub ChecksAll : Decls → List Question → {A : Type 0} → Result A DefFault → Type 0
ChecksAll D qs r = ToldOfAll (λ x. AllPass D qs) (λ b. FirstBreach D qs b) r

-- ---- a definition with its number

-- the result for a definition of this number
abbrev pub numbered : {A : Type 0} → ℕ → Result A Fault → Result A DefFault
numbered number (Ok x) = Ok x
numbered number (Err (fault.Refused at rule)) =
    Err (def_fault.Refused (record { definition = number; at = at; rule = rule }))
numbered number (Err fault.Memory) = Err def_fault.Memory
