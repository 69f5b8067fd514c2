-- Several questions, as a loop of the code asks them one after another.
use Rattle.std.specs.Prelude.{◌≡◌, List, ◌++◌, Result}
use Rattle.st_num.specs.declared.fault.Fault.{Fault as ExpFault}
use Rattle.st_il.specs.declared.expression.ListItem.{ListItem}
use Rattle.st_elab_table.specs.declared.decls.Decls.{Decls}
use Rattle.st_elab_table.specs.declared.decls.Scope.{Scope}
use Rattle.st_elab_table.specs.Questions.{Question, Made, Breach, Gives, Fails, Step}
use Rattle.st_elab_table.specs.Collections.{item_of}
use Rattle.st_elab_table.specs.Elaboration.{Leads}
use Rattle.st_elab_rows.specs.declared.asking.Context.{Context}
use Rattle.st_elab_rows.specs.Told.{Told}
use Rattle.st_elab_table.specs.Parts.{AskedAs, Breaks}

-- what is found so far, with the answers to the questions that are left, answers all questions
pub record Continues (D : Decls) (S : Scope) (all left : List Question) (A : Type 0)
    (part : Made → A) (so_far : List A) : Type 0 where
  pub gives : (xs : List A) → AskedAs D S left A part xs → AskedAs D S all A part (so_far ++ xs)
  pub breaks : (b : Breach) → Breaks D S left b → Breaks D S all b

-- the steps lead to an answer, and this item of a list is made of it
abbrev pub IsItem : Context → Step → ListItem → Type 0
IsItem x s part = (m : Made) × Leads x.decls.now x.scope.now s (Gives m) × (item_of m ≡ part)

-- the steps lead to the item
abbrev pub LeadsToItem : Context → Step → Result ListItem ExpFault → Type 0
LeadsToItem x s r = Told (IsItem x s) (λ b. Leads x.decls.now x.scope.now s (Fails b)) r
