-- Elaboration: the answer to a question is what its row in the table leads to.
use Rattle.std.specs.Prelude.{List, []}
use Rattle.st_el.specs.declared.expression.Exp.{Exp}
use Rattle.st_il.specs.declared.ty.Ty.{Ty}
use Rattle.st_il.specs.declared.expression.IlExp.{IlExp}
use Rattle.st_type_table.specs.declared.entry.CaseDef.{CaseDef}
use Rattle.st_type_table.specs.Meaning.{Means}
use Rattle.st_type_table.specs.Cases.{HasCases}
use Rattle.st_type_table.specs.Same.{Same}
use Rattle.st_type_table.specs.Sub.{Sub}
use Rattle.st_type_table.specs.Joins.{Joins}
use Rattle.st_notation.specs.Elements.{opened}
use Rattle.st_elab_table.specs.declared.decls.Decls.{Decls}
use Rattle.st_elab_table.specs.declared.decls.Scope.{Scope}
use Rattle.st_dims.specs.declared.within.Within.{Within}
use Rattle.st_elab_table.specs.Choice.{IsCaseOf}
use Rattle.st_elab_table.specs.Questions.{Question, check, infer, item, hole, Made, Breach, Answer, Gives, Fails, Condition, are_same, is_below, is_variant, can_join, Chosen, Step, Ends, Asks, Tests, Opens, Fills}
use Rattle.st_elab_table.specs.Steps.{made, asked, found}
use Rattle.st_elab_table.specs.Collections.{item_row, hole_row}
use Rattle.st_elab_table.specs.Checked.{checked_row}
use Rattle.st_elab_table.specs.Inferred.{inferred_row}

-- the table: the row of a question
abbrev pub row : Decls → Scope → Question → Step
row D S (check w at p e t) = checked_row D S w at p e t (opened e)
row D S (infer w at e) = inferred_row D S w at e (opened e)
row D S (item w t x e) = item_row w t x e
row D S (hole w at passed filling t) = hole_row w at passed filling t

-- the condition holds of its types, as they are declared
abbrev pub Holds : Decls → Condition → Type 0
Holds D (are_same a b) = Same D.types a b
Holds D (is_below a b) = Sub D.types a b
Holds D (is_variant t) = (cases : List CaseDef) × HasCases D.types t cases
Holds D (can_join t) = Joins D.types t

mutual
  -- a question has an answer
  pub data Answered (D : Decls) (S : Scope) : Question → Answer → Type 0 where
    by_row : {q : Question} {a : Answer} → Leads D S (row D S q) a → Answered D S q a

  -- steps lead to an answer
  pub data Leads (D : Decls) (S : Scope) : Step → Answer → Type 0 where
    -- steps that end lead to their answer
    ends : {a : Answer} → Leads D S (Ends a) a
    -- an answer to the question that is asked goes on with what follows from it
    goes_on : {q : Question} {next : Made → Step} {a : Answer} (m : Made)
        → Answered D S q (Gives m) → Leads D S (next m) a → Leads D S (Asks q next) a
    -- a breach there is the answer
    stops : {q : Question} {next : Made → Step} (b : Breach)
        → Answered D S q (Fails b) → Leads D S (Asks q next) (Fails b)
    -- where the condition holds, the first steps lead on
    passes : {c : Condition} {first second : Step} {a : Answer}
        → Holds D c → Leads D S first a → Leads D S (Tests c first second) a
    -- where it does not, the second ones do
    misses : {c : Condition} {first second : Step} {a : Answer}
        → (Holds D c → ⊥) → Leads D S second a → Leads D S (Tests c first second) a
    -- what the type means goes on with what follows from it
    opens : {t : Ty} {next : Ty → Step} {a : Answer} (u : Ty)
        → Means D.types t u → Leads D S (next u) a → Leads D S (Opens t next) a
    -- so does the case of the type that the expression is
    fills : {t : Ty} {e : Exp} {next : Chosen → Step} {unfit : Step} {a : Answer} (c : Chosen)
        → IsCaseOf D.types t e c → Leads D S (next c) a → Leads D S (Fills t e next unfit) a
    -- where it is none, the steps for that lead on
    fits_none : {t : Ty} {e : Exp} {next : Chosen → Step} {unfit : Step} {a : Answer}
        → ((c : Chosen) → IsCaseOf D.types t e c → ⊥) → Leads D S unfit a
        → Leads D S (Fills t e next unfit) a

-- The steps go on with this: they lead where what follows it leads.
abbrev pub Reached : Decls → Scope → {X : Type 0} → ((X → Step) → Step) → X → Type 0
Reached D S {X} steps x =
    (next : X → Step) (a : Answer) → Leads D S (next x) a → Leads D S (steps next) a

-- the steps end with this breach, whatever follows them
abbrev pub Stopped : Decls → Scope → {X : Type 0} → ((X → Step) → Step) → Breach → Type 0
Stopped D S {X} steps b = (next : X → Step) → Leads D S (steps next) (Fails b)

-- ---- readings

-- what stands round an expression in this scope
abbrev pub around : Scope → Within
around S = record { kinds = S.around; indices = [] }

-- An expression is elaborated at a type.
abbrev pub Elab : Decls → Scope → Exp → Ty → IlExp → Type 0
Elab D S e t x = Answered D S (asked (around S) e t) (Gives (made x t))

-- The first asked part whose condition is false, where an expression is asked at a type.
abbrev pub ElabBreach : Decls → Scope → Exp → Ty → Breach → Type 0
ElabBreach D S e t b = Answered D S (asked (around S) e t) (Fails b)

-- An expression is elaborated, and its type is inferred.
abbrev pub Infer : Decls → Scope → Exp → IlExp → Ty → Type 0
Infer D S e x t = Answered D S (found (around S) e) (Gives (made x t))

-- The first asked part whose condition is false, where the type of an expression is inferred.
abbrev pub InferBreach : Decls → Scope → Exp → Breach → Type 0
InferBreach D S e b = Answered D S (found (around S) e) (Fails b)
