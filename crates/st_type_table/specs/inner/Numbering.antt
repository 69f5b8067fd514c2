-- How numbers are given: forms are added, and names get the numbers of what they stand for.
use Rattle.std.specs.Prelude.{◌≡◌, ℕ, List, ◌++◌, slice_get, Option, Some, None, nat_eq, if◌then◌else◌}
use Rattle.std.specs.Borrow.{Bor}
use Rattle.std.specs.Cmp.Lexicographic.{pointwise}
use Rattle.indexmap.specs.IndexSet.{insert_key}
use Rattle.st_il.specs.declared.ty.Ty.{Ty}
use Rattle.st_il.specs.declared.definition.SyntaxDef.{SyntaxDef}
use Rattle.st_type_table.specs.declared.form.Form.{Form}
use Rattle.st_type_table.specs.declared.form.Form.TheVariants as form
use Rattle.st_type_table.specs.Leads.{Among, names_in}
use Rattle.st_type_table.specs.Meaning.{body_of}
use Rattle.st_type_table.specs.inner.Forms.{Numbers, number_of, form_eq, form_number, type_number, IsOrdered}

-- the forms of the first list begin the second
abbrev pub Grows : List Form → List Form → Type 0
Grows old new = (more : List Form) × (new ≡ old ++ more)

-- the forms grew, and what is asked for has this number now
pub record Numbered (numbers : Numbers) (old new : List Form)
    (asked : List Form → Option ℕ) (i : ℕ) : Type 0 where
  pub grows : Grows old new
  pub ordered : IsOrdered numbers new
  pub number : asked new ≡ Some i

-- the form was added where it was new, and has this number now
pub record Adds (old new : List Form) (f : Form) (i : ℕ) : Type 0 where
  pub keys : new ≡ insert_key form_eq old f
  pub number : form_number new f ≡ Some i

-- the number that is asked for a syntax of this name, by what it is an alias of
abbrev pub body_number : Numbers → List ℕ → Option Ty → List Form → Option ℕ
body_number numbers name (Some t) forms = type_number numbers forms t
body_number numbers name None forms = form_number forms (form.Own name)

-- the name has this number now, and each other name has what it had
abbrev pub IsGiven : Numbers → Numbers → List ℕ → ℕ → Type 0
IsGiven old new name i = (other : List ℕ)
    → number_of new other ≡ (if pointwise nat_eq name other then Some i else number_of old other)

-- each name that has a number keeps it
abbrev pub Keeps : Numbers → Numbers → Type 0
Keeps old new = (name : List ℕ) (i : ℕ) → number_of old name ≡ Some i → number_of new name ≡ Some i

-- the name has a number
abbrev pub IsNumbered : Numbers → List ℕ → Type 0
IsNumbered numbers name = number_of numbers name ≡ None → ⊥

-- each of these names has a number
abbrev pub AllNumbered : Numbers → List (List ℕ) → Type 0
AllNumbered numbers names = (name : List ℕ) → Among names name → IsNumbered numbers name

-- each name in the type has a number, where there is a type
abbrev pub AreNamesNumbered : Numbers → Option Ty → Type 0
AreNamesNumbered numbers None = Unit {0}
AreNamesNumbered numbers (Some t) = AllNumbered numbers (names_in t)

-- the names of all syntaxes are among these
abbrev pub AreAllNames : List SyntaxDef → List (Bor (List ℕ)) → Type 0
AreAllNames defs names = (name : List ℕ) → (body_of defs name ≡ None → ⊥)
    → (k : ℕ) × (b : Bor (List ℕ)) × (slice_get names k ≡ Some b) × (b.now ≡ name)
