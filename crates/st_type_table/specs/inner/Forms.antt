-- The numbers of types: types that are equal through aliases have one number.
use Rattle.std.specs.Prelude.{◌≡◌, ◌<◌, ℕ, Bool, true, false, List, [], ◌∷◌, map, length, slice_get, Option, Some, None, nat_eq}
use Rattle.std.specs.List.{position}
use Rattle.std.specs.Map.{lookup}
use Rattle.std.specs.Cmp.Lexicographic.{pointwise}
use Rattle.st_il.specs.declared.ty.Ty.{Ty, out-Ty, fold-Ty}
use Rattle.st_il.specs.declared.ty.Ty.TheOpen.{Ty-F}
use Rattle.st_il.specs.declared.definition.SyntaxDef.{SyntaxDef}
use Rattle.st_type_table.specs.declared.form.Form.{Form}
use Rattle.st_type_table.specs.declared.form.Form.TheVariants as form
use Rattle.st_type_table.specs.contracts.form.FormPartialEq.TheImpl as comparison
use Rattle.st_type_table.specs.Meaning.{aliased, body_of}
use Rattle.st_type_table.specs.inner.Kept.{Kept, defs_of, IsKept}

-- the numbers of syntaxes by their names
abbrev pub Numbers : Type 0
Numbers = List (List ℕ × ℕ)

-- the number of the syntax of this name
abbrev pub number_of : Numbers → List ℕ → Option ℕ
number_of numbers name = lookup (pointwise nat_eq name) numbers

-- whether two forms are equal
abbrev pub form_eq : Form → Form → Bool
form_eq = comparison.ghosts.eq

-- the number of a form is its position
abbrev pub form_number : List Form → Form → Option ℕ
form_number forms f = position (form_eq f) forms

-- the number of a list whose elements have this number
abbrev pub list_number : List Form → Option ℕ → Option ℕ
list_number forms None = None
list_number forms (Some part) = form_number forms (form.List part)

-- the number of an option whose part has this number
abbrev pub option_number : List Form → Option ℕ → Option ℕ
option_number forms None = None
option_number forms (Some part) = form_number forms (form.Opt part)

-- the number of a tuple, by that of its first part and that of the tuple of the others
abbrev pub pair_number : List Form → Option ℕ → Option ℕ → Option ℕ
pair_number forms first None = None
pair_number forms None (Some rest) = None
pair_number forms (Some first) (Some rest) = form_number forms (form.Pair first rest)

-- the number of a tuple whose parts have these numbers
abbrev pub tuple_number : List Form → List (Option ℕ) → Option ℕ
tuple_number forms [] = form_number forms form.Empty
tuple_number forms (first ∷ rest) = pair_number forms first (tuple_number forms rest)

-- the number of a type whose parts have these numbers
abbrev pub number_at : Numbers → List Form → Ty-F (Option ℕ) → Option ℕ
number_at numbers forms Ty-F.Bool = form_number forms form.Bool
number_at numbers forms Ty-F.Nat = form_number forms form.Nat
number_at numbers forms Ty-F.Int = form_number forms form.Int
number_at numbers forms Ty-F.Text = form_number forms form.Text
number_at numbers forms (Ty-F.Name name) = number_of numbers name
number_at numbers forms (Ty-F.List part) = list_number forms part
number_at numbers forms (Ty-F.Opt part) = option_number forms part
number_at numbers forms (Ty-F.Tuple parts) = tuple_number forms parts

-- the number of a type
abbrev pub type_number : Numbers → List Form → Ty → Option ℕ
type_number numbers forms = fold-Ty (Option ℕ) (number_at numbers forms)

-- the number of the tuple of these types
abbrev pub parts_number : Numbers → List Form → List Ty → Option ℕ
parts_number numbers forms parts = tuple_number forms (map (type_number numbers forms) parts)

-- ---- types that are compared by their numbers

-- whether the top of a type is a name
abbrev pub is_name : {X : Type 0} → Ty-F X → Bool
is_name (Ty-F.Name name) = true
is_name _ = false

-- both types are one name, by their tops
abbrev pub AreOneName : {X : Type 0} → Ty-F X → Ty-F X → Type 0
AreOneName (Ty-F.Name x) (Ty-F.Name y) = x ≡ y
AreOneName _ _ = ⊥

-- Two types are one name, or have one number.
pub data AreAlike (numbers : Numbers) (forms : List Form) (a b : Ty) : Type 0 where
  named : AreOneName (out-Ty a) (out-Ty b) → AreAlike numbers forms a b
  numbered : (i : ℕ) → type_number numbers forms a ≡ Some i → type_number numbers forms b ≡ Some i
      → AreAlike numbers forms a b

-- ---- numbers and forms that are right

-- the parts of a form have numbers below this one
abbrev pub PartsBelow : ℕ → Form → Type 0
PartsBelow i (form.List part) = part < i
PartsBelow i (form.Opt part) = part < i
PartsBelow i (form.Pair first rest) = (first < i) × (rest < i)
PartsBelow i _ = Unit {0}

-- each number is that of a form, and each form stands behind its parts
pub record IsOrdered (numbers : Numbers) (forms : List Form) : Type 0 where
  pub within : (name : List ℕ) (i : ℕ) → number_of numbers name ≡ Some i → i < length forms
  pub below : (i : ℕ) (f : Form) → slice_get forms i ≡ Some f → PartsBelow i f

-- what the syntax of this name is an alias of
abbrev pub alias_named : List SyntaxDef → List ℕ → Option Ty
alias_named defs name = aliased (body_of defs name)

-- an alias has the number of what it stands for, and another syntax that of a form of its own
pub record AreNumbers (defs : List SyntaxDef) (numbers : Numbers) (forms : List Form)
    : Type 0 where
  pub ordered : IsOrdered numbers forms
  pub alias : (name : List ℕ) (i : ℕ) (t : Ty) → number_of numbers name ≡ Some i
      → alias_named defs name ≡ Some t → type_number numbers forms t ≡ Some i
  pub own : (name : List ℕ) (i : ℕ) → number_of numbers name ≡ Some i
      → alias_named defs name ≡ None → slice_get forms i ≡ Some (form.Own name)

-- where the name has no number, it is not that of a syntax
abbrev pub HasNumber : List SyntaxDef → Numbers → List ℕ → Type 0
HasNumber defs numbers name = number_of numbers name ≡ None → body_of defs name ≡ None

-- the numbers are right, and each syntax has one
pub record AreForms (defs : List SyntaxDef) (numbers : Numbers) (forms : List Form) : Type 0 where
  pub right : AreNumbers defs numbers forms
  pub whole : (name : List ℕ) → HasNumber defs numbers name

-- ---- the table

-- what is kept of definitions is right, and the numbers of their names are
pub record IsTable (kept : Kept) (numbers : Numbers) (forms : List Form) : Type 0 where
  pub settled : IsKept kept
  pub numbered : AreForms (defs_of kept) numbers forms
