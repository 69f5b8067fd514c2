-- The trees of the fields of a record.
use Rattle.std.specs.Prelude.{◌≡◌, ℕ, List, [], ◌∷◌, Bool, true}
use Rattle.std.specs.List.{list_all}
use Rattle.st_il.specs.declared.value.Value.{Value}
use Rattle.st_text.specs.Text.{TextTree, TextTrees, quote}
use Rattle.st_text.specs.Trees.{row_of}
use Rattle.st_iltext.specs.Values.{value_tree, value_written}

-- the names and the values of fields, one behind another
abbrev pub fields_row : List (List ℕ × Value) → List TextTree
fields_row [] = []
fields_row (field ∷ fields) = quote field.0 ∷ value_tree field.1 ∷ fields_row fields

-- the value of a field is written in the one spelling
abbrev pub field_fits : List ℕ × Value → Bool
field_fits field = value_written field.1

-- the trees are those of these fields
pub record AreFields (ts : TextTrees) (fields : List (List ℕ × Value)) : Type 0 where
  pub fit : list_all field_fits fields ≡ true
  pub are : ts ≡ row_of (fields_row fields)

-- the trees are those of no fields
pub record AreNoFields (ts : TextTrees) : Type 0 where
  pub never : (fields : List (List ℕ × Value)) → list_all field_fits fields ≡ true
      → ts ≡ row_of (fields_row fields) → ⊥
