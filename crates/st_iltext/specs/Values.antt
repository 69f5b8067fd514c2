-- The trees of values, and the text of a value.
use Rattle.std.specs.Prelude.{◌≡◌, ℕ, ◌^◌, ◌≤◌, List, [], ◌∷◌, flat_map, codes, Bool, true, nat_lt, Some, None, unsigned_abs}
use Rattle.std.specs.Fmt.{signed_decimal}
use Rattle.std.specs.List.{list_all}
use Rattle.st_num.specs.declared.limit.TheConstants.{HIGHEST_VALUE}
use Rattle.st_il.specs.declared.value.Value.{Value, fold-Value}
use Rattle.st_il.specs.declared.value.Value.TheOpen.{Value-F}
use Rattle.st_il.specs.Height.{height}
use Rattle.st_text.specs.Text.{TextTree, word, quote, text, HasText}
use Rattle.st_iltext.specs.Expressions.{form, truth}
use Rattle.st_iltext.specs.Written.{all_true}

-- the trees of a field: its name, and then its value
abbrev pub field_trees : List ℕ × TextTree → List TextTree
field_trees field = quote field.0 ∷ field.1 ∷ []

-- the tree of a value whose parts have these trees
abbrev pub value_at : Value-F TextTree → TextTree
value_at (Value-F.Bool b) = truth b
value_at (Value-F.Num z) = word (signed_decimal z)
value_at (Value-F.Text s) = quote s
value_at (Value-F.Case tag vs) = form (codes "c") (quote tag ∷ vs)
value_at (Value-F.Fields fields) = form (codes "r") (flat_map field_trees fields)
value_at (Value-F.Tuple vs) = form (codes "t") vs
value_at (Value-F.List vs) = form (codes "l") vs
value_at (Value-F.Opt None) = form (codes "o") []
value_at (Value-F.Opt (Some v)) = form (codes "o") (v ∷ [])

-- the tree of a value
abbrev pub value_tree : Value → TextTree
value_tree = fold-Value TextTree value_at

-- in a level whose parts are so, each number is below 2 ^ 128 in size
abbrev pub value_written_at : Value-F Bool → Bool
value_written_at (Value-F.Bool b) = true
value_written_at (Value-F.Num z) = nat_lt (unsigned_abs z) (2 ^ 128)
value_written_at (Value-F.Text s) = true
value_written_at (Value-F.Case tag vs) = all_true vs
value_written_at (Value-F.Fields fields) = list_all (λ (field : List ℕ × Bool). field.1) fields
value_written_at (Value-F.Tuple vs) = all_true vs
value_written_at (Value-F.List vs) = all_true vs
value_written_at (Value-F.Opt None) = true
value_written_at (Value-F.Opt (Some v)) = v

-- each number in a value is below 2 ^ 128 in size
abbrev pub value_written : Value → Bool
value_written = fold-Value Bool value_written_at

-- A value has a text: it is not too high, and its numbers, texts and tags can be written.
pub record HasValueText (value : Value) : Type 0 where
  pub height : height value ≤ HIGHEST_VALUE
  pub written : value_written value ≡ true
  pub tree : HasText (value_tree value)

-- the text of a value that has one
abbrev pub value_text : Value → List ℕ
value_text value = text (value_tree value)

-- the bytes are the text of this value
pub record ValueText (value : Value) (bytes : List ℕ) : Type 0 where
  pub has : HasValueText value
  pub is : bytes ≡ value_text value

-- the bytes are the text of no value
pub record IsNoValue (bytes : List ℕ) : Type 0 where
  pub never : (value : Value) → ValueText value bytes → ⊥
