-- Values: they are not too high, and all their texts, tags and field names are texts.
use Rattle.std.specs.Prelude.{ℕ, ◌≤◌, List, [], ◌∷◌, flat_map, map, Some, None}
use Rattle.std.specs.List.{All}
use Rattle.st_num.specs.Texts.{IsText}
use Rattle.st_num.specs.declared.limit.TheConstants.{HIGHEST_VALUE}
use Rattle.st_il.specs.declared.value.Value.{Value, fold-Value}
use Rattle.st_il.specs.declared.value.Value.TheOpen.{Value-F}
use Rattle.st_il.specs.Height.{height}

-- the texts in several parts, those of one part behind those of another
abbrev pub joined : List (List (List ℕ)) → List (List ℕ)
joined = flat_map (λ texts. texts)

-- a field's name, and the texts in its value
abbrev pub field_texts : List ℕ × List (List ℕ) → List (List ℕ)
field_texts field = field.0 ∷ field.1

-- the texts in a level whose parts have these texts in them
abbrev pub texts_at : Value-F (List (List ℕ)) → List (List ℕ)
texts_at (Value-F.Bool b) = []
texts_at (Value-F.Num n) = []
texts_at (Value-F.Text text) = text ∷ []
texts_at (Value-F.Case tag parts) = tag ∷ joined parts
texts_at (Value-F.Fields fields) = joined (map field_texts fields)
texts_at (Value-F.Tuple parts) = joined parts
texts_at (Value-F.List parts) = joined parts
texts_at (Value-F.Opt None) = []
texts_at (Value-F.Opt (Some part)) = part

-- all the texts, tags and field names in a value
abbrev pub texts_of : Value → List (List ℕ)
texts_of = fold-Value (List (List ℕ)) texts_at

-- a value is not too high, and its texts, tags and field names are texts
pub record IsValue (value : Value) : Type 0 where
  pub height : height value ≤ HIGHEST_VALUE
  pub texts : All IsText (texts_of value)
