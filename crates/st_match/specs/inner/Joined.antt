-- Lists that grow part by part, and what a list or an option is when it is joined with a value.
use Rattle.std.specs.Prelude.{List, [], ◌∷◌, ◌++◌, Option, Some, None, option_map}
use Rattle.st_il.specs.declared.value.Value.{Value}
use Rattle.st_il.specs.declared.value.Value.TheOpen.{Value-F}
use Rattle.st_il.specs.declared.value.Value.TheVariants as value
use Rattle.st_semantics.specs.Environments.{Entry}
use Rattle.st_semantics.specs.Parts.{option_list, with_both}
use Rattle.st_semantics.specs.Operators.{joined_options, join}

-- some elements behind others, where they are there
abbrev pub list_of : List Value → Option (List Value) → Option (List Value)
list_of xs None = None
list_of xs (Some ys) = Some (xs ++ ys)

-- a list, joined with a level
abbrev pub list_joined : List Value → Value-F Value → Option Value
list_joined xs (Value-F.List ys) = Some (value.List (xs ++ ys))
list_joined xs _ = None

-- an option, joined with a level
abbrev pub option_joined : Option Value → Value-F Value → Option Value
option_joined x (Value-F.Opt y) = joined_options (option_list x) (option_list y)
option_joined x _ = None

-- the fields of two records, joined field by field
abbrev pub fields_joined : List Entry → List Entry → Option (List Entry)
fields_joined [] [] = Some []
fields_joined [] (other ∷ others) = None
fields_joined (f ∷ fs) [] = None
fields_joined (f ∷ fs) (other ∷ others) =
    with_both (λ (v : Value) (rest : List Entry). Some ((f.0, v) ∷ rest))
    (join f.1 other.1) (fields_joined fs others)

-- a record, joined with a level
abbrev pub record_joined : List Entry → Value-F Value → Option Value
record_joined fs (Value-F.Fields others) = option_map value.Fields (fields_joined fs others)
record_joined fs _ = None

-- fields behind others, where they are there
abbrev pub fields_of : List Entry → Option (List Entry) → Option (List Entry)
fields_of fs None = None
fields_of fs (Some others) = Some (fs ++ others)
