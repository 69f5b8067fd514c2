-- Environments that are put together from an environment and one that extends it.
use Rattle.std.specs.Prelude.{List, [], ◌∷◌, ◌++◌, Option, Some, None}
use Rattle.st_il.specs.declared.value.Env.{Env}
use Rattle.st_il.specs.declared.value.Value.{Value}
use Rattle.st_il.specs.Names.{Name}
use Rattle.st_semantics.specs.Environments.{Entry, value_in}

-- the first value of two that is there
abbrev pub first_value : Option Value → Option Value → Option Value
first_value None other = other
first_value (Some v) other = Some v

-- the value of a variable, in the first of two environments that has one
abbrev pub value_of_either : Env → Env → Name → Option Value
value_of_either env other x = first_value (value_in env x) (value_in other x)

-- an entry before others, where its value is there and they are
abbrev pub entry_before : Name → Option Value → Option (List Entry) → Option (List Entry)
entry_before x None es = None
entry_before x (Some v) None = None
entry_before x (Some v) (Some es) = Some ((x, v) ∷ es)

-- entries of these names, each with its value in the first of two environments that has one, where
-- each has a value
abbrev pub entries_of : List Name → Env → Env → Option (List Entry)
entries_of [] env other = Some []
entries_of (x ∷ xs) env other =
    entry_before x (value_of_either env other x) (entries_of xs env other)

-- others behind these entries, where they are there
abbrev pub behind_entries : List Entry → Option (List Entry) → Option (List Entry)
behind_entries es None = None
behind_entries es (Some others) = Some (es ++ others)

-- the entries of an environment
abbrev pub entries : Env → List Entry
entries env = env.entries
