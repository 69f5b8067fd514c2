-- Environments with the entries of others behind their own, and the entries of some variables.
use Rattle.std.specs.Prelude.{List, [], ◌∷◌, ◌++◌, Option, Some, None}
use Rattle.st_il.specs.declared.value.Env.{Env}
use Rattle.st_il.specs.declared.value.Value.{Value}
use Rattle.st_il.specs.Names.{Name}
use Rattle.st_semantics.specs.Environments.{Entry, value_in}
use Rattle.st_eval.specs.declared.condition.Met.{Met}
use Rattle.st_eval.specs.declared.condition.Met.TheVariants as met

-- the entry of a variable, if it has a value
abbrev pub entry_with : Name → Option Value → List Entry
entry_with x None = []
entry_with x (Some v) = (x, v) ∷ []

-- the entry of a variable in an environment, if it has one
abbrev pub entry_in : Env → Name → List Entry
entry_in env x = entry_with x (value_in env x)

-- the entries of these variables, of those that have one
abbrev pub entries_among : Env → List Name → List Entry
entries_among env [] = []
entries_among env (x ∷ xs) = entry_in env x ++ entries_among env xs

-- the entries of an environment behind those of another one
abbrev pub beside : Env → Env → Env
beside env more = record { entries = more.entries ++ env.entries }

-- what is met, with what was bound before behind what it binds
abbrev pub met_beside : Env → Met → Met
met_beside env (met.Holds more) = met.Holds (beside env more)
met_beside env met.Fails = met.Fails
met_beside env met.Deep = met.Deep
