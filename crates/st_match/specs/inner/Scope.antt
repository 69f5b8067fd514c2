-- Variables as they are bound inside iterations, newest first, and the elements that they are bound to.
use Rattle.std.specs.Prelude.{ℕ, pos, List, [], ◌∷◌, ◌++◌, map, drop, Option, Some, None}
use Rattle.st_il.specs.declared.value.Env.{Env}
use Rattle.st_il.specs.declared.value.Value.{Value}
use Rattle.st_il.specs.declared.value.Value.TheVariants as value
use Rattle.st_semantics.specs.Environments.{Entry}
use Rattle.st_semantics.specs.Iterations.{Column}
use Rattle.st_match.specs.declared.scope.Bound.{Bound}
use Rattle.st_match.specs.declared.scope.Held.{Held}
use Rattle.st_match.specs.declared.scope.Held.TheVariants as held
use Rattle.st_match.specs.declared.column.Elements.{Elements}
use Rattle.st_match.specs.declared.column.Elements.TheVariants as elements

-- the value that a variable is bound to
abbrev pub value_held : Held → Value
value_held (held.Given v) = v.now
value_held (held.Index k) = value.Num (pos k)

-- a bound variable as an entry of an environment
abbrev pub entry_of : Bound → Entry
entry_of b = (b.name.now, value_held b.value)

-- bound variables as the entries of an environment
abbrev pub entries_of : List Bound → List Entry
entries_of bs = map entry_of bs

-- the environment of bound variables
abbrev pub scope_env : List Bound → Env
scope_env bs = record { entries = entries_of bs }

-- the column of an iterated variable
abbrev pub column_now : Elements → Column
column_now (elements.Many vs) = vs.now
column_now elements.Nothing = []
column_now (elements.Single v) = v.now ∷ []

-- the columns of iterated variables
abbrev pub columns_now : List Elements → List Column
columns_now cs = map column_now cs

-- the columns from their k-th elements on
abbrev pub columns_from : ℕ → List Column → List Column
columns_from k cs = map (drop k) cs

-- columns behind others, where they are there
abbrev pub columns_behind : List Column → Option (List Column) → Option (List Column)
columns_behind cs None = None
columns_behind cs (Some ds) = Some (cs ++ ds)
