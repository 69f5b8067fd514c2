-- What an iterated premise comes to by its count, and by what is gathered of what its elements bind.
use Rattle.std.specs.Prelude.{◌≡◌, ◌⊎◌, ℕ, pos, false, List, [], ◌∷◌, ◌++◌, filter, length, Option, Some, None}
use Rattle.st_il.specs.declared.definition.Listed.{Listed}
use Rattle.st_il.specs.declared.definition.SyntaxDef.{SyntaxDef}
use Rattle.st_il.specs.declared.expression.IlExp.{IlExp, out-IlExp}
use Rattle.st_il.specs.declared.expression.IlExp.TheOpen.{IlExp-F}
use Rattle.st_il.specs.declared.expression.Iteration.{Iteration}
use Rattle.st_il.specs.declared.value.Env.{Env}
use Rattle.st_il.specs.declared.value.Value.{Value}
use Rattle.st_il.specs.declared.value.Value.TheVariants as value
use Rattle.st_semantics.specs.declared.outcome.Outcome.{Outcome}
use Rattle.st_semantics.specs.declared.outcome.Outcome.TheVariants.{Val, NoValue, Deep}
use Rattle.st_semantics.specs.declared.outcome.Outcomes.{Outcomes}
use Rattle.st_semantics.specs.declared.outcome.Outcomes.TheVariants.{Values, Stopped}
use Rattle.st_il.specs.Names.{Name, has_name, all_known, without}
use Rattle.st_semantics.specs.Environments.{Entry, value_in, type_of, listed_as, IsTypedValue}
use Rattle.st_semantics.specs.Parts.{option_list}
use Rattle.st_semantics.specs.Iterations.{count_of, gathered}
use Rattle.st_semantics.specs.Variables.{vars}
use Rattle.st_eval.specs.declared.condition.Met.{Met}
use Rattle.st_eval.specs.declared.condition.Met.TheVariants as met

-- ---- the count

-- an expression, where all its variables are known
abbrev pub bound_one : List Name → IlExp → List IlExp
bound_one known e = filter (λ (e : IlExp). all_known known (vars e)) (e ∷ [])

-- one outcome as that of several expressions
abbrev pub alone : Outcome → Outcomes
alone (Val v) = Values (v ∷ [])
alone NoValue = Stopped NoValue
alone Deep = Stopped Deep

-- a premise whose count has this outcome, which is no value
abbrev pub met_stopped : Outcome → Met
met_stopped (Val v) = met.Fails
met_stopped NoValue = met.Fails
met_stopped Deep = met.Deep

-- the count is this variable, which is not known
abbrev pub IsUnknownCount : List Name → Iteration → Name → Type 0
IsUnknownCount known how x =
    (e : IlExp) × (count_of how ≡ e ∷ []) × (out-IlExp e ≡ IlExp-F.Var x)
    × (has_name known x ≡ false)

-- ---- what is gathered

-- the values of a variable at the elements, of those that have it
abbrev pub values_there : Name → List Env → List Value
values_there x [] = []
values_there x (env ∷ envs) = option_list (value_in env x) ++ values_there x envs

-- the entry of a variable that has this outcome, if it is a value
abbrev pub entry_of_outcome : Name → Outcome → Option Entry
entry_of_outcome x (Val v) = Some (x, v)
entry_of_outcome x NoValue = None
entry_of_outcome x Deep = None

-- the entry of what is gathered of a variable, if it is not too high
abbrev pub gathered_entry : Iteration → List Env → Name → Option Entry
gathered_entry how found x = entry_of_outcome x (gathered how (values_there x found))

-- an entry before others, where it is there and all of them are
abbrev pub first_entry : Option Entry → Option (List Entry) → Option (List Entry)
first_entry None es = None
first_entry (Some e) None = None
first_entry (Some e) (Some es) = Some (e ∷ es)

-- the entries of what is gathered of these variables, if none is too high
abbrev pub gathered_entries : Iteration → List Env → List Name → Option (List Entry)
gathered_entries how found [] = Some []
gathered_entries how found (x ∷ xs) =
    first_entry (gathered_entry how found x) (gathered_entries how found xs)

-- entries behind others, where they are there
abbrev pub entries_behind : List Entry → Option (List Entry) → Option (List Entry)
entries_behind es None = None
entries_behind es (Some fs) = Some (es ++ fs)

-- ---- the number of elements

-- the number is a value of the variable, if it is listed
abbrev pub HasNumber : List SyntaxDef → List Listed → Name → ℕ → Type 0
HasNumber defs ls x n =
    (l : Listed) → listed_as x ls ≡ Some l → IsTypedValue defs (type_of l) (value.Num (pos n))

-- entries with the number of elements for a count that is not known, or none where that has not
-- the type of the count
abbrev pub IsCounted : List SyntaxDef → List Listed → List Name → Iteration → ℕ → List Entry
    → Option (List Entry) → Type 0
IsCounted defs ls known how n es None =
    (x : Name) × IsUnknownCount known how x × (HasNumber defs ls x n → ⊥)
IsCounted defs ls known how n es (Some more) =
    (((x : Name) → IsUnknownCount known how x → ⊥) × (more ≡ es))
    ⊎ ((x : Name) × IsUnknownCount known how x × HasNumber defs ls x n
    × (more ≡ es ++ (x, value.Num (pos n)) ∷ []))

-- it holds with these values, if there are some
abbrev pub met_counted : Option (List Entry) → Met
met_counted None = met.Fails
met_counted (Some es) = met.Holds (record { entries = es })

-- what a premise comes to by what is gathered, if none of it is too high
abbrev pub IsGatheredBy : List SyntaxDef → List Listed → List Name → Iteration → List Env
    → Option (List Entry) → Met → Type 0
IsGatheredBy defs ls known how found None m = m ≡ met.Deep
IsGatheredBy defs ls known how found (Some es) m =
    (counted : Option (List Entry)) × IsCounted defs ls known how (length found) es counted
    × (m ≡ met_counted counted)

-- what a premise comes to that holds at all elements, where it binds these values
abbrev pub IsGathered : List SyntaxDef → List Listed → List Name → Iteration → List Name → List Env
    → Met → Type 0
IsGathered defs ls known how xs found m =
    IsGatheredBy defs ls known how found (gathered_entries how found (without known xs)) m
