-- What is found among candidates.
use Rattle.std.specs.Prelude.{◌≡◌, ◌≢◌, ◌↔◌, ◌⊎◌, ◌++◌, true, List, All, AllPairs, Contains, Some}
use Rattle.std.specs.List.{list_all}
use Rattle.st_il.specs.declared.definition.Listed.{Listed}
use Rattle.st_il.specs.declared.definition.SyntaxDef.{SyntaxDef}
use Rattle.st_il.specs.declared.expression.IlExp.{IlExp}
use Rattle.st_il.specs.declared.value.Env.{Env}
use Rattle.st_il.specs.declared.value.Value.{Value}
use Rattle.st_il.specs.Names.{Name, has_name}
use Rattle.st_semantics.specs.Environments.{AgreeOn, TypedIn, names_of, IsOrdered}
use Rattle.st_semantics.specs.Formed.{AreFormed}
use Rattle.st_semantics.specs.Patterns.{is_pattern}
use Rattle.st_semantics.specs.Variables.{vars_of}
use Rattle.st_match.specs.declared.matching.Sought.{Sought}
use Rattle.st_match.specs.inner.Fitting.{FitAll}
use Rattle.st_match.specs.inner.Covering.{OneOf}
use Rattle.st_match.specs.inner.Types.{HasAsked}
use Rattle.st_match.specs.inner.Assembly.{entries_of}

-- An environment extends another one by the other variables of some patterns, each with a value of
-- its type, and the patterns have these values there, one each.
pub record IsExtension (defs : List SyntaxDef) (ls : List Listed) (patterns : List IlExp)
    (vs : List Value) (env more : Env) : Type 0 where
  pub ordered : IsOrdered more
  pub names : (x : Name)
      → has_name (names_of more) x ≡ has_name (names_of env ++ vars_of patterns) x
  pub extends : AgreeOn (names_of env) env more
  pub typed : TypedIn defs ls (vars_of patterns) more
  pub fit : FitAll defs patterns vs more

-- these are exactly the environments that do so, each once
pub record AreExtensions (defs : List SyntaxDef) (ls : List Listed) (patterns : List IlExp)
    (vs : List Value) (env : Env) (found : List Env) : Type 0 where
  pub exactly : (more : Env) → Contains found more ↔ IsExtension defs ls patterns vs env more
  pub once : AllPairs (λ (a b : Env). a ≢ b) found

-- what is matched are patterns, whose records and absent parts are formed
pub record IsSought (sought : Sought) : Type 0 where
  pub formed : AreFormed sought.types.now sought.patterns.now
  pub patterns : list_all is_pattern sought.patterns.now ≡ true

-- the variables have the types that are asked, and the patterns have the values
pub record Suits (sought : Sought) (env : Env) : Type 0 where
  pub typed : All (HasAsked sought.types.now env) sought.asked.now
  pub fit : FitAll sought.types.now sought.patterns.now sought.values.now env

-- an environment is put together from the one that is to be extended and another one
abbrev pub IsMade : Sought → Env → Env → Type 0
IsMade sought env other = entries_of sought.names.now sought.env.now other ≡ Some env.entries

-- the environment that is made, where one is, is found too if P holds of it, and nothing else
pub record Adds (P Made : Env → Type 0) (before after : List Env) : Type 0 where
  pub kept : (env : Env) → Contains before env → Contains after env
  pub sound : (env : Env) → Contains after env → Contains before env ⊎ (Made env × P env)
  pub complete : (env : Env) → Made env → P env → Contains after env

-- what suits of what these candidates come to, some perhaps more than once
pub record AreSuited (sought : Sought) (candidates found : List Env) : Type 0 where
  pub sound : (env : Env) → Contains found env
      → OneOf (IsMade sought env) candidates × Suits sought env
  pub complete : (env : Env) → OneOf (IsMade sought env) candidates → Suits sought env
      → Contains found env

-- the environments of a list, each once
pub record AreEachOnce (envs each : List Env) : Type 0 where
  pub same : (env : Env) → Contains each env ↔ Contains envs env
  pub once : AllPairs (λ (a b : Env). a ≢ b) each

-- what suits of what these candidates come to, each once
pub record AreFound (sought : Sought) (candidates found : List Env) : Type 0 where
  pub suited : AreSuited sought candidates found
  pub once : AllPairs (λ (a b : Env). a ≢ b) found
