-- Rows of environments, one for each element of an iteration, and what their columns give.
use Rattle.std.specs.Prelude.{◌≡◌, ◌≤◌, Bool, true, false, ◌&&◌, if◌then◌else◌, List, [], ◌∷◌, ◌++◌, length, Option, Some, None}
use Rattle.st_num.specs.declared.dim.Kind.{Kind}
use Rattle.st_num.specs.declared.dim.Kind.TheVariants as kind
use Rattle.st_il.specs.declared.definition.SyntaxDef.{SyntaxDef}
use Rattle.st_il.specs.declared.expression.IlExp.{IlExp}
use Rattle.st_il.specs.declared.expression.Iteration.{Iteration}
use Rattle.st_il.specs.declared.value.Env.{Env}
use Rattle.st_il.specs.declared.value.Value.{Value}
use Rattle.st_semantics.specs.declared.outcome.Outcome.TheVariants.{Val}
use Rattle.st_il.specs.Names.{Name, has_name}
use Rattle.st_semantics.specs.Environments.{value_in}
use Rattle.st_semantics.specs.Iterations.{kind_of, index_of, gathered_as}
use Rattle.st_semantics.specs.Patterns.{is_pattern}
use Rattle.st_match.specs.inner.Fitting.{FitEach, HasValue, column_value}
use Rattle.st_match.specs.inner.Covering.{Names, bound, joined, Stands, OneOf, Covers}

-- ---- rows

-- the environments of a row stand for these
abbrev pub RowStands : Names → List Env → List Env → Type 0
RowStands names [] [] = Unit {0}
RowStands names [] (e ∷ es) = ⊥
RowStands names (s ∷ ss) [] = ⊥
RowStands names (s ∷ ss) (e ∷ es) = Stands s names e × RowStands names ss es

-- the row with each of these environments behind it
abbrev pub with_each : List Env → List Env → List (List Env)
with_each row [] = []
with_each row (e ∷ es) = (row ++ e ∷ []) ∷ with_each row es

-- each row with each of these environments behind it
abbrev pub product : List (List Env) → List Env → List (List Env)
product [] es = []
product (row ∷ rows) es = with_each row es ++ product rows es

-- rows that cover all environments in which the body has these values
pub record AreRows (body : IlExp) (vs : List Value) (rows : List (List Env)) : Type 0 where
  pub cover : (defs : List SyntaxDef) (us : List Env) → is_pattern body ≡ true
      → FitEach defs body vs us → OneOf (RowStands (bound body) us) rows

-- an option has one element at most
abbrev pub IsSized : Kind → List Env → Type 0
IsSized kind.List us = Unit {0}
IsSized kind.Opt us = length us ≤ 1

-- rows that cover all environments of which this value is gathered
pub record AreRowsOf (k : Kind) (body : IlExp) (v : Value) (rows : List (List Env))
    : Type 0 where
  pub cover : (defs : List SyntaxDef) (us : List Env) (vs : List Value) → is_pattern body ≡ true
      → IsSized k us → FitEach defs body vs us → gathered_as k vs ≡ Val v
      → OneOf (RowStands (bound body) us) rows

-- rows that cover all environments of some elements lead to rows that do so of one element more
pub record RowsLead (body : IlExp) (v : Value) (before after : List (List Env)) : Type 0 where
  pub lead : (vs : List Value) → AreRows body vs before → AreRows body (vs ++ v ∷ []) after

-- ---- columns

-- a value before others, where it is there and they are
abbrev pub first_of : Option Value → Option (List Value) → Option (List Value)
first_of None vs = None
first_of (Some v) None = None
first_of (Some v) (Some vs) = Some (v ∷ vs)

-- others behind these values, where they are there
abbrev pub behind_these : List Value → Option (List Value) → Option (List Value)
behind_these vs None = None
behind_these vs (Some ws) = Some (vs ++ ws)

-- the values of a variable in the environments of a row, where it has one in each
abbrev pub row_values : Name → List Env → Option (List Value)
row_values x [] = Some []
row_values x (e ∷ es) = first_of (value_in e x) (row_values x es)

-- the column of a variable in a row; that of an index is not asked for
abbrev pub row_column : List Name → Name → List Env → Option (List Value)
row_column index x row = if has_name index x then None else row_values x row

-- there are values
abbrev pub are_there : Option (List Value) → Bool
are_there None = false
are_there (Some vs) = true

-- the named variables that have a column
abbrev pub in_columns : List Name → List Name → List Env → Names
in_columns index xs row x = has_name xs x && are_there (row_column index x row)

-- the columns of the named variables are their values
pub record HasColumns (k : Kind) (index xs : List Name) (row : List Env) (s : Env) : Type 0 where
  pub are : (x : Name) → has_name xs x ≡ true → (vs : List Value) → row_column index x row ≡ Some vs
      → HasValue x (column_value k vs) s

-- what the columns of these rows give to an environment covers
pub record ColumnsCover (how : Iteration) (xs : List Name) (rows : List (List Env)) (env : Env)
    (found : List Env) : Type 0 where
  pub covers : (s : Env) (names new : Names) → Stands s names env
      → OneOf (λ (row : List Env). HasColumns (kind_of how) (index_of how) xs row s
      × ((x : Name) → new x ≡ true → in_columns (index_of how) xs row x ≡ true)) rows
      → OneOf (Stands s (joined names new)) found

-- what one column gives covers
abbrev pub ColumnCovers : Option (List Value) → Kind → Name → List Env → List Env → Type 0
ColumnCovers None k x before after = after ≡ before
ColumnCovers (Some vs) k x before after =
    Covers (HasValue x (column_value k vs)) (has_name (x ∷ [])) before after

-- what the columns of these rows give to each of several environments covers
pub record AllColumnsCover (how : Iteration) (xs : List Name) (rows : List (List Env))
    (before after : List Env) : Type 0 where
  pub covers : (s : Env) (names new : Names) → OneOf (Stands s names) before
      → OneOf (λ (row : List Env). HasColumns (kind_of how) (index_of how) xs row s
      × ((x : Name) → new x ≡ true → in_columns (index_of how) xs row x ≡ true)) rows
      → OneOf (Stands s (joined names new)) after
