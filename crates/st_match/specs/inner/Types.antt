-- The types that are asked of the values of variables.
use Rattle.std.specs.Prelude.{List, [], ◌∷◌, ◌++◌, Option, Some, None}
use Rattle.st_il.specs.declared.definition.Listed.{Listed}
use Rattle.st_il.specs.declared.definition.SyntaxDef.{SyntaxDef}
use Rattle.st_il.specs.declared.value.Env.{Env}
use Rattle.st_il.specs.Names.{Name}
use Rattle.st_semantics.specs.Environments.{IsSomeTyped, type_of, listed_as, value_in}
use Rattle.st_match.specs.declared.types.Asked.{Asked}

-- the environment gives the variable a value of the type that is asked
abbrev pub HasAsked : List SyntaxDef → Env → Asked → Type 0
HasAsked defs env asked = IsSomeTyped defs asked.ty (value_in env asked.name)

-- what is asked of a variable, if it is listed
abbrev pub asked_as : Name → Option Listed → List Asked
asked_as x None = []
asked_as x (Some l) = record { name = x; ty = type_of l } ∷ []

-- what is asked of these variables, of those that are listed
abbrev pub asked_of : List Listed → List Name → List Asked
asked_of ls [] = []
asked_of ls (x ∷ xs) = asked_as x (listed_as x ls) ++ asked_of ls xs
