-- The environments that match a pattern with a value, or several patterns with several values.
use Rattle.std.specs.Prelude.{◌≡◌, ◌≢◌, ◌↔◌, List, AllPairs, Contains}
use Rattle.st_il.specs.declared.definition.Listed.{Listed}
use Rattle.st_il.specs.declared.definition.SyntaxDef.{SyntaxDef}
use Rattle.st_il.specs.declared.expression.IlExp.{IlExp}
use Rattle.st_il.specs.declared.value.Env.{Env}
use Rattle.st_il.specs.declared.value.Value.{Value}
use Rattle.st_il.specs.Names.{Name, has_name}
use Rattle.st_semantics.specs.Environments.{TypedIn, names_of, IsOrdered}
use Rattle.st_semantics.specs.Evaluation.{tasks}
use Rattle.st_semantics.specs.Variables.{vars_of}
use Rattle.st_semantics.specs.Holding.{value_by, HaveValues}
use Rattle.st_semantics.specs.Matching.{no_answers, IsMatch}

-- these are exactly the environments that match, each once
pub record AreMatches (defs : List SyntaxDef) (ls : List Listed) (pattern : IlExp) (v : Value)
    (env : Env) (found : List Env) : Type 0 where
  pub exactly : (more : Env) → Contains found more ↔ IsMatch defs ls pattern v env more
  pub once : AllPairs (λ (a b : Env). a ≢ b) found

-- An environment has exactly the variables of some patterns, each with a value of its type, and the
-- patterns have these values there, one each.
pub record IsMatchOfAll (defs : List SyntaxDef) (ls : List Listed) (patterns : List IlExp)
    (vs : List Value) (more : Env) : Type 0 where
  pub ordered : IsOrdered more
  pub names : (x : Name) → has_name (names_of more) x ≡ has_name (vars_of patterns) x
  pub typed : TypedIn defs ls (vars_of patterns) more
  pub values : HaveValues (value_by defs no_answers) (tasks more patterns) vs

-- these are exactly the environments that match all the patterns, each once
pub record AreAllMatches (defs : List SyntaxDef) (ls : List Listed) (patterns : List IlExp)
    (vs : List Value) (found : List Env) : Type 0 where
  pub exactly : (more : Env) → Contains found more ↔ IsMatchOfAll defs ls patterns vs more
  pub once : AllPairs (λ (a b : Env). a ≢ b) found
