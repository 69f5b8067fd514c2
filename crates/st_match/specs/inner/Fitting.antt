-- When patterns have values, where calls come to nothing.
use Rattle.std.specs.Prelude.{◌≡◌, ℕ, pos, List, [], ◌∷◌, length, map, take, drop, Some, None}
use Rattle.st_num.specs.declared.dim.Kind.{Kind}
use Rattle.st_num.specs.declared.dim.Kind.TheVariants as kind
use Rattle.st_il.specs.declared.definition.SyntaxDef.{SyntaxDef}
use Rattle.st_il.specs.declared.expression.IlExp.{IlExp}
use Rattle.st_il.specs.declared.expression.Iteration.{Iteration}
use Rattle.st_il.specs.declared.expression.ListItem.{ListItem}
use Rattle.st_il.specs.declared.value.Env.{Env}
use Rattle.st_il.specs.declared.value.Value.{Value}
use Rattle.st_il.specs.declared.value.Value.TheVariants as value
use Rattle.st_semantics.specs.declared.outcome.Outcome.TheVariants.{Val}
use Rattle.st_il.specs.Names.{Name}
use Rattle.st_semantics.specs.Environments.{value_in}
use Rattle.st_semantics.specs.Operands.{item_exp}
use Rattle.st_semantics.specs.Forms.{spliced}
use Rattle.st_semantics.specs.Iterations.{count_of}
use Rattle.st_semantics.specs.Evaluation.{tasks, each_task, Gives}
use Rattle.st_semantics.specs.Holding.{value_by, HaveValues}
use Rattle.st_semantics.specs.Matching.{no_answers}

-- the pattern has this value
abbrev pub Fits : List SyntaxDef → IlExp → Value → Env → Type 0
Fits defs p v s = Gives defs no_answers s p (Val v)

-- the patterns have these values, one each
abbrev pub FitAll : List SyntaxDef → List IlExp → List Value → Env → Type 0
FitAll defs ps vs s = HaveValues (value_by defs no_answers) (tasks s ps) vs

-- the parts of a list make these elements
pub record FitItems (defs : List SyntaxDef) (items : List ListItem) (vs : List Value) (s : Env)
    : Type 0 where
  pub parts : List Value
  pub fit : FitAll defs (map item_exp items) parts s
  pub are : spliced items parts ≡ Some vs

-- the first n elements are the value of the pattern, and the others fit the parts behind it
abbrev pub FitSplit : List SyntaxDef → IlExp → List ListItem → List Value → ℕ → Env → Type 0
FitSplit defs p items vs n s =
    Fits defs p (value.List (take n vs)) s × FitItems defs items (drop n vs) s

-- the first n elements are the value of the one pattern, and the others that of the other
abbrev pub FitCut : List SyntaxDef → IlExp → IlExp → List Value → ℕ → Env → Type 0
FitCut defs p q vs n s =
    Fits defs p (value.List (take n vs)) s × Fits defs q (value.List (drop n vs)) s

-- the body has these values, one in each of these environments
abbrev pub FitEach : List SyntaxDef → IlExp → List Value → List Env → Type 0
FitEach defs body vs us = HaveValues (value_by defs no_answers) (each_task us body) vs

-- the count of an iteration, if it has one, is n
abbrev pub FitCount : List SyntaxDef → Iteration → ℕ → Env → Type 0
FitCount defs how n s =
    FitAll defs (count_of how) (map (λ (e : IlExp). value.Num (pos n)) (count_of how)) s

-- a variable has a value
abbrev pub HasValue : Name → Value → Env → Type 0
HasValue x v s = value_in s x ≡ Some v

-- what is gathered of the elements of a variable
abbrev pub column_value : Kind → List Value → Value
column_value kind.List vs = value.List vs
column_value kind.Opt [] = value.Opt None
column_value kind.Opt (v ∷ vs) = value.Opt (Some v)

-- the values of fields, in their order
abbrev pub field_values : List (Name × Value) → List Value
field_values fields = map (λ (field : Name × Value). field.1) fields

-- n is the number of the elements, where the value is a list
abbrev pub IsElementCount : Value → ℕ → Type 0
IsElementCount v n = (vs : List Value) → v ≡ value.List vs → n ≡ length vs
