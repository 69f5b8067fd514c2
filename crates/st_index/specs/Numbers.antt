-- The definitions of an internal language by their numbers, and the first ones of names.
use Rattle.std.specs.Prelude.{◌≡◌, ℕ, List, [], Option, Some, None, slice_get, find, position, bytes_eq}
use Rattle.st_il.specs.declared.definition.ClauseDef.{ClauseDef}
use Rattle.st_il.specs.declared.definition.FunDef.{FunDef}
use Rattle.st_il.specs.declared.definition.Il.{Il}
use Rattle.st_il.specs.declared.definition.RelationDef.{RelationDef}
use Rattle.st_il.specs.declared.definition.RuleDef.{RuleDef}
use Rattle.st_il.specs.declared.definition.SyntaxDef.{SyntaxDef}
use Rattle.st_il.specs.Names.{Name}
use Rattle.st_il.specs.Definitions.{syntaxes, relations, funs_in, rules_of, clauses_of}

-- the functions of an internal language, in order
abbrev pub functions : Il → List FunDef
functions il = funs_in il.defs

-- the syntax of that name
abbrev pub syntax_named : Il → Name → Option SyntaxDef
syntax_named il name = find (λ (s : SyntaxDef). bytes_eq name s.name) (syntaxes il)

-- the function of that name
abbrev pub function_named : Il → Name → Option FunDef
function_named il name = find (λ (f : FunDef). bytes_eq name f.name) (functions il)

-- ---- numbers of names

-- the number of the first syntax of this name
abbrev pub number_of_syntax : Il → Name → Option ℕ
number_of_syntax il name = position (λ (s : SyntaxDef). bytes_eq name s.name) (syntaxes il)

-- the number of the first relation of this name
abbrev pub number_of_relation : Il → Name → Option ℕ
number_of_relation il name = position (λ (r : RelationDef). bytes_eq name r.name) (relations il)

-- the number of the first function of this name
abbrev pub number_of_function : Il → Name → Option ℕ
number_of_function il name = position (λ (f : FunDef). bytes_eq name f.name) (functions il)

-- The member of a number, which is the first of this name.
pub record IsFirstNamed {A : Type 0} (name_of : A → Name) (xs : List A) (number : ℕ) (name : Name)
    : Type 0 where
  pub declared : A
  pub is : slice_get xs number ≡ Some declared
  pub found : find (λ x. bytes_eq name (name_of x)) xs ≡ Some declared
  pub named : name_of declared ≡ name

-- the syntax of a number is the first of this name
abbrev pub IsFirstSyntax : Il → ℕ → Name → Type 0
IsFirstSyntax il number name = IsFirstNamed (λ (s : SyntaxDef). s.name) (syntaxes il) number name

-- the relation of a number is the first of this name
abbrev pub IsFirstRelation : Il → ℕ → Name → Type 0
IsFirstRelation il number name =
    IsFirstNamed (λ (r : RelationDef). r.name) (relations il) number name

-- the function of a number is the first of this name
abbrev pub IsFirstFunction : Il → ℕ → Name → Type 0
IsFirstFunction il number name = IsFirstNamed (λ (f : FunDef). f.name) (functions il) number name

-- ---- what stands under a number

-- the rules of the relation, where there is one
abbrev pub rules_under : Il → Option RelationDef → List RuleDef
rules_under il None = []
rules_under il (Some relation) = rules_of il relation.name

-- the rules of the relation of a number, in order; none where there is no such relation
abbrev pub rules_at : Il → ℕ → List RuleDef
rules_at il number = rules_under il (slice_get (relations il) number)

-- the rule of a number of the relation of a number
abbrev pub rule_at : Il → ℕ → ℕ → Option RuleDef
rule_at il number rule = slice_get (rules_at il number) rule

-- the clauses of the function, where there is one
abbrev pub clauses_under : Il → Option FunDef → List ClauseDef
clauses_under il None = []
clauses_under il (Some function) = clauses_of il function.name

-- the clauses of the function of a number, in order; none where there is no such function
abbrev pub clauses_at : Il → ℕ → List ClauseDef
clauses_at il number = clauses_under il (slice_get (functions il) number)
