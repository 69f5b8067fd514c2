-- What the parser of expressions answers.
use Rattle.std.specs.Prelude.{◌≡◌, ℕ, ◌≤◌, ◌<◌, ◌⊎◌, List, map, Result, Ok, Err, ⊤}
use Rattle.st_num.specs.declared.limit.TheConstants.{HIGHEST_TREE}
use Rattle.st_num.specs.declared.span.Span.{Span}
use Rattle.st_num.specs.declared.rule.RuleId.{RuleId}
use Rattle.st_num.specs.declared.rule.RuleId.TheVariants.{S2}
use Rattle.st_num.specs.declared.token.Token.{Token}
use Rattle.st_grammar.specs.Trees.{Trees}
use Rattle.st_el.specs.declared.expression.Exp.{Exp}
use Rattle.st_parse_builder.specs.Meaning.{meanings}
use Rattle.st_parse_builder.specs.Heights.{highest, height}
use Rattle.st_parse_faults.specs.Place.{place_at}
use Rattle.st_num.specs.declared.fault.Fault.{Fault as SyntaxFault}
use Rattle.st_num.specs.declared.fault.Fault.TheVariants.{Refused, Memory}
use Rattle.st_parse.specs.Expressions.{ParseExpressions, terminals_of}
use Rattle.st_parse.specs.ExpressionFaults.{Faultless, FirstFault}

-- the tokens mean these expressions, where these names are declared by `var`
pub record ParseExps (names : List (List ℕ)) (tokens : List Token) (exps : List Exp) : Type 0 where
  -- what the grammar reads the tokens as
  pub trees : Trees
  pub grammar : ParseExpressions (terminals_of names tokens) trees
  pub meant : meanings trees ≡ exps

-- The tokens mean these expressions, and no token has a fault.
abbrev pub IsFile : List (List ℕ) → List Token → List Exp → Type 0
IsFile names tokens exps = Faultless names tokens × ParseExps names tokens exps

-- The first fault breaks this rule, and stands there.
abbrev pub FaultAt : List (List ℕ) → List Token → Span → RuleId → Type 0
FaultAt names tokens at rule = (k : ℕ) × FirstFault names tokens k rule × (at ≡ place_at tokens k)

-- No token has a fault, and an expression is too high: that stands at the first token.
abbrev pub HeightFault : List (List ℕ) → List Token → Span → RuleId → Type 0
HeightFault names tokens at rule =
    (exps : List Exp) × IsFile names tokens exps × (HIGHEST_TREE < highest (map height exps))
    × (rule ≡ S2) × (at ≡ place_at tokens 0)

-- what is answered where these expressions are built
abbrev pub AreWhole : List Token → List Exp → Result (List Exp) SyntaxFault → Type 0
AreWhole tokens es (Ok built) = (built ≡ es) × (highest (map height es) ≤ HIGHEST_TREE)
AreWhole tokens es (Err (Refused at rule)) =
    (HIGHEST_TREE < highest (map height es)) × (rule ≡ S2) × (at ≡ place_at tokens 0)
AreWhole tokens es (Err Memory) = ⊤

-- what the parser answers: the expressions, the first fault, or that memory is short
abbrev pub Answers : List (List ℕ) → List Token → Result (List Exp) SyntaxFault → Type 0
Answers names tokens (Ok exps) =
    IsFile names tokens exps × (highest (map height exps) ≤ HIGHEST_TREE)
Answers names tokens (Err (Refused at rule)) =
    FaultAt names tokens at rule ⊎ HeightFault names tokens at rule
Answers names tokens (Err Memory) = ⊤
