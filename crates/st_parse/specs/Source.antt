-- What the parser answers.
use Rattle.std.specs.Prelude.{◌≡◌, ℕ, ◌⊎◌, List, length, take, Option, Some, None, Result, Ok, Err, ⊤}
use Rattle.st_num.specs.declared.span.Span.{Span}
use Rattle.st_num.specs.declared.rule.RuleId.{RuleId}
use Rattle.st_num.specs.declared.rule.RuleId.TheVariants.{S2, S3}
use Rattle.st_num.specs.declared.token.Token.{Token}
use Rattle.st_grammar.specs.Terminals.{declared_names}
use Rattle.st_grammar.specs.Positions.{State, start, reading}
use Rattle.st_parse_automaton.specs.Refusal.{terminals_of}
use Rattle.st_parse_faults.specs.DefinitionFaults.{Faultless, FrontKept, FirstFault}
use Rattle.st_parse_faults.specs.Place.{place_at}
use Rattle.st_el.specs.declared.definition.Def.{Def}
use Rattle.st_parse_builder.specs.Definitions.{Parse}
use Rattle.st_parse.specs.Limits.{variable_past, too_tall, first_that}
use Rattle.st_parse.specs.Open.{first_past}
use Rattle.st_num.specs.declared.fault.Fault.{Fault as SyntaxFault}
use Rattle.st_num.specs.declared.fault.Fault.TheVariants.{Refused, Memory}

-- ---- what is asked of whole definitions

-- Each definition keeps the limits of variables and of heights.
abbrev pub KeepsLimits : List Def → Type 0
KeepsLimits defs = (first_that variable_past defs ≡ None) × (first_that too_tall defs ≡ None)

-- No token has a fault, and the tokens mean these definitions.
abbrev pub IsParsed : List Token → List Def → Type 0
IsParsed tokens defs = Faultless tokens × Parse (declared_names tokens) tokens defs

-- No token has a fault, the tokens mean these definitions, and no limit is passed.
abbrev pub IsSource : List Token → List Def → Type 0
IsSource tokens defs = IsParsed tokens defs × KeepsLimits defs

-- ---- faults

-- the tokens before the first one with a fault, or all, and how they are read
pub record Front (tokens : List Token) : Type 0 where
  pub count : ℕ
  pub state : State
  pub read : reading start (take count (terminals_of tokens)) ≡ Some state
  -- None of them passes a limit.
  pub kept : FrontKept tokens count
  -- Behind them the tokens end, or the next one has a fault.
  pub longest : (count ≡ length tokens) ⊎ ((r : RuleId) × FirstFault tokens count r)

-- The first variable that is past the limit, if there is one, is there: in a definition that stands
-- whole in the front, or in the one that is cut off behind it.
abbrev pub Past : List Token → Option Span → Type 0
Past tokens place = (front : Front tokens) × (first_past front.state ≡ place)

-- too many variables of a definition, before any token with a fault
abbrev pub VariableFault : List Token → Span → RuleId → Type 0
VariableFault tokens at rule = Past tokens (Some at) × (rule ≡ S3)

-- a fault of a token, or of the end of the tokens, where no definition before it has too many
-- variables
abbrev pub FaultyToken : List Token → Span → RuleId → Type 0
FaultyToken tokens at rule =
    Past tokens None × ((k : ℕ) × FirstFault tokens k rule × (at ≡ place_at tokens k))

-- a definition with a tree that is too high, where there is no other fault
abbrev pub HeightFault : List Token → Span → RuleId → Type 0
HeightFault tokens at rule =
    (defs : List Def) × IsParsed tokens defs × (first_that variable_past defs ≡ None)
    × (first_that too_tall defs ≡ Some at) × (rule ≡ S2)

-- The first fault breaks this rule, and stands there.
abbrev pub FaultAt : List Token → Span → RuleId → Type 0
FaultAt tokens at rule =
    VariableFault tokens at rule ⊎ (FaultyToken tokens at rule ⊎ HeightFault tokens at rule)

-- what the parser answers: the definitions of a source, its first fault, or that memory is short
abbrev pub Answers : List Token → Result (List Def) SyntaxFault → Type 0
Answers tokens (Ok defs) = IsSource tokens defs
Answers tokens (Err (Refused at rule)) = FaultAt tokens at rule
Answers tokens (Err Memory) = ⊤
