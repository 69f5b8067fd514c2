-- The first token of a text that breaks a rule, and the rule: told by the tokens, and by the trees
-- that begin with them.
use Rattle.std.specs.Prelude.{◌≡◌, ℕ, ◌+◌, ◌<◌, ◌⊎◌, List, [], ◌++◌, length, map, take, get_or, Bool, false, ◌||◌, Option, Some, None, slice_get, if◌then◌else◌}
use Rattle.std.specs.List.{list_any}
use Rattle.st_num.specs.declared.rule.RuleId.{RuleId}
use Rattle.st_num.specs.declared.rule.RuleId.TheVariants.{S1, S2, S3, S4}
use Rattle.st_num.specs.declared.token.Token.{Token}
use Rattle.st_grammar.specs.Terminals.{Terminal, terminal}
use Rattle.st_parse_faults.specs.Number.{Number, too_deep, too_many}

-- ---- limits

-- a token that begins this passes a limit
abbrev pub passes_limit : List Number → Bool
passes_limit e = list_any too_deep e || list_any too_many e

-- the rule that a token breaks which begins this, if it passes a limit
abbrev pub limit_rule : List Number → Option RuleId
limit_rule e =
    if list_any too_deep e then Some S2 else if list_any too_many e then Some S3 else None

-- No token of these passes a limit.
abbrev pub NonePasses : List (List Number) → Type 0
NonePasses es = list_any passes_limit es ≡ false

-- ---- texts

-- the tokens of a text, and how they are read as trees
pub record Text : Type 1 where
  pub tokens : List Token
  -- the names that are declared by `var`
  pub names : List (List ℕ)
  -- definitions, or expressions
  pub Trees : Type 0
  -- These tokens are those of the trees, as the grammar sees them.
  pub Parse : List Terminal → Trees → Type 0
  -- what each token of the trees begins
  pub numbers : Trees → List (List Number)
  -- The grammar refuses token k, or the end there.
  pub Refuses : ℕ → Type 0
  -- Behind these tokens one that is refused begins a form that is left out of the grammar.
  pub LeavesOut : List Terminal → Token → Type 0

-- the tokens as the grammar sees them
abbrev pub terminals_of : Text → List Terminal
terminals_of text = map (terminal text.names) text.tokens

-- No token has a fault: the tokens are those of trees, and none passes a limit.
abbrev pub Faultless : Text → Type 0
Faultless text =
    (t : text.Trees) × text.Parse (terminals_of text) t × NonePasses (text.numbers t)

-- ---- fronts

-- The trees begin with the first k tokens.
pub record BeginWith (text : Text) (k : ℕ) (t : text.Trees) : Type 0 where
  pub rest : List Token
  pub grammar : text.Parse (take k (terminals_of text) ++ map (terminal text.names) rest) t

-- Trees begin with the first k tokens, and none of these passes a limit.
abbrev pub FrontKept : Text → ℕ → Type 0
FrontKept text k =
    (t : text.Trees) × BeginWith text k t × NonePasses (take k (text.numbers t))

-- ---- faults

-- Trees begin with the tokens up to token k, which passes a limit of this rule.
abbrev pub PassesLimit : Text → ℕ → RuleId → Type 0
PassesLimit text k r =
    (k < length text.tokens)
    × ((t : text.Trees) × BeginWith text (k + 1) t
    × (limit_rule (get_or (text.numbers t) k []) ≡ Some r))

-- Token k begins a form that is left out of the grammar.
abbrev pub BeginsLeftOut : Text → ℕ → Type 0
BeginsLeftOut text k =
    (x : Token) × (slice_get text.tokens k ≡ Some x)
    × text.LeavesOut (take k (terminals_of text)) x

-- The rule of a token that the grammar refuses, or of the end there.
abbrev pub RuleOf : Text → ℕ → RuleId → Type 0
RuleOf text k r =
    ((r ≡ S4) × BeginsLeftOut text k) ⊎ ((r ≡ S1) × (BeginsLeftOut text k → ⊥))

-- The grammar refuses token k, or the end there, by this rule.
abbrev pub IsRefused : Text → ℕ → RuleId → Type 0
IsRefused text k r = text.Refuses k × RuleOf text k r

-- The first token that breaks a rule is token k, or the end there, and it breaks this one.
abbrev pub FirstFault : Text → ℕ → RuleId → Type 0
FirstFault text k r = FrontKept text k × (PassesLimit text k r ⊎ IsRefused text k r)
