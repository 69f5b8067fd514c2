-- Which tokens are expressions, one or several with commas between them, and the first token that
-- none have behind those before it.
use Rattle.std.specs.Prelude.{◌≡◌, ℕ, ◌+◌, ◌≤◌, ◌<◌, ◌⊎◌, List, ◌++◌, length, take, map, false}
use Rattle.st_num.specs.declared.token.Token.{Token}
use Rattle.st_grammar.specs.declared.sort.Style.TheVariants.{Parts as parts}
use Rattle.st_grammar.specs.declared.sort.Sort.TheVariants.{Expression as expression}
use Rattle.st_grammar.specs.Terminals.{Terminal, terminal}
use Rattle.st_grammar.specs.Trees.{Trees, texts}
use Rattle.st_grammar.specs.Grammar.{size, EachFits}

-- the tokens are those of these expressions
pub record ParseExpressions (us : List Terminal) (ts : Trees) : Type 0 where
  -- Each is an expression that the grammar allows.
  pub fits : EachFits (expression false) parts 1 ts
  pub some : 1 ≤ size ts
  -- These are their tokens, with the commas between them.
  pub spelled : us ≡ texts ts

-- some tokens behind these make expressions
abbrev pub ViableExpressions : List (List ℕ) → List Terminal → Type 0
ViableExpressions names us =
    (rest : List Token) × (ts : Trees) × ParseExpressions (us ++ map (terminal names) rest) ts

-- the tokens as the grammar sees them, where these names are declared by `var`
abbrev pub terminals_of : List (List ℕ) → List Token → List Terminal
terminals_of names tokens = map (terminal names) tokens

-- The tokens are those of expressions.
abbrev pub AreExpressions : List (List ℕ) → List Token → Type 0
AreExpressions names tokens = (ts : Trees) × ParseExpressions (terminals_of names tokens) ts

-- some tokens behind the first k make expressions
abbrev pub IsViable : List (List ℕ) → List Token → ℕ → Type 0
IsViable names tokens k = ViableExpressions names (take k (terminals_of names tokens))

-- The first token that no expressions have behind those before it stands at k, or the tokens end
-- at k too early.
abbrev pub RefusedAt : List (List ℕ) → List Token → ℕ → Type 0
RefusedAt names tokens k =
    ((k < length tokens) × IsViable names tokens k × (IsViable names tokens (k + 1) → ⊥))
    ⊎ ((k ≡ length tokens) × IsViable names tokens k × (AreExpressions names tokens → ⊥))
