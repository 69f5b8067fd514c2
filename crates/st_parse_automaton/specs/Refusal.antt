-- Which tokens are definitions, and the first token that no definitions have behind those before
-- it.
use Rattle.std.specs.Prelude.{◌≡◌, ℕ, ◌+◌, ◌<◌, ◌⊎◌, List, length, take, map}
use Rattle.st_num.specs.declared.token.Token.{Token}
use Rattle.st_grammar.specs.Terminals.{Terminal, terminal, declared_names}
use Rattle.st_grammar.specs.Definitions.{Defs, ParseDefs, ViableDefs}

-- the tokens as the grammar sees them
abbrev pub terminals_of : List Token → List Terminal
terminals_of tokens = map (terminal (declared_names tokens)) tokens

-- The tokens are those of definitions.
abbrev pub AreDefinitions : List Token → Type 0
AreDefinitions tokens = (ds : Defs) × ParseDefs (terminals_of tokens) ds

-- some tokens behind the first k make definitions
abbrev pub IsViable : List Token → ℕ → Type 0
IsViable tokens k = ViableDefs (declared_names tokens) (take k (terminals_of tokens))

-- The first token that no definitions have behind those before it stands at k, or the tokens end
-- at k too early.
abbrev pub RefusedAt : List Token → ℕ → Type 0
RefusedAt tokens k =
    ((k < length tokens) × IsViable tokens k × (IsViable tokens (k + 1) → ⊥))
    ⊎ ((k ≡ length tokens) × IsViable tokens k × (AreDefinitions tokens → ⊥))
