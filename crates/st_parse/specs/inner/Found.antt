-- What is found of tokens: the first fault of one of them, and what is kept of those before it.
use Rattle.std.specs.Prelude.{◌≡◌, ℕ, List, length, Option, Some, None}
use Rattle.st_num.specs.declared.token.Token.{Token}
use Rattle.st_parse_faults.specs.inner.Folding.{AllPass, FirstBreak}
use Rattle.st_parse_faults.specs.declared.fault.TokenFault.{TokenFault}
use Rattle.st_el.specs.declared.definition.Def.{Def}
use Rattle.st_parse.specs.declared.kept.Kept.{Kept}
use Rattle.st_parse.specs.Limits.{variable_past, too_tall, first_that}
use Rattle.st_parse.specs.Source.{IsParsed, Past}

-- what the first fault of a token is
abbrev pub Judged : List Token → Option TokenFault → Type 0
Judged tokens None = AllPass tokens
Judged tokens (Some f) = FirstBreak tokens f.token f.rule

-- how many tokens stand before this first fault of a token, or all where there is none
abbrev pub end_of : List Token → Option TokenFault → ℕ
end_of tokens None = length tokens
end_of tokens (Some f) = f.token

-- The first of these definitions that is too high is known, and where there is none, their trees.
pub record KeepsDefinitions (k : Kept) (defs : List Def) : Type 0 where
  pub tall : k.tall ≡ first_that too_tall defs
  pub trees : k.tall ≡ None → k.draft.defs ≡ defs

-- what is built where no token has a fault
abbrev pub IsBuilt : List Token → Kept → Type 0
IsBuilt tokens k =
    (defs : List Def) × IsParsed tokens defs × (first_that variable_past defs ≡ k.variables.past)
    × KeepsDefinitions k defs

-- What is kept of the tokens before the first fault of a token, where that is this one.
pub record Found (tokens : List Token) (found : Option TokenFault) (k : Kept) : Type 0 where
  pub judged : Judged tokens found
  pub past : Past tokens k.variables.past
  pub built : found ≡ None → IsBuilt tokens k
