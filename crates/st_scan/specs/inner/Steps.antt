-- One step from token to token, and all of them.
use Rattle.std.specs.Prelude.{◌≡◌, ℕ, ◌≤◌, ◌<◌, List, [], ◌++◌, length, take, drop, Option, Some, None, ⊤}
use Rattle.std.specs.Str.{IsUtf8, IsValidUpTo}
use Rattle.st_scan.specs.Gaps.{gap, between}
use Rattle.st_scan.specs.Places.{offset, IsBehind}
use Rattle.st_scan.specs.Tokens.{Next, Run}
use Rattle.st_scan.specs.Faults.{Cause, TokenFault}
use Rattle.st_scan.specs.declared.line_column.LineColumn.{LineColumn}
use Rattle.st_num.specs.declared.token.Token.{Token}
use Rattle.st_scan.specs.declared.read.Stop.{Stop}
use Rattle.st_scan.specs.declared.read.Stop.TheVariants.{Refused, Memory}
use Rattle.st_scan.specs.declared.scanner.Step.{Step}

-- the rest ends the file, and the counts are those of its place
pub record IsAt (file rest : List ℕ) (here : LineColumn) : Type 0 where
  pub split : file ≡ take (offset file rest) file ++ rest
  pub behind : IsBehind (take (offset file rest) file) here

-- the step takes the next token
pub record IsStep (number : ℕ) (file rest : List ℕ) (step : Step) : Type 0 where
  pub next : Next number file rest step.token step.rest.now
  pub at : IsAt file step.rest.now step.place
  pub shorter : length step.rest.now < length rest

-- the step that is next, or none where only blanks and comments are left
abbrev pub IsNext : ℕ → List ℕ → List ℕ → Option Step → Type 0
IsNext number file rest None = gap between rest ≡ []
IsNext number file rest (Some step) = IsStep number file rest step

-- no token is next, and the fault stands so many bytes behind the front of the rest
abbrev pub StopsNext : List ℕ → Stop → Type 0
StopsNext rest (Refused skipped rule) =
    Cause (gap between rest) (drop skipped rest) rule × (skipped ≤ length rest)
StopsNext rest Memory = ⊤

-- these tokens stand up to the end of the file, whatever is UTF-8
pub record ReadsAll (number : ℕ) (file : List ℕ) (tokens : List Token) : Type 0 where
  pub left : List ℕ
  pub run : Run number file file tokens left
  pub ended : gap between left ≡ []

-- the first fault of a token stands so many bytes behind the front of the file
abbrev pub StopsFile : ℕ → List ℕ → Stop → Type 0
StopsFile number file (Refused skipped rule) =
    TokenFault number file (drop skipped file) rule × (skipped < length file)
StopsFile number file Memory = ⊤

-- so many bytes at the front are UTF-8, and no more of them
pub record IsUtf8Length (bytes : List ℕ) (size : ℕ) : Type 0 where
  pub within : size ≤ length bytes
  pub whole : length bytes ≤ size → IsUtf8 bytes
  pub part : size < length bytes → IsValidUpTo bytes size
