-- What is read at one place: a token with its length, or a fault with its distance.
use Rattle.std.specs.Prelude.{◌≡◌, ◌≢◌, ℕ, ◌+◌, ◌≤◌, List, [], ◌∷◌, length, drop, Bool, false, ◌&&◌, ◌==◌, ⊤}
use Rattle.st_scan.specs.Bytes.{is_letter, is_digit}
use Rattle.st_scan.specs.Gaps.{opens_comment}
use Rattle.st_scan.specs.Spelling.{begins_lower}
use Rattle.st_scan.specs.Tokens.{Longest, IsInRange}
use Rattle.st_scan.specs.Faults.{Cause}
use Rattle.st_scan.specs.declared.read.Reading.{Reading}
use Rattle.st_scan.specs.declared.read.Stop.{Stop}
use Rattle.st_scan.specs.declared.read.Stop.TheVariants.{Refused, Memory}

-- a letter stands first
abbrev pub begins_letter : List ℕ → Bool
begins_letter [] = false
begins_letter (b ∷ bs) = is_letter b

-- a decimal digit stands first
abbrev pub begins_digit : List ℕ → Bool
begins_digit [] = false
begins_digit (b ∷ bs) = is_digit b

-- a quote stands first
abbrev pub begins_quote : List ℕ → Bool
begins_quote [] = false
begins_quote (b ∷ bs) = b == 34

-- a dot with a letter right behind
abbrev pub begins_dot : List ℕ → Bool
begins_dot [] = false
begins_dot (b ∷ bs) = b == 46 && begins_letter bs

-- a dollar sign with a lower-case letter right behind
abbrev pub begins_fun : List ℕ → Bool
begins_fun [] = false
begins_fun (b ∷ bs) = b == 36 && begins_lower bs

-- no comment, and no token but a sign, begins at the front of the bytes
pub record BeginsSign (bytes : List ℕ) : Type 0 where
  pub some : bytes ≢ []
  pub no_comment : opens_comment bytes ≡ false
  pub no_letter : begins_letter bytes ≡ false
  pub no_digit : begins_digit bytes ≡ false
  pub no_quote : begins_quote bytes ≡ false
  pub no_dot : begins_dot bytes ≡ false
  pub no_fun : begins_fun bytes ≡ false

-- the token that is read is the longest at the front of the bytes, with its length
pub record IsReading (bytes : List ℕ) (reading : Reading) : Type 0 where
  pub text : List ℕ
  pub rest : List ℕ
  pub longest : Longest bytes text rest reading.kind
  pub in_range : IsInRange reading.kind
  pub taken : reading.length ≡ length text

-- no token can be taken at the front, and the fault stands so many bytes behind it
abbrev pub Stops : List ℕ → Stop → Type 0
Stops bytes (Refused skipped rule) =
    Cause bytes (drop skipped bytes) rule × (skipped ≤ length bytes)
Stops bytes Memory = ⊤

-- the same fault, told from some bytes earlier
abbrev pub farther : ℕ → Stop → Stop
farther count (Refused skipped rule) = Refused (count + skipped) rule
farther count Memory = Memory

-- the fault stands within so many bytes
abbrev pub IsWithin : ℕ → Stop → Type 0
IsWithin limit (Refused skipped rule) = skipped ≤ limit
IsWithin limit Memory = ⊤
