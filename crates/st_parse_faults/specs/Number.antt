-- What a token begins, with its number, and which numbers pass a limit.
use Rattle.std.specs.Prelude.{ℕ, Bool, false, nat_lt}
use Rattle.st_num.specs.declared.limit.TheConstants.{MOST_DEFINITIONS, MOST_PREMISES, MOST_PARTS, MOST_SIGNS, HIGHEST_TREE}

pub data Number : Type 0 where
  -- a bracket or a length: how many of both are open behind its sign
  opened : ℕ → Number
  -- a part of a bracket: which of them it is
  part : ℕ → Number
  -- an element of a sequence behind the first: which of them it is
  element : ℕ → Number
  -- a sign between two sides: which it is of those between the same brackets
  sign : ℕ → Number
  -- a prefix sign: which it is in a row before an operand; or a postfix sign: which it is behind one
  row : ℕ → Number
  -- a definition: which of them it is
  definition : ℕ → Number
  -- a premise: which it is of its rule or clause
  premise : ℕ → Number
  -- an alternative, a field or an argument: which it is of its definition
  member : ℕ → Number
  -- an iteration: which it is in a row behind a premise in parentheses
  iteration : ℕ → Number

-- More brackets and lengths are open than may be.
abbrev pub too_deep : Number → Bool
too_deep (opened n) = nat_lt HIGHEST_TREE n
too_deep x = false

-- There is more of something else than may be.
abbrev pub too_many : Number → Bool
too_many (opened n) = false
too_many (part n) = nat_lt MOST_PARTS n
too_many (element n) = nat_lt MOST_PARTS n
too_many (sign n) = nat_lt MOST_SIGNS n
too_many (row n) = nat_lt MOST_SIGNS n
too_many (definition n) = nat_lt MOST_DEFINITIONS n
too_many (premise n) = nat_lt MOST_PREMISES n
too_many (member n) = nat_lt MOST_PARTS n
too_many (iteration n) = nat_lt MOST_SIGNS n
