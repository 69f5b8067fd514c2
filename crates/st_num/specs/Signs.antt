-- The table of signs: how each is written, how tightly it holds, and how it groups.
use Rattle.std.specs.Prelude.{ℕ, ◌+◌, List, codes, Bool, ◌&&◌, ◌||◌, ◌==◌, nat_le, if◌then◌else◌}
use Rattle.st_num.specs.declared.mark.Grouping.{Grouping}
use Rattle.st_num.specs.declared.mark.Grouping.TheVariants.{None, Left, Right}
use Rattle.st_num.specs.declared.mark.Mark.{Mark}
use Rattle.st_num.specs.declared.mark.Mark.TheVariants.{Turnstile, ReverseTurnstile, SquigglyArrowStar, SquigglyArrow, Colon, Subtype, Supertype, Approximately, Define, Semicolon, Arrow, DotDot, Ellipsis, PlusPlus, ExtendBy, Equal, NotEqual, Less, Greater, LessOrEqual, GreaterOrEqual, ElementOf, Tilde, And, Or, Implies, Equivalent, Plus, Minus, Star, Slash, Backslash, Caret, Question, Bar, Comma, DashDash, OpenParen, CloseParen, OpenBracket, CloseBracket, OpenBrace, CloseBrace, OpenArith, TickParen, TickBracket, TickBrace}

-- the characters by which a sign is written
abbrev pub spelling : Mark → List ℕ
spelling Turnstile = codes "|-"
spelling ReverseTurnstile = codes "-|"
spelling SquigglyArrowStar = codes "~>*"
spelling SquigglyArrow = codes "~>"
spelling Colon = codes ":"
spelling Subtype = codes "<:"
spelling Supertype = codes ":>"
spelling Approximately = codes "~~"
spelling Define = codes ":="
spelling Semicolon = codes ";"
spelling Arrow = codes "->"
spelling DotDot = codes ".."
spelling Ellipsis = codes "..."
spelling PlusPlus = codes "++"
spelling ExtendBy = codes "=++"
spelling Equal = codes "="
spelling NotEqual = codes "=/="
spelling Less = codes "<"
spelling Greater = codes ">"
spelling LessOrEqual = codes "<="
spelling GreaterOrEqual = codes ">="
spelling ElementOf = codes "<-"
spelling Tilde = codes "~"
spelling And = codes "/\\"
spelling Or = codes "\\/"
spelling Implies = codes "=>"
spelling Equivalent = codes "<=>"
spelling Plus = codes "+"
spelling Minus = codes "-"
spelling Star = codes "*"
spelling Slash = codes "/"
spelling Backslash = codes "\\"
spelling Caret = codes "^"
spelling Question = codes "?"
spelling Bar = codes "|"
spelling Comma = codes ","
spelling DashDash = codes "--"
spelling OpenParen = codes "("
spelling CloseParen = codes ")"
spelling OpenBracket = codes "["
spelling CloseBracket = codes "]"
spelling OpenBrace = codes "{"
spelling CloseBrace = codes "}"
spelling OpenArith = codes "$("
spelling TickParen = codes "`("
spelling TickBracket = codes "`["
spelling TickBrace = codes "`{"

-- The level at which a sign divides two sides, 0 where it is none: the looser have the lower
-- numbers. Those of arithmetic stand behind those of expressions.
abbrev pub level : Mark → ℕ
level Equivalent = 1
level Implies = 2
level Or = 3
level And = 4
level Equal = 6
level NotEqual = 6
level Less = 6
level Greater = 6
level LessOrEqual = 6
level GreaterOrEqual = 6
level ElementOf = 6
level Turnstile = 7
level ReverseTurnstile = 7
level SquigglyArrow = 8
level SquigglyArrowStar = 8
level Colon = 9
level Subtype = 9
level Supertype = 9
level Approximately = 9
level Define = 9
level Semicolon = 10
level Arrow = 11
level DotDot = 12
level PlusPlus = 13
level Plus = 15
level Minus = 15
level Star = 16
level Slash = 16
level Backslash = 16
level Caret = 18
level m = 0

-- the level of a sign that has no left side, 0 where it always has one
abbrev pub prefix_level : Mark → ℕ
prefix_level Tilde = 5
prefix_level Turnstile = 7
prefix_level Minus = 17
prefix_level m = 0

-- how the signs of a level group
abbrev pub grouping_at : ℕ → Grouping
grouping_at n =
    if n == 2 || n == 11 || n == 18 then Right
    else if n == 3 || n == 4 || n == 10 || n == 13 || n == 15 || n == 16 then Left
    else None

-- how this sign groups with others of its level
abbrev pub grouping : Mark → Grouping
grouping m = grouping_at (level m)

-- how much tighter than the level of a sign its left side is at least, by how it groups
abbrev pub left_gap : Grouping → ℕ
left_gap None = 1
left_gap Left = 0
left_gap Right = 1

-- how much tighter than the level of a sign its right side is at least, by how it groups
abbrev pub right_gap : Grouping → ℕ
right_gap None = 1
right_gap Left = 1
right_gap Right = 0

-- the loosest level that a sign of this level allows to its left
abbrev pub left_of : ℕ → ℕ
left_of n = n + left_gap (grouping_at n)

-- the loosest level that a sign of this level allows to its right
abbrev pub right_of : ℕ → ℕ
right_of n = n + right_gap (grouping_at n)

-- whether the sign divides two sides of a notation
abbrev pub is_notation : Mark → Bool
is_notation m = nat_le 7 (level m) && nat_le (level m) 12

-- the sign that closes a backquoted bracket, and else the sign itself
abbrev pub closing : Mark → Mark
closing TickParen = CloseParen
closing TickBracket = CloseBracket
closing TickBrace = CloseBrace
closing m = m
