-- What may stand in each sort of part, and how tightly its signs hold. In short, where a name is
-- one of a variable or a type, and a bound is what stands behind `^(i <`:
--
--                       expression       arithmetic notation   type       count      bound
--  names                yes              yes        yes        no UP name yes        yes
--  basic types          yes              yes        yes        yes        yes        yes
--  numbers              yes              yes        -          -          yes        yes
--  atoms                yes              -          yes        -          -          -
--  texts, `true`, `eps` yes              -          -          -          -          -
--  functions, calls     yes              yes        -          -          -          -
--  parentheses          expressions      arithmetic types      types      `(i < `    -
--  backquoted brackets  expression       -          notation   -          -          -
--  `$( )`               arithmetic       arithmetic -          -          arithmetic arithmetic
--  braces               fields           -          -          -          -          -
--  bars                 expression       expression -          -          -          -
--  behind `[`           end, slice, path expression -          -          -          -
--  dots                 yes              yes        of an atom -          -          -
--  iteration signs      `* + ? ^`        -          `* ?`      `* ?`      -          -
--  sequences            yes              -          yes        -          -          -
--  signs, by level      1 to 13          15 to 18   7 to 12    -          -          -
use Rattle.std.specs.Prelude.{ℕ, Bool, true, false, ◌&&◌, nat_le}
use Rattle.st_num.specs.declared.mark.Mark.{Mark}
use Rattle.st_num.specs.declared.mark.Mark.TheVariants as mark
use Rattle.st_num.specs.Signs as signs
use Rattle.st_grammar.specs.declared.sort.Leaf.{Leaf}
use Rattle.st_grammar.specs.declared.sort.Leaf.TheVariants.{Low as low, Basic as basic, Atom as atom, Number as number, Literal as literal, Function as function}
use Rattle.st_grammar.specs.declared.sort.Bracket.{Bracket}
use Rattle.st_grammar.specs.declared.sort.Bracket.TheVariants.{Round as round, Square as square, TickRound as tick_round, TickSquare as tick_square, TickBrace as tick_brace, Dollar as dollar}
use Rattle.st_grammar.specs.declared.sort.Sort.{Sort}
use Rattle.st_grammar.specs.declared.sort.Sort.TheVariants.{Expression as expression, Arithmetic as arithmetic, Notation as notation, Typ as typ, Count as count}

-- ---- sorts

-- such an operand of one token stands in such a part
abbrev pub takes : Sort → Leaf → Bool
takes (expression b) k = true
takes arithmetic atom = false
takes arithmetic literal = false
takes arithmetic k = true
takes notation number = false
takes notation literal = false
takes notation function = false
takes notation k = true
takes typ low = true
takes typ basic = true
takes typ k = false
takes σ atom = false
takes σ literal = false
takes σ function = false
takes σ k = true

-- such a bracket begins an operand in such a part
abbrev pub encloses : Sort → Bracket → Bool
encloses (expression b) square = false
encloses (expression b) k = true
encloses arithmetic round = true
encloses arithmetic dollar = true
encloses arithmetic k = false
encloses notation round = true
encloses notation tick_round = true
encloses notation tick_square = true
encloses notation tick_brace = true
encloses notation k = false
encloses typ round = true
encloses typ k = false
encloses σ dollar = true
encloses σ k = false

-- the sort of what stands in a bracket, by the sort of the part in which the bracket stands
abbrev pub inside : Sort → Bracket → Sort
inside σ dollar = arithmetic
inside arithmetic k = arithmetic
inside notation round = typ
inside notation k = notation
inside typ k = typ
inside σ k = expression false

-- Lengths, calls and elements at a position stand in such a part.
abbrev pub computes : Sort → Bool
computes (expression b) = true
computes arithmetic = true
computes σ = false

-- the part is an expression, directly between bars or not
abbrev pub is_expression : Sort → Bool
is_expression (expression b) = true
is_expression σ = false

-- the part is what stands behind `^`
abbrev pub is_count : Sort → Bool
is_count count = true
is_count σ = false

-- Parts one behind the other are a sequence in such a part.
abbrev pub juxtaposes : Sort → Bool
juxtaposes (expression b) = true
juxtaposes notation = true
juxtaposes σ = false

-- ---- signs

-- the level of a sequence
abbrev pub sequence_level : ℕ
sequence_level = 14

-- the level of what binds tightest, as operands do
abbrev pub tight : ℕ
tight = 20

-- signs of this level stand in such a part
abbrev pub has_level : Sort → ℕ → Bool
has_level (expression b) n = nat_le 1 n && nat_le n 13
has_level arithmetic n = nat_le 15 n
has_level notation n = nat_le 7 n && nat_le n 12
has_level σ n = false

-- the loosest level that a sign allows to its left
abbrev pub left_of : Mark → ℕ
left_of m = signs.left_of (signs.level m)

-- the loosest level that a sign allows to its right
abbrev pub right_of : Mark → ℕ
right_of m = signs.right_of (signs.level m)

-- the loosest level that a sign without a left side allows to its right; only `|-` wants
-- something tighter than itself there
abbrev pub prefix_right : Mark → ℕ
prefix_right mark.Turnstile = 8
prefix_right m = signs.prefix_level m

-- ---- signs of one use

-- the sign iterates an expression
abbrev pub is_iteration_sign : Mark → Bool
is_iteration_sign mark.Star = true
is_iteration_sign mark.Plus = true
is_iteration_sign mark.Question = true
is_iteration_sign m = false

-- the sign iterates a type
abbrev pub is_type_iteration_sign : Mark → Bool
is_type_iteration_sign mark.Star = true
is_type_iteration_sign mark.Question = true
is_type_iteration_sign m = false

-- the sign is `^`, which stands before a count
abbrev pub is_caret : Mark → Bool
is_caret mark.Caret = true
is_caret m = false

-- the sign is `,`, which sets off a next part
abbrev pub is_comma : Mark → Bool
is_comma mark.Comma = true
is_comma m = false

-- the sign is `:`, which sets off the second end of a slice
abbrev pub is_colon : Mark → Bool
is_colon mark.Colon = true
is_colon m = false

-- the sign is `<`, which stands before the bound of an index
abbrev pub is_less : Mark → Bool
is_less mark.Less = true
is_less m = false

-- the sign is `=`, which puts a new value at a path, or `=++`, which extends a list there
abbrev pub is_change : Mark → Bool
is_change mark.Equal = true
is_change mark.ExtendBy = true
is_change m = false
