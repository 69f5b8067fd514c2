-- The contexts in which parts are printed, and the levels of what has no sign.
use Rattle.std.specs.Prelude.{ℕ, Bool, true, false}
use Rattle.st_el.specs.declared.context.Around.{Around}
use Rattle.st_el.specs.declared.context.Around.TheVariants.{Brackets, Bars, Arithmetic, Caret as BehindCaret}
use Rattle.st_el.specs.declared.context.Behind.{Behind}
use Rattle.st_el.specs.declared.context.Behind.TheVariants.{Other}
use Rattle.st_el.specs.declared.context.Context.{Context}

-- the level of a sequence
abbrev pub sequence_level : ℕ
sequence_level = 14

-- the level of what holds together by itself
abbrev pub operand_level : ℕ
operand_level = 20

-- ---- contexts

-- a context for parts of this level and tighter ones
abbrev pub context_at : Around → ℕ → Context
context_at around least =
    record { around = around; least = least; bar_closes = false; behind = Other }

-- a context for a whole expression
abbrev pub whole : Around → Context
whole around = context_at around 1

-- a context for an operand with this behind it
abbrev pub operand_before : Around → Behind → Context
operand_before around behind =
    record { around = around; least = operand_level; bar_closes = false; behind = behind }

-- a context for a position, a length or a part of a path
abbrev pub position : Context
position = context_at Brackets 13

-- a context for the count of an iteration
abbrev pub count : Context
count = context_at BehindCaret 1

-- what is directly round a part is the bars of a length
abbrev pub is_bars : Around → Bool
is_bars Bars = true
is_bars around = false

-- a context for an element of a sequence behind another: directly in bars a bar would close them
abbrev pub next_element : Around → Context
next_element around =
    record { around = around; least = operand_level; bar_closes = is_bars around; behind = Other }

-- what is round a part in parentheses
abbrev pub in_parens : Around → Around
in_parens Arithmetic = Arithmetic
in_parens around = Brackets
