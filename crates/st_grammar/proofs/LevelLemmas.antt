-- Numbers of levels: bounds, and that a level is open to a sign on one side alone.
use Rattle.std.proofs.Common.{◌≡◌, ℕ, ◌+◌, ◌≤◌, ◌<◌, Bool, true, false, ◌&&◌, ◌||◌, nat_le, refl, arith}
use Rattle.st_num.specs.declared.mark.Mark.{Mark}
use Rattle.st_num.specs.declared.mark.Mark.TheVariants as mark
use Rattle.st_num.specs.declared.token.Token.{Token}
use Rattle.st_grammar.specs.declared.sort.Sort.{Sort}
use Rattle.st_grammar.specs.declared.sort.Sort.TheVariants.{Expression as expression, Arithmetic as arithmetic, Notation as notation, Typ as typ, Count as count, Bound as bound}
use Rattle.st_grammar.specs.Terminals.{sign}
use Rattle.st_num.specs.Signs.{level as level_of, prefix_level, grouping_at, left_gap, right_gap}
use Rattle.st_num.specs.declared.mark.Grouping.{Grouping}
use Rattle.st_num.specs.declared.mark.Grouping.TheVariants.{None as to_none, Left as to_left, Right as to_right}
use Rattle.st_grammar.specs.Levels.{is_expression, has_level, left_of, right_of, prefix_right, is_iteration_sign, is_type_iteration_sign, is_caret, is_comma, is_colon}
use Rattle.st_grammar.specs.Trees.{Tree}
use Rattle.st_grammar.specs.Grammar.{may_post}

pub level_low : (m : Mark) → level_of m ≤ 18
level_low mark.Turnstile = omega arith
level_low mark.ReverseTurnstile = omega arith
level_low mark.SquigglyArrowStar = omega arith
level_low mark.SquigglyArrow = omega arith
level_low mark.Colon = omega arith
level_low mark.Subtype = omega arith
level_low mark.Supertype = omega arith
level_low mark.Approximately = omega arith
level_low mark.Define = omega arith
level_low mark.Semicolon = omega arith
level_low mark.Arrow = omega arith
level_low mark.DotDot = omega arith
level_low mark.Ellipsis = omega arith
level_low mark.PlusPlus = omega arith
level_low mark.ExtendBy = omega arith
level_low mark.Equal = omega arith
level_low mark.NotEqual = omega arith
level_low mark.Less = omega arith
level_low mark.Greater = omega arith
level_low mark.LessOrEqual = omega arith
level_low mark.GreaterOrEqual = omega arith
level_low mark.ElementOf = omega arith
level_low mark.Tilde = omega arith
level_low mark.And = omega arith
level_low mark.Or = omega arith
level_low mark.Implies = omega arith
level_low mark.Equivalent = omega arith
level_low mark.Plus = omega arith
level_low mark.Minus = omega arith
level_low mark.Star = omega arith
level_low mark.Slash = omega arith
level_low mark.Backslash = omega arith
level_low mark.Caret = omega arith
level_low mark.Question = omega arith
level_low mark.Bar = omega arith
level_low mark.Comma = omega arith
level_low mark.DashDash = omega arith
level_low mark.OpenParen = omega arith
level_low mark.CloseParen = omega arith
level_low mark.OpenBracket = omega arith
level_low mark.CloseBracket = omega arith
level_low mark.OpenBrace = omega arith
level_low mark.CloseBrace = omega arith
level_low mark.OpenArith = omega arith
level_low mark.TickParen = omega arith
level_low mark.TickBracket = omega arith
level_low mark.TickBrace = omega arith

pub ahead_low : (m : Mark) → prefix_right m ≤ 17
ahead_low mark.Tilde = omega arith
ahead_low mark.Turnstile = omega arith
ahead_low mark.Minus = omega arith
ahead_low m = omega arith

pub ahead_below : (m : Mark) → prefix_level m ≤ prefix_right m
ahead_below mark.Turnstile = omega arith
ahead_below m = omega arith

pub gap_low : (g : Grouping) → right_gap g ≤ 1
gap_low to_none = omega arith
gap_low to_left = omega arith
gap_low to_right = omega arith

pub right_low : (m : Mark) → right_of m ≤ 19
right_low m = omega (arith, level_low m, gap_low (grouping_at (level_of m)))

pub one_side : (g : Grouping) → 1 ≤ left_gap g + right_gap g
one_side to_none = omega arith
one_side to_left = omega arith
one_side to_right = omega arith

-- a sign that takes a pair as its left side does not bind into it
pub level_after : (m n : ℕ) → m + left_gap (grouping_at m) ≤ n → m < n + right_gap (grouping_at n)
level_after m n h = grind (arith, one_side (grouping_at n))

-- a sign that takes something of a level without signs of its own as its left side is looser
pub level_before : (m n : ℕ) → left_gap (grouping_at n) ≡ 1 → m + left_gap (grouping_at m) ≤ n → m < n
level_before m n g h = grind arith

pub has_low : (σ : Sort) (n : ℕ) → has_level σ n ≡ true → 1 ≤ n
has_low (expression b) n h = grind arith
has_low arithmetic n h = grind arith
has_low notation n h = grind arith
has_low typ n h = absurd (cc)
has_low count n h = absurd (cc)
has_low bound n h = absurd (cc)

pub ahead_after : (m k : Mark) → 1 ≤ prefix_level k → left_of m ≤ prefix_level k → level_of m < prefix_right k
ahead_after m mark.Turnstile p h = omega arith
ahead_after m mark.ReverseTurnstile p h = absurd (omega arith)
ahead_after m mark.SquigglyArrowStar p h = absurd (omega arith)
ahead_after m mark.SquigglyArrow p h = absurd (omega arith)
ahead_after m mark.Colon p h = absurd (omega arith)
ahead_after m mark.Subtype p h = absurd (omega arith)
ahead_after m mark.Supertype p h = absurd (omega arith)
ahead_after m mark.Approximately p h = absurd (omega arith)
ahead_after m mark.Define p h = absurd (omega arith)
ahead_after m mark.Semicolon p h = absurd (omega arith)
ahead_after m mark.Arrow p h = absurd (omega arith)
ahead_after m mark.DotDot p h = absurd (omega arith)
ahead_after m mark.Ellipsis p h = absurd (omega arith)
ahead_after m mark.PlusPlus p h = absurd (omega arith)
ahead_after m mark.ExtendBy p h = absurd (omega arith)
ahead_after m mark.Equal p h = absurd (omega arith)
ahead_after m mark.NotEqual p h = absurd (omega arith)
ahead_after m mark.Less p h = absurd (omega arith)
ahead_after m mark.Greater p h = absurd (omega arith)
ahead_after m mark.LessOrEqual p h = absurd (omega arith)
ahead_after m mark.GreaterOrEqual p h = absurd (omega arith)
ahead_after m mark.ElementOf p h = absurd (omega arith)
ahead_after m mark.Tilde p h = level_before (level_of m) 5 refl h
ahead_after m mark.And p h = absurd (omega arith)
ahead_after m mark.Or p h = absurd (omega arith)
ahead_after m mark.Implies p h = absurd (omega arith)
ahead_after m mark.Equivalent p h = absurd (omega arith)
ahead_after m mark.Plus p h = absurd (omega arith)
ahead_after m mark.Minus p h = level_before (level_of m) 17 refl h
ahead_after m mark.Star p h = absurd (omega arith)
ahead_after m mark.Slash p h = absurd (omega arith)
ahead_after m mark.Backslash p h = absurd (omega arith)
ahead_after m mark.Caret p h = absurd (omega arith)
ahead_after m mark.Question p h = absurd (omega arith)
ahead_after m mark.Bar p h = absurd (omega arith)
ahead_after m mark.Comma p h = absurd (omega arith)
ahead_after m mark.DashDash p h = absurd (omega arith)
ahead_after m mark.OpenParen p h = absurd (omega arith)
ahead_after m mark.CloseParen p h = absurd (omega arith)
ahead_after m mark.OpenBracket p h = absurd (omega arith)
ahead_after m mark.CloseBracket p h = absurd (omega arith)
ahead_after m mark.OpenBrace p h = absurd (omega arith)
ahead_after m mark.CloseBrace p h = absurd (omega arith)
ahead_after m mark.OpenArith p h = absurd (omega arith)
ahead_after m mark.TickParen p h = absurd (omega arith)
ahead_after m mark.TickBracket p h = absurd (omega arith)
ahead_after m mark.TickBrace p h = absurd (omega arith)

-- ---- iteration signs

-- the sign may iterate there
abbrev pub may_iterate : Sort → Mark → Bool
may_iterate (expression b) m = is_iteration_sign m || is_caret m
may_iterate notation m = is_type_iteration_sign m
may_iterate typ m = is_type_iteration_sign m
may_iterate σ m = false

pub iteration_sign_level : (m : Mark) → is_iteration_sign m || is_caret m ≡ true → nat_le 1 (level_of m) && nat_le (level_of m) 13 ≡ false
iteration_sign_level mark.Turnstile e = absurd (cc)
iteration_sign_level mark.ReverseTurnstile e = absurd (cc)
iteration_sign_level mark.SquigglyArrowStar e = absurd (cc)
iteration_sign_level mark.SquigglyArrow e = absurd (cc)
iteration_sign_level mark.Colon e = absurd (cc)
iteration_sign_level mark.Subtype e = absurd (cc)
iteration_sign_level mark.Supertype e = absurd (cc)
iteration_sign_level mark.Approximately e = absurd (cc)
iteration_sign_level mark.Define e = absurd (cc)
iteration_sign_level mark.Semicolon e = absurd (cc)
iteration_sign_level mark.Arrow e = absurd (cc)
iteration_sign_level mark.DotDot e = absurd (cc)
iteration_sign_level mark.Ellipsis e = absurd (cc)
iteration_sign_level mark.PlusPlus e = absurd (cc)
iteration_sign_level mark.ExtendBy e = absurd (cc)
iteration_sign_level mark.Equal e = absurd (cc)
iteration_sign_level mark.NotEqual e = absurd (cc)
iteration_sign_level mark.Less e = absurd (cc)
iteration_sign_level mark.Greater e = absurd (cc)
iteration_sign_level mark.LessOrEqual e = absurd (cc)
iteration_sign_level mark.GreaterOrEqual e = absurd (cc)
iteration_sign_level mark.ElementOf e = absurd (cc)
iteration_sign_level mark.Tilde e = absurd (cc)
iteration_sign_level mark.And e = absurd (cc)
iteration_sign_level mark.Or e = absurd (cc)
iteration_sign_level mark.Implies e = absurd (cc)
iteration_sign_level mark.Equivalent e = absurd (cc)
iteration_sign_level mark.Plus e = refl
iteration_sign_level mark.Minus e = absurd (cc)
iteration_sign_level mark.Star e = refl
iteration_sign_level mark.Slash e = absurd (cc)
iteration_sign_level mark.Backslash e = absurd (cc)
iteration_sign_level mark.Caret e = refl
iteration_sign_level mark.Question e = refl
iteration_sign_level mark.Bar e = absurd (cc)
iteration_sign_level mark.Comma e = absurd (cc)
iteration_sign_level mark.DashDash e = absurd (cc)
iteration_sign_level mark.OpenParen e = absurd (cc)
iteration_sign_level mark.CloseParen e = absurd (cc)
iteration_sign_level mark.OpenBracket e = absurd (cc)
iteration_sign_level mark.CloseBracket e = absurd (cc)
iteration_sign_level mark.OpenBrace e = absurd (cc)
iteration_sign_level mark.CloseBrace e = absurd (cc)
iteration_sign_level mark.OpenArith e = absurd (cc)
iteration_sign_level mark.TickParen e = absurd (cc)
iteration_sign_level mark.TickBracket e = absurd (cc)
iteration_sign_level mark.TickBrace e = absurd (cc)

pub type_iteration_sign_level : (m : Mark) → is_type_iteration_sign m ≡ true → nat_le 7 (level_of m) && nat_le (level_of m) 12 ≡ false
type_iteration_sign_level mark.Turnstile e = absurd (cc)
type_iteration_sign_level mark.ReverseTurnstile e = absurd (cc)
type_iteration_sign_level mark.SquigglyArrowStar e = absurd (cc)
type_iteration_sign_level mark.SquigglyArrow e = absurd (cc)
type_iteration_sign_level mark.Colon e = absurd (cc)
type_iteration_sign_level mark.Subtype e = absurd (cc)
type_iteration_sign_level mark.Supertype e = absurd (cc)
type_iteration_sign_level mark.Approximately e = absurd (cc)
type_iteration_sign_level mark.Define e = absurd (cc)
type_iteration_sign_level mark.Semicolon e = absurd (cc)
type_iteration_sign_level mark.Arrow e = absurd (cc)
type_iteration_sign_level mark.DotDot e = absurd (cc)
type_iteration_sign_level mark.Ellipsis e = absurd (cc)
type_iteration_sign_level mark.PlusPlus e = absurd (cc)
type_iteration_sign_level mark.ExtendBy e = absurd (cc)
type_iteration_sign_level mark.Equal e = absurd (cc)
type_iteration_sign_level mark.NotEqual e = absurd (cc)
type_iteration_sign_level mark.Less e = absurd (cc)
type_iteration_sign_level mark.Greater e = absurd (cc)
type_iteration_sign_level mark.LessOrEqual e = absurd (cc)
type_iteration_sign_level mark.GreaterOrEqual e = absurd (cc)
type_iteration_sign_level mark.ElementOf e = absurd (cc)
type_iteration_sign_level mark.Tilde e = absurd (cc)
type_iteration_sign_level mark.And e = absurd (cc)
type_iteration_sign_level mark.Or e = absurd (cc)
type_iteration_sign_level mark.Implies e = absurd (cc)
type_iteration_sign_level mark.Equivalent e = absurd (cc)
type_iteration_sign_level mark.Plus e = absurd (cc)
type_iteration_sign_level mark.Minus e = absurd (cc)
type_iteration_sign_level mark.Star e = refl
type_iteration_sign_level mark.Slash e = absurd (cc)
type_iteration_sign_level mark.Backslash e = absurd (cc)
type_iteration_sign_level mark.Caret e = absurd (cc)
type_iteration_sign_level mark.Question e = refl
type_iteration_sign_level mark.Bar e = absurd (cc)
type_iteration_sign_level mark.Comma e = absurd (cc)
type_iteration_sign_level mark.DashDash e = absurd (cc)
type_iteration_sign_level mark.OpenParen e = absurd (cc)
type_iteration_sign_level mark.CloseParen e = absurd (cc)
type_iteration_sign_level mark.OpenBracket e = absurd (cc)
type_iteration_sign_level mark.CloseBracket e = absurd (cc)
type_iteration_sign_level mark.OpenBrace e = absurd (cc)
type_iteration_sign_level mark.CloseBrace e = absurd (cc)
type_iteration_sign_level mark.OpenArith e = absurd (cc)
type_iteration_sign_level mark.TickParen e = absurd (cc)
type_iteration_sign_level mark.TickBracket e = absurd (cc)
type_iteration_sign_level mark.TickBrace e = absurd (cc)

pub comma_is : (m : Mark) → is_comma m ≡ true → m ≡ mark.Comma
comma_is mark.Turnstile e = absurd (cc)
comma_is mark.ReverseTurnstile e = absurd (cc)
comma_is mark.SquigglyArrowStar e = absurd (cc)
comma_is mark.SquigglyArrow e = absurd (cc)
comma_is mark.Colon e = absurd (cc)
comma_is mark.Subtype e = absurd (cc)
comma_is mark.Supertype e = absurd (cc)
comma_is mark.Approximately e = absurd (cc)
comma_is mark.Define e = absurd (cc)
comma_is mark.Semicolon e = absurd (cc)
comma_is mark.Arrow e = absurd (cc)
comma_is mark.DotDot e = absurd (cc)
comma_is mark.Ellipsis e = absurd (cc)
comma_is mark.PlusPlus e = absurd (cc)
comma_is mark.ExtendBy e = absurd (cc)
comma_is mark.Equal e = absurd (cc)
comma_is mark.NotEqual e = absurd (cc)
comma_is mark.Less e = absurd (cc)
comma_is mark.Greater e = absurd (cc)
comma_is mark.LessOrEqual e = absurd (cc)
comma_is mark.GreaterOrEqual e = absurd (cc)
comma_is mark.ElementOf e = absurd (cc)
comma_is mark.Tilde e = absurd (cc)
comma_is mark.And e = absurd (cc)
comma_is mark.Or e = absurd (cc)
comma_is mark.Implies e = absurd (cc)
comma_is mark.Equivalent e = absurd (cc)
comma_is mark.Plus e = absurd (cc)
comma_is mark.Minus e = absurd (cc)
comma_is mark.Star e = absurd (cc)
comma_is mark.Slash e = absurd (cc)
comma_is mark.Backslash e = absurd (cc)
comma_is mark.Caret e = absurd (cc)
comma_is mark.Question e = absurd (cc)
comma_is mark.Bar e = absurd (cc)
comma_is mark.Comma e = refl
comma_is mark.DashDash e = absurd (cc)
comma_is mark.OpenParen e = absurd (cc)
comma_is mark.CloseParen e = absurd (cc)
comma_is mark.OpenBracket e = absurd (cc)
comma_is mark.CloseBracket e = absurd (cc)
comma_is mark.OpenBrace e = absurd (cc)
comma_is mark.CloseBrace e = absurd (cc)
comma_is mark.OpenArith e = absurd (cc)
comma_is mark.TickParen e = absurd (cc)
comma_is mark.TickBracket e = absurd (cc)
comma_is mark.TickBrace e = absurd (cc)

pub colon_is : (m : Mark) → is_colon m ≡ true → m ≡ mark.Colon
colon_is mark.Turnstile e = absurd (cc)
colon_is mark.ReverseTurnstile e = absurd (cc)
colon_is mark.SquigglyArrowStar e = absurd (cc)
colon_is mark.SquigglyArrow e = absurd (cc)
colon_is mark.Colon e = refl
colon_is mark.Subtype e = absurd (cc)
colon_is mark.Supertype e = absurd (cc)
colon_is mark.Approximately e = absurd (cc)
colon_is mark.Define e = absurd (cc)
colon_is mark.Semicolon e = absurd (cc)
colon_is mark.Arrow e = absurd (cc)
colon_is mark.DotDot e = absurd (cc)
colon_is mark.Ellipsis e = absurd (cc)
colon_is mark.PlusPlus e = absurd (cc)
colon_is mark.ExtendBy e = absurd (cc)
colon_is mark.Equal e = absurd (cc)
colon_is mark.NotEqual e = absurd (cc)
colon_is mark.Less e = absurd (cc)
colon_is mark.Greater e = absurd (cc)
colon_is mark.LessOrEqual e = absurd (cc)
colon_is mark.GreaterOrEqual e = absurd (cc)
colon_is mark.ElementOf e = absurd (cc)
colon_is mark.Tilde e = absurd (cc)
colon_is mark.And e = absurd (cc)
colon_is mark.Or e = absurd (cc)
colon_is mark.Implies e = absurd (cc)
colon_is mark.Equivalent e = absurd (cc)
colon_is mark.Plus e = absurd (cc)
colon_is mark.Minus e = absurd (cc)
colon_is mark.Star e = absurd (cc)
colon_is mark.Slash e = absurd (cc)
colon_is mark.Backslash e = absurd (cc)
colon_is mark.Caret e = absurd (cc)
colon_is mark.Question e = absurd (cc)
colon_is mark.Bar e = absurd (cc)
colon_is mark.Comma e = absurd (cc)
colon_is mark.DashDash e = absurd (cc)
colon_is mark.OpenParen e = absurd (cc)
colon_is mark.CloseParen e = absurd (cc)
colon_is mark.OpenBracket e = absurd (cc)
colon_is mark.CloseBracket e = absurd (cc)
colon_is mark.OpenBrace e = absurd (cc)
colon_is mark.CloseBrace e = absurd (cc)
colon_is mark.OpenArith e = absurd (cc)
colon_is mark.TickParen e = absurd (cc)
colon_is mark.TickBracket e = absurd (cc)
colon_is mark.TickBrace e = absurd (cc)

pub caret_is : (m : Mark) → is_caret m ≡ true → m ≡ mark.Caret
caret_is mark.Turnstile e = absurd (cc)
caret_is mark.ReverseTurnstile e = absurd (cc)
caret_is mark.SquigglyArrowStar e = absurd (cc)
caret_is mark.SquigglyArrow e = absurd (cc)
caret_is mark.Colon e = absurd (cc)
caret_is mark.Subtype e = absurd (cc)
caret_is mark.Supertype e = absurd (cc)
caret_is mark.Approximately e = absurd (cc)
caret_is mark.Define e = absurd (cc)
caret_is mark.Semicolon e = absurd (cc)
caret_is mark.Arrow e = absurd (cc)
caret_is mark.DotDot e = absurd (cc)
caret_is mark.Ellipsis e = absurd (cc)
caret_is mark.PlusPlus e = absurd (cc)
caret_is mark.ExtendBy e = absurd (cc)
caret_is mark.Equal e = absurd (cc)
caret_is mark.NotEqual e = absurd (cc)
caret_is mark.Less e = absurd (cc)
caret_is mark.Greater e = absurd (cc)
caret_is mark.LessOrEqual e = absurd (cc)
caret_is mark.GreaterOrEqual e = absurd (cc)
caret_is mark.ElementOf e = absurd (cc)
caret_is mark.Tilde e = absurd (cc)
caret_is mark.And e = absurd (cc)
caret_is mark.Or e = absurd (cc)
caret_is mark.Implies e = absurd (cc)
caret_is mark.Equivalent e = absurd (cc)
caret_is mark.Plus e = absurd (cc)
caret_is mark.Minus e = absurd (cc)
caret_is mark.Star e = absurd (cc)
caret_is mark.Slash e = absurd (cc)
caret_is mark.Backslash e = absurd (cc)
caret_is mark.Caret e = refl
caret_is mark.Question e = absurd (cc)
caret_is mark.Bar e = absurd (cc)
caret_is mark.Comma e = absurd (cc)
caret_is mark.DashDash e = absurd (cc)
caret_is mark.OpenParen e = absurd (cc)
caret_is mark.CloseParen e = absurd (cc)
caret_is mark.OpenBracket e = absurd (cc)
caret_is mark.CloseBracket e = absurd (cc)
caret_is mark.OpenBrace e = absurd (cc)
caret_is mark.CloseBrace e = absurd (cc)
caret_is mark.OpenArith e = absurd (cc)
caret_is mark.TickParen e = absurd (cc)
caret_is mark.TickBracket e = absurd (cc)
caret_is mark.TickBrace e = absurd (cc)

pub joins_no_iteration_sign : (σ : Sort) (m : Mark) → has_level σ (level_of m) ≡ true → may_iterate σ m ≡ false
joins_no_iteration_sign (expression b) m h = go (is_iteration_sign m || is_caret m) refl
  where
    go : (c : Bool) → is_iteration_sign m || is_caret m ≡ c → c ≡ false
    go true e = let never = iteration_sign_level m e in absurd (cc)
    go false e = refl
joins_no_iteration_sign notation m h = go (is_type_iteration_sign m) refl
  where
    go : (c : Bool) → is_type_iteration_sign m ≡ c → c ≡ false
    go true e = let never = type_iteration_sign_level m e in absurd (cc)
    go false e = refl
joins_no_iteration_sign arithmetic m h = refl
joins_no_iteration_sign typ m h = absurd (cc)
joins_no_iteration_sign count m h = refl
joins_no_iteration_sign bound m h = refl

pub left_false : (b c : Bool) → b || c ≡ false → b ≡ false
left_false true c e = absurd (cc)
left_false false c e = refl

pub right_false : (b c : Bool) → b || c ≡ false → c ≡ false
right_false true c e = absurd (cc)
right_false false c e = e

pub and_false : (b c : Bool) → b ≡ false → b && c ≡ false
and_false true c e = absurd (cc)
and_false false c e = refl

pub no_post : (σ : Sort) (t : Tree) (m : Mark) (x : Token) → may_iterate σ m ≡ false → may_post σ t (sign m x) ≡ false
no_post (expression b) t m x e = left_false (is_iteration_sign m) (is_caret m) e
no_post arithmetic t m x e = refl
no_post notation t m x e = and_false (is_type_iteration_sign m) _ e
no_post typ t m x e = e
no_post count t m x e = refl
no_post bound t m x e = refl

pub no_caret : (σ : Sort) (m : Mark) → may_iterate σ m ≡ false → is_expression σ && is_caret m ≡ false
no_caret (expression b) m e = right_false (is_iteration_sign m) (is_caret m) e
no_caret arithmetic m e = refl
no_caret notation m e = refl
no_caret typ m e = refl
no_caret count m e = refl
no_caret bound m e = refl
