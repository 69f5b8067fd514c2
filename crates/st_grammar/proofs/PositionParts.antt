-- Parts of definitions are read at their positions.
use Rattle.std.proofs.Common.{◌≡◌, ℕ, List, [], ◌∷◌, ◌++◌, Bool, true, false, Option, Some, None, option_and_then, if◌then◌else◌, refl, sym, ap, subst, ◌∙◌, arith}
use Rattle.st_num.specs.declared.mark.Mark.{Mark}
use Rattle.st_num.specs.declared.token.Token.{Token}
use Rattle.st_grammar.specs.declared.keyword.Keyword.{Keyword}
use Rattle.st_grammar.specs.declared.keyword.Keyword.TheVariants.{Dashes as dashes, NoWord as no_word}
use Rattle.st_grammar.specs.declared.sort.Bracket.TheVariants.{Round as round, Square as square, Brace as brace, TickRound as tick_round, TickSquare as tick_square, TickBrace as tick_brace, Dollar as dollar}
use Rattle.st_grammar.specs.declared.sort.Closing.{Closing}
use Rattle.st_grammar.specs.declared.sort.Closing.TheVariants.{ByRound as by_round, BySquare as by_square, ByBrace as by_brace, ByBar as by_bar}
use Rattle.st_grammar.specs.declared.sort.Sort.{Sort}
use Rattle.st_grammar.specs.Terminals.{Terminal, leaf, dot, sign, opening, closing, other}
use Rattle.st_grammar.specs.Levels.{is_caret, is_colon, is_comma}
use Rattle.st_grammar.specs.Trees.{Tree, led, text}
use Rattle.st_grammar.specs.Grammar.{Fits, level}
use Rattle.st_grammar.specs.Reading as part
use Rattle.st_grammar.specs.Definitions.{keyword, signed, is_slash, is_equal, is_dots, is_bar, opens_round, closes_round, opens_brace, closes_brace}
use Rattle.st_grammar.specs.Positions.{Slot, slot_sort, Position, entering, State, at, inside, whole, begin_def, begun, when, enter, enter_other, own, first_of_two, position_step, filled, taken, finish, reading, reads}
use Rattle.st_grammar.proofs.Sound as sound
use Rattle.st_grammar.proofs.Sound.{and_left, and_right}
use Rattle.st_grammar.proofs.Steps as inner
use Rattle.std.proofs.Common.{nat_le, ◌⊎◌, inl, inr}
use Rattle.st_num.specs.declared.mark.Mark.TheVariants as mark
use Rattle.st_num.specs.declared.word.Word.{Word}
use Rattle.st_num.specs.declared.word.Word.TheVariants as word
use Rattle.st_num.specs.declared.token.TokenKind.{TokenKind}
use Rattle.st_num.specs.declared.token.TokenKind.TheVariants as kind
use Rattle.st_num.specs.Signs.{level as level_of}
use Rattle.st_grammar.specs.Levels.{has_level, tight, left_of}
use Rattle.st_grammar.specs.Trees.{left}
use Rattle.st_grammar.specs.Reading.{Frames, bottom, within, over, timing, sort}
use Rattle.st_grammar.specs.Definitions.{mark_keyword, kind_keyword, is_mix_kind}
use Rattle.st_grammar.proofs.LevelLemmas.{comma_is, colon_is, caret_is, has_low, may_iterate, and_false}
use Rattle.st_grammar.proofs.Complete.{grip, bar_ends, bar_closes, sign_joins, pull_joins}
use Rattle.st_grammar.proofs.CompleteTrees.{complete}
use Rattle.st_grammar.proofs.PositionSteps.{signed_is}

-- ---- tokens by their tests

pub equal_is : (m : Mark) → is_equal m ≡ true → m ≡ mark.Equal
equal_is mark.Turnstile e = absurd (cc)
equal_is mark.ReverseTurnstile e = absurd (cc)
equal_is mark.SquigglyArrowStar e = absurd (cc)
equal_is mark.SquigglyArrow e = absurd (cc)
equal_is mark.Colon e = absurd (cc)
equal_is mark.Subtype e = absurd (cc)
equal_is mark.Supertype e = absurd (cc)
equal_is mark.Approximately e = absurd (cc)
equal_is mark.Define e = absurd (cc)
equal_is mark.Semicolon e = absurd (cc)
equal_is mark.Arrow e = absurd (cc)
equal_is mark.DotDot e = absurd (cc)
equal_is mark.Ellipsis e = absurd (cc)
equal_is mark.PlusPlus e = absurd (cc)
equal_is mark.ExtendBy e = absurd (cc)
equal_is mark.Equal e = refl
equal_is mark.NotEqual e = absurd (cc)
equal_is mark.Less e = absurd (cc)
equal_is mark.Greater e = absurd (cc)
equal_is mark.LessOrEqual e = absurd (cc)
equal_is mark.GreaterOrEqual e = absurd (cc)
equal_is mark.ElementOf e = absurd (cc)
equal_is mark.Tilde e = absurd (cc)
equal_is mark.And e = absurd (cc)
equal_is mark.Or e = absurd (cc)
equal_is mark.Implies e = absurd (cc)
equal_is mark.Equivalent e = absurd (cc)
equal_is mark.Plus e = absurd (cc)
equal_is mark.Minus e = absurd (cc)
equal_is mark.Star e = absurd (cc)
equal_is mark.Slash e = absurd (cc)
equal_is mark.Backslash e = absurd (cc)
equal_is mark.Caret e = absurd (cc)
equal_is mark.Question e = absurd (cc)
equal_is mark.Bar e = absurd (cc)
equal_is mark.Comma e = absurd (cc)
equal_is mark.DashDash e = absurd (cc)
equal_is mark.OpenParen e = absurd (cc)
equal_is mark.CloseParen e = absurd (cc)
equal_is mark.OpenBracket e = absurd (cc)
equal_is mark.CloseBracket e = absurd (cc)
equal_is mark.OpenBrace e = absurd (cc)
equal_is mark.CloseBrace e = absurd (cc)
equal_is mark.OpenArith e = absurd (cc)
equal_is mark.TickParen e = absurd (cc)
equal_is mark.TickBracket e = absurd (cc)
equal_is mark.TickBrace e = absurd (cc)

pub slash_is : (m : Mark) → is_slash m ≡ true → m ≡ mark.Slash
slash_is mark.Turnstile e = absurd (cc)
slash_is mark.ReverseTurnstile e = absurd (cc)
slash_is mark.SquigglyArrowStar e = absurd (cc)
slash_is mark.SquigglyArrow e = absurd (cc)
slash_is mark.Colon e = absurd (cc)
slash_is mark.Subtype e = absurd (cc)
slash_is mark.Supertype e = absurd (cc)
slash_is mark.Approximately e = absurd (cc)
slash_is mark.Define e = absurd (cc)
slash_is mark.Semicolon e = absurd (cc)
slash_is mark.Arrow e = absurd (cc)
slash_is mark.DotDot e = absurd (cc)
slash_is mark.Ellipsis e = absurd (cc)
slash_is mark.PlusPlus e = absurd (cc)
slash_is mark.ExtendBy e = absurd (cc)
slash_is mark.Equal e = absurd (cc)
slash_is mark.NotEqual e = absurd (cc)
slash_is mark.Less e = absurd (cc)
slash_is mark.Greater e = absurd (cc)
slash_is mark.LessOrEqual e = absurd (cc)
slash_is mark.GreaterOrEqual e = absurd (cc)
slash_is mark.ElementOf e = absurd (cc)
slash_is mark.Tilde e = absurd (cc)
slash_is mark.And e = absurd (cc)
slash_is mark.Or e = absurd (cc)
slash_is mark.Implies e = absurd (cc)
slash_is mark.Equivalent e = absurd (cc)
slash_is mark.Plus e = absurd (cc)
slash_is mark.Minus e = absurd (cc)
slash_is mark.Star e = absurd (cc)
slash_is mark.Slash e = refl
slash_is mark.Backslash e = absurd (cc)
slash_is mark.Caret e = absurd (cc)
slash_is mark.Question e = absurd (cc)
slash_is mark.Bar e = absurd (cc)
slash_is mark.Comma e = absurd (cc)
slash_is mark.DashDash e = absurd (cc)
slash_is mark.OpenParen e = absurd (cc)
slash_is mark.CloseParen e = absurd (cc)
slash_is mark.OpenBracket e = absurd (cc)
slash_is mark.CloseBracket e = absurd (cc)
slash_is mark.OpenBrace e = absurd (cc)
slash_is mark.CloseBrace e = absurd (cc)
slash_is mark.OpenArith e = absurd (cc)
slash_is mark.TickParen e = absurd (cc)
slash_is mark.TickBracket e = absurd (cc)
slash_is mark.TickBrace e = absurd (cc)

pub dots_is : (m : Mark) → is_dots m ≡ true → m ≡ mark.Ellipsis
dots_is mark.Turnstile e = absurd (cc)
dots_is mark.ReverseTurnstile e = absurd (cc)
dots_is mark.SquigglyArrowStar e = absurd (cc)
dots_is mark.SquigglyArrow e = absurd (cc)
dots_is mark.Colon e = absurd (cc)
dots_is mark.Subtype e = absurd (cc)
dots_is mark.Supertype e = absurd (cc)
dots_is mark.Approximately e = absurd (cc)
dots_is mark.Define e = absurd (cc)
dots_is mark.Semicolon e = absurd (cc)
dots_is mark.Arrow e = absurd (cc)
dots_is mark.DotDot e = absurd (cc)
dots_is mark.Ellipsis e = refl
dots_is mark.PlusPlus e = absurd (cc)
dots_is mark.ExtendBy e = absurd (cc)
dots_is mark.Equal e = absurd (cc)
dots_is mark.NotEqual e = absurd (cc)
dots_is mark.Less e = absurd (cc)
dots_is mark.Greater e = absurd (cc)
dots_is mark.LessOrEqual e = absurd (cc)
dots_is mark.GreaterOrEqual e = absurd (cc)
dots_is mark.ElementOf e = absurd (cc)
dots_is mark.Tilde e = absurd (cc)
dots_is mark.And e = absurd (cc)
dots_is mark.Or e = absurd (cc)
dots_is mark.Implies e = absurd (cc)
dots_is mark.Equivalent e = absurd (cc)
dots_is mark.Plus e = absurd (cc)
dots_is mark.Minus e = absurd (cc)
dots_is mark.Star e = absurd (cc)
dots_is mark.Slash e = absurd (cc)
dots_is mark.Backslash e = absurd (cc)
dots_is mark.Caret e = absurd (cc)
dots_is mark.Question e = absurd (cc)
dots_is mark.Bar e = absurd (cc)
dots_is mark.Comma e = absurd (cc)
dots_is mark.DashDash e = absurd (cc)
dots_is mark.OpenParen e = absurd (cc)
dots_is mark.CloseParen e = absurd (cc)
dots_is mark.OpenBracket e = absurd (cc)
dots_is mark.CloseBracket e = absurd (cc)
dots_is mark.OpenBrace e = absurd (cc)
dots_is mark.CloseBrace e = absurd (cc)
dots_is mark.OpenArith e = absurd (cc)
dots_is mark.TickParen e = absurd (cc)
dots_is mark.TickBracket e = absurd (cc)
dots_is mark.TickBrace e = absurd (cc)

pub dashes_is : (m : Mark) → mark_keyword m ≡ dashes → m ≡ mark.DashDash
dashes_is mark.Turnstile e = absurd (cc)
dashes_is mark.ReverseTurnstile e = absurd (cc)
dashes_is mark.SquigglyArrowStar e = absurd (cc)
dashes_is mark.SquigglyArrow e = absurd (cc)
dashes_is mark.Colon e = absurd (cc)
dashes_is mark.Subtype e = absurd (cc)
dashes_is mark.Supertype e = absurd (cc)
dashes_is mark.Approximately e = absurd (cc)
dashes_is mark.Define e = absurd (cc)
dashes_is mark.Semicolon e = absurd (cc)
dashes_is mark.Arrow e = absurd (cc)
dashes_is mark.DotDot e = absurd (cc)
dashes_is mark.Ellipsis e = absurd (cc)
dashes_is mark.PlusPlus e = absurd (cc)
dashes_is mark.ExtendBy e = absurd (cc)
dashes_is mark.Equal e = absurd (cc)
dashes_is mark.NotEqual e = absurd (cc)
dashes_is mark.Less e = absurd (cc)
dashes_is mark.Greater e = absurd (cc)
dashes_is mark.LessOrEqual e = absurd (cc)
dashes_is mark.GreaterOrEqual e = absurd (cc)
dashes_is mark.ElementOf e = absurd (cc)
dashes_is mark.Tilde e = absurd (cc)
dashes_is mark.And e = absurd (cc)
dashes_is mark.Or e = absurd (cc)
dashes_is mark.Implies e = absurd (cc)
dashes_is mark.Equivalent e = absurd (cc)
dashes_is mark.Plus e = absurd (cc)
dashes_is mark.Minus e = absurd (cc)
dashes_is mark.Star e = absurd (cc)
dashes_is mark.Slash e = absurd (cc)
dashes_is mark.Backslash e = absurd (cc)
dashes_is mark.Caret e = absurd (cc)
dashes_is mark.Question e = absurd (cc)
dashes_is mark.Bar e = absurd (cc)
dashes_is mark.Comma e = absurd (cc)
dashes_is mark.DashDash e = refl
dashes_is mark.OpenParen e = absurd (cc)
dashes_is mark.CloseParen e = absurd (cc)
dashes_is mark.OpenBracket e = absurd (cc)
dashes_is mark.CloseBracket e = absurd (cc)
dashes_is mark.OpenBrace e = absurd (cc)
dashes_is mark.CloseBrace e = absurd (cc)
dashes_is mark.OpenArith e = absurd (cc)
dashes_is mark.TickParen e = absurd (cc)
dashes_is mark.TickBracket e = absurd (cc)
dashes_is mark.TickBrace e = absurd (cc)

pub mark_words : (m : Mark) → (mark_keyword m ≡ dashes) ⊎ (mark_keyword m ≡ no_word)
mark_words mark.Turnstile = inr refl
mark_words mark.ReverseTurnstile = inr refl
mark_words mark.SquigglyArrowStar = inr refl
mark_words mark.SquigglyArrow = inr refl
mark_words mark.Colon = inr refl
mark_words mark.Subtype = inr refl
mark_words mark.Supertype = inr refl
mark_words mark.Approximately = inr refl
mark_words mark.Define = inr refl
mark_words mark.Semicolon = inr refl
mark_words mark.Arrow = inr refl
mark_words mark.DotDot = inr refl
mark_words mark.Ellipsis = inr refl
mark_words mark.PlusPlus = inr refl
mark_words mark.ExtendBy = inr refl
mark_words mark.Equal = inr refl
mark_words mark.NotEqual = inr refl
mark_words mark.Less = inr refl
mark_words mark.Greater = inr refl
mark_words mark.LessOrEqual = inr refl
mark_words mark.GreaterOrEqual = inr refl
mark_words mark.ElementOf = inr refl
mark_words mark.Tilde = inr refl
mark_words mark.And = inr refl
mark_words mark.Or = inr refl
mark_words mark.Implies = inr refl
mark_words mark.Equivalent = inr refl
mark_words mark.Plus = inr refl
mark_words mark.Minus = inr refl
mark_words mark.Star = inr refl
mark_words mark.Slash = inr refl
mark_words mark.Backslash = inr refl
mark_words mark.Caret = inr refl
mark_words mark.Question = inr refl
mark_words mark.Bar = inr refl
mark_words mark.Comma = inr refl
mark_words mark.DashDash = inl refl
mark_words mark.OpenParen = inr refl
mark_words mark.CloseParen = inr refl
mark_words mark.OpenBracket = inr refl
mark_words mark.CloseBracket = inr refl
mark_words mark.OpenBrace = inr refl
mark_words mark.CloseBrace = inr refl
mark_words mark.OpenArith = inr refl
mark_words mark.TickParen = inr refl
mark_words mark.TickBracket = inr refl
mark_words mark.TickBrace = inr refl

pub at_comma : (l : Terminal) → signed is_comma l ≡ true → (x : Token) × (l ≡ sign mark.Comma x)
at_comma l e = let s = signed_is is_comma l e in (s.1, s.2 ∙ ap (λ m. sign m s.1) (comma_is s.0 s.3))

pub at_colon : (l : Terminal) → signed is_colon l ≡ true → (x : Token) × (l ≡ sign mark.Colon x)
at_colon l e = let s = signed_is is_colon l e in (s.1, s.2 ∙ ap (λ m. sign m s.1) (colon_is s.0 s.3))

pub at_caret : (l : Terminal) → signed is_caret l ≡ true → (x : Token) × (l ≡ sign mark.Caret x)
at_caret l e = let s = signed_is is_caret l e in (s.1, s.2 ∙ ap (λ m. sign m s.1) (caret_is s.0 s.3))

pub at_equal : (l : Terminal) → signed is_equal l ≡ true → (x : Token) × (l ≡ sign mark.Equal x)
at_equal l e = let s = signed_is is_equal l e in (s.1, s.2 ∙ ap (λ m. sign m s.1) (equal_is s.0 s.3))

pub at_slash : (l : Terminal) → signed is_slash l ≡ true → (x : Token) × (l ≡ sign mark.Slash x)
at_slash l e = let s = signed_is is_slash l e in (s.1, s.2 ∙ ap (λ m. sign m s.1) (slash_is s.0 s.3))

pub at_dots : (l : Terminal) → signed is_dots l ≡ true → (x : Token) × (l ≡ sign mark.Ellipsis x)
at_dots l e = let s = signed_is is_dots l e in (s.1, s.2 ∙ ap (λ m. sign m s.1) (dots_is s.0 s.3))

pub at_close : (l : Terminal) → closes_round l ≡ true → (x : Token) × (l ≡ closing by_round x)
at_close (leaf k x) e = absurd (cc)
at_close (dot x) e = absurd (cc)
at_close (sign m x) e = absurd (cc)
at_close (opening k x) e = absurd (cc)
at_close (closing by_round x) e = (x, refl)
at_close (closing by_square x) e = absurd (cc)
at_close (closing by_brace x) e = absurd (cc)
at_close (closing by_bar x) e = absurd (cc)
at_close (other x) e = absurd (cc)

pub at_close_brace : (l : Terminal) → closes_brace l ≡ true → (x : Token) × (l ≡ closing by_brace x)
at_close_brace (leaf k x) e = absurd (cc)
at_close_brace (dot x) e = absurd (cc)
at_close_brace (sign m x) e = absurd (cc)
at_close_brace (opening k x) e = absurd (cc)
at_close_brace (closing by_round x) e = absurd (cc)
at_close_brace (closing by_square x) e = absurd (cc)
at_close_brace (closing by_brace x) e = (x, refl)
at_close_brace (closing by_bar x) e = absurd (cc)
at_close_brace (other x) e = absurd (cc)

pub at_bar : (l : Terminal) → is_bar l ≡ true → (x : Token) × (l ≡ closing by_bar x)
at_bar (leaf k x) e = absurd (cc)
at_bar (dot x) e = absurd (cc)
at_bar (sign m x) e = absurd (cc)
at_bar (opening k x) e = absurd (cc)
at_bar (closing by_round x) e = absurd (cc)
at_bar (closing by_square x) e = absurd (cc)
at_bar (closing by_brace x) e = absurd (cc)
at_bar (closing by_bar x) e = (x, refl)
at_bar (other x) e = absurd (cc)

pub at_open : (l : Terminal) → opens_round l ≡ true → (x : Token) × (l ≡ opening round x)
at_open (leaf k x) e = absurd (cc)
at_open (dot x) e = absurd (cc)
at_open (sign m x) e = absurd (cc)
at_open (opening round x) e = (x, refl)
at_open (opening square x) e = absurd (cc)
at_open (opening brace x) e = absurd (cc)
at_open (opening tick_round x) e = absurd (cc)
at_open (opening tick_square x) e = absurd (cc)
at_open (opening tick_brace x) e = absurd (cc)
at_open (opening dollar x) e = absurd (cc)
at_open (closing c x) e = absurd (cc)
at_open (other x) e = absurd (cc)

pub at_open_brace : (l : Terminal) → opens_brace l ≡ true → (x : Token) × (l ≡ opening brace x)
at_open_brace (leaf k x) e = absurd (cc)
at_open_brace (dot x) e = absurd (cc)
at_open_brace (sign m x) e = absurd (cc)
at_open_brace (opening round x) e = absurd (cc)
at_open_brace (opening square x) e = absurd (cc)
at_open_brace (opening brace x) e = (x, refl)
at_open_brace (opening tick_round x) e = absurd (cc)
at_open_brace (opening tick_square x) e = absurd (cc)
at_open_brace (opening tick_brace x) e = absurd (cc)
at_open_brace (opening dollar x) e = absurd (cc)
at_open_brace (closing c x) e = absurd (cc)
at_open_brace (other x) e = absurd (cc)

pub at_dashes : (l : Terminal) → keyword l ≡ dashes → (x : Token) × (l ≡ sign mark.DashDash x)
at_dashes (leaf k x) e = absurd (cc)
at_dashes (dot x) e = absurd (cc)
at_dashes (sign m x) e = (x, ap (λ k. sign k x) (dashes_is m e))
at_dashes (opening k x) e = absurd (cc)
at_dashes (closing c x) e = absurd (cc)
at_dashes (other x) e = absurd (no_dashes x.kind e)
  where
    no_dashes : (k : TokenKind) → kind_keyword k ≡ dashes → ⊥
    no_dashes (kind.Low n) f = absurd (cc)
    no_dashes (kind.Up n) f = absurd (cc)
    no_dashes (kind.Mix n) f = absurd (cc)
    no_dashes (kind.Reserved w) f = words w f
      where
        words : (v : Word) → kind_keyword (kind.Reserved v) ≡ dashes → ⊥
        words word.Syntax g = absurd (cc)
        words word.Relation g = absurd (cc)
        words word.Rule g = absurd (cc)
        words word.Var g = absurd (cc)
        words word.Def g = absurd (cc)
        words word.Grammar g = absurd (cc)
        words word.Hint g = absurd (cc)
        words word.If g = absurd (cc)
        words word.Otherwise g = absurd (cc)
        words word.Eps g = absurd (cc)
        words word.True g = absurd (cc)
        words word.False g = absurd (cc)
        words word.Bool g = absurd (cc)
        words word.Nat g = absurd (cc)
        words word.Int g = absurd (cc)
        words word.Text g = absurd (cc)
        words word.Rat g = absurd (cc)
        words word.Real g = absurd (cc)
    no_dashes (kind.Number n) f = absurd (cc)
    no_dashes (kind.Text n) f = absurd (cc)
    no_dashes (kind.Dot n) f = absurd (cc)
    no_dashes (kind.Fun n) f = absurd (cc)
    no_dashes (kind.Sign m) f = absurd (cc)

-- the words that are neither `--` nor none
abbrev pub is_reserved : Keyword → Bool
is_reserved dashes = false
is_reserved no_word = false
is_reserved k = true

pub at_word : (l : Terminal) → is_reserved (keyword l) ≡ true → (x : Token) × (l ≡ other x)
at_word (leaf k x) e = absurd (cc)
at_word (dot x) e = absurd (cc)
at_word (sign m x) e = go (mark_words m)
  where
    go : ((mark_keyword m ≡ dashes) ⊎ (mark_keyword m ≡ no_word)) → (y : Token) × (sign m x ≡ other y)
    go (inl f) = let never : is_reserved dashes ≡ true = ap is_reserved (sym f) ∙ e in absurd (cc)
    go (inr f) = let never : is_reserved no_word ≡ true = ap is_reserved (sym f) ∙ e in absurd (cc)
at_word (opening k x) e = absurd (cc)
at_word (closing c x) e = absurd (cc)
at_word (other x) e = (x, refl)

pub mix_no_word : (k : TokenKind) → is_mix_kind k ≡ true → kind_keyword k ≡ no_word
mix_no_word (kind.Low n) e = absurd (cc)
mix_no_word (kind.Up n) e = absurd (cc)
mix_no_word (kind.Mix n) e = refl
mix_no_word (kind.Reserved w) e = absurd (cc)
mix_no_word (kind.Number n) e = absurd (cc)
mix_no_word (kind.Text n) e = absurd (cc)
mix_no_word (kind.Dot n) e = absurd (cc)
mix_no_word (kind.Fun n) e = absurd (cc)
mix_no_word (kind.Sign m) e = absurd (cc)

-- ---- one token

pub own_step : (p : Position) (l : Terminal) (st : State) (w : List Terminal) → own p l ≡ Some st → reads (at p) (l ∷ w) ≡ reads st w
own_step p l st w e =
    ap (λ o. option_and_then finish (option_and_then (λ next. reading next w) (first_of_two o (option_and_then (λ ds. begin_def ds l (keyword l)) (whole p))))) e

pub when_step : (p : Position) (l : Terminal) (b : Bool) (st : State) (w : List Terminal) → own p l ≡ when b st → b ≡ true → reads (at p) (l ∷ w) ≡ reads st w
when_step p l b st w o e = own_step p l st w (o ∙ ap (λ c. when c st) e)

-- ---- parts

-- a token that ends a part of such a sort
abbrev pub Stops : Sort → List Terminal → Type 0
Stops σ [] = Unit {0}
Stops σ (l ∷ w) = grip σ l ≡ 0

pub lower_sort : (n : ℕ) (t : Tree) (fs : Frames) → sort (part.lower n t fs).1 ≡ sort fs
lower_sort n t (bottom σ) = refl
lower_sort n t (within h ts pre fs) = refl
lower_sort n t (timing u m x fs) = refl
lower_sort n t (over g fs) = go (nat_le (part.reach g) n) (lower_sort n (led g t) fs)
  where
    go : (b : Bool) → sort (part.lower n (led g t) fs).1 ≡ sort fs → sort (if b then (t, over g fs) else part.lower n (led g t) fs).1 ≡ sort fs
    go true e = refl
    go false e = e

pub ended_sort : (t : Tree) (fs : Frames) (u : Tree) → part.ended (part.lower 0 t fs) ≡ Some u → sort fs ≡ sound.base fs
ended_sort t (bottom σ) u e = refl
ended_sort t (within h ts pre fs) u e = absurd (cc)
ended_sort t (timing v m x fs) u e = absurd (cc)
ended_sort t (over g fs) u e = go (nat_le (part.reach g) 0) e (λ k. ended_sort (led g t) fs u k)
  where
    go : (b : Bool) → part.ended (if b then (t, over g fs) else part.lower 0 (led g t) fs) ≡ Some u → (part.ended (part.lower 0 (led g t) fs) ≡ Some u → sort fs ≡ sound.base fs) → sort fs ≡ sound.base fs
    go true k f = absurd (cc)
    go false k f = f k

pub close_ended : (c : Closing) (x : Token) (p : Tree × Frames) (u : Tree) → part.ended p ≡ Some u → part.close c x p ≡ None
close_ended c x (t, bottom σ) u e = refl
close_ended c x (t, within h ts pre fs) u e = absurd (cc)
close_ended c x (t, over g fs) u e = absurd (cc)
close_ended c x (t, timing v m y fs) u e = absurd (cc)

pub separate_ended : (m : Mark) (x : Token) (p : Tree × Frames) (u : Tree) → part.ended p ≡ Some u → part.separate m x p ≡ None
separate_ended m x (t, bottom σ) u e = refl
separate_ended m x (t, within h ts pre fs) u e = absurd (cc)
separate_ended m x (t, over g fs) u e = absurd (cc)
separate_ended m x (t, timing v k y fs) u e = absurd (cc)

pub join_ended : (m : Mark) (x : Token) (p : Tree × Frames) (u : Tree) → part.ended p ≡ Some u → has_level (sort p.1) (level_of m) ≡ false → part.join m x p ≡ None
join_ended m x p u e f =
    ap (λ b. if b then if nat_le (left_of m) (level p.0) then Some (part.want (over (left p.0 m x) p.1)) else None else part.separate m x p) (and_false (has_level (sort p.1) (level_of m)) (nat_le (part.least p.1) (level_of m)) f)
    ∙ separate_ended m x p u e

pub no_pull : (σ : Sort) (m : Mark) → part.pull σ m ≡ 0 → has_level σ (level_of m) ≡ false
no_pull σ m e = go (has_level σ (level_of m)) refl
  where
    go : (b : Bool) → has_level σ (level_of m) ≡ b → b ≡ false
    go true h = absurd (omega (arith, has_low σ (level_of m) h, pull_joins σ m h))
    go false h = refl

-- a part that may end here ends before such a token
pub refuses_got : (t : Tree) (fs : Frames) (u : Tree) (l : Terminal) → part.ended (part.lower 0 t fs) ≡ Some u → grip (sort fs) l ≡ 0 → part.after t fs l ≡ None
refuses_got t fs u (leaf k x) e g = absurd (omega arith)
refuses_got t fs u (dot x) e g = absurd (omega arith)
refuses_got t fs u (opening k x) e g = absurd (omega arith)
refuses_got t fs u (other x) e g = refl
refuses_got t fs u (closing by_round x) e g = close_ended by_round x (part.lower 0 t fs) u e
refuses_got t fs u (closing by_square x) e g = close_ended by_square x (part.lower 0 t fs) u e
refuses_got t fs u (closing by_brace x) e g = close_ended by_brace x (part.lower 0 t fs) u e
refuses_got t fs u (closing by_bar x) e g = go (bar_ends (sort fs)) refl g
  where
    go : (b : Bool) → bar_ends (sort fs) ≡ b → (if b then 0 else tight) ≡ 0 → part.after t fs (closing by_bar x) ≡ None
    go true h k = bar_closes t fs x h ∙ close_ended by_bar x (part.lower 0 t fs) u e
    go false h k = absurd (omega arith)
refuses_got t fs u (sign m x) e g = go (may_iterate (sort fs) m) refl g
  where
    go : (b : Bool) → may_iterate (sort fs) m ≡ b → (if b then tight else part.pull (sort fs) m) ≡ 0 → part.after t fs (sign m x) ≡ None
    go true h k = absurd (omega arith)
    go false h k =
        sign_joins t fs m x h
        ∙ ap (λ n. part.join m x (part.lower n t fs)) k
        ∙ join_ended m x (part.lower 0 t fs) u e (subst (λ σ. has_level σ (level_of m) ≡ false) (sym (lower_sort 0 t fs)) (no_pull (sort fs) m k))

pub refuses : (σ : Sort) (st : part.State) (u : Tree) (l : Terminal) → part.finish st ≡ Some u → sound.state_base st ≡ σ → grip σ l ≡ 0 → part.step st l ≡ None
refuses σ (part.want fs) u l e b g = absurd (cc)
refuses σ (part.naming h ts pre fs) u l e b g = absurd (cc)
refuses σ (part.pathed p fs) u l e b g = absurd (cc)
refuses σ (part.indexing o fs) u l e b g = absurd (cc)
refuses σ (part.comparing o i fs) u l e b g = absurd (cc)
refuses σ (part.got t fs) u l e b g = refuses_got t fs u l e (subst (λ τ. grip τ l ≡ 0) (sym (ended_sort t fs u e ∙ b)) g)

pub inner_run : (s : Slot) (us : List Terminal) (st last : part.State) (w : List Terminal) → part.reading st us ≡ Some last → reading (inside s st) (us ++ w) ≡ reading (inside s last) w
inner_run s [] st last w e = let same : st ≡ last = cc in ap (λ q. reading (inside s q) w) same
inner_run s (l ∷ us) st last w e = go (part.step st l) e (λ next f. inner_run s us next last w f)
  where
    go : (o : Option part.State) → option_and_then (λ next. part.reading next us) o ≡ Some last → ((next : part.State) → part.reading next us ≡ Some last → reading (inside s next) (us ++ w) ≡ reading (inside s last) w)
        → option_and_then (λ next. reading next (us ++ w)) (taken s st l o) ≡ reading (inside s last) w
    go None f rest = absurd (cc)
    go (Some next) f rest = rest next f

pub ends_part : (s : Slot) (st : part.State) (t : Tree) (w : List Terminal) → part.finish st ≡ Some t → sound.state_base st ≡ slot_sort s → Stops (slot_sort s) w → reads (inside s st) w ≡ reads (at (filled s t)) w
ends_part s st t [] e b g = ap (λ o. option_and_then (λ u. whole (filled s u)) o) e
ends_part s st t (l ∷ w) e b g =
    ap (λ o. option_and_then finish (option_and_then (λ next. reading next w) (taken s st l o))) (refuses (slot_sort s) st t l e b g)
    ∙ ap (λ o. option_and_then finish (option_and_then (λ next. reading next w) (option_and_then (λ u. position_step (filled s u) l) o))) e

pub and_then_some : (o : Option part.State) (t : Tree) → option_and_then part.finish o ≡ Some t → (st : part.State) × (o ≡ Some st) × (part.finish st ≡ Some t)
and_then_some None t e = absurd (cc)
and_then_some (Some st) t e = (st, refl, e)

-- a part at its position
pub slot_read : (s : Slot) (t : Tree) (w : List Terminal) → Fits (slot_sort s) t → Stops (slot_sort s) w → reads (begun s) (text t ++ w) ≡ reads (at (filled s t)) w
slot_read s t w f g =
    let σ = slot_sort s in
    let done = complete σ (text t) t (record { fits = f; spelled = refl }) in
    let last = and_then_some (part.reading (part.start σ) (text t)) t done in
    let r = inner.reached_by σ (text t) last.0 last.1 in
    ap (option_and_then finish) (inner_run s (text t) (part.start σ) last.0 w last.1) ∙ ends_part s last.0 t w last.2 r.based g

-- the same where something else may stand instead
pub enter_read : (s : Slot) (t : Tree) (w : List Terminal) → Fits (slot_sort s) t → reads (at (entering s)) (text t ++ w) ≡ reads (begun s) (text t ++ w)
enter_read s t w f = go (text t) (complete (slot_sort s) (text t) t (record { fits = f; spelled = refl }))
  where
    go : (us : List Terminal) → part.reads (part.start (slot_sort s)) us ≡ Some t → reads (at (entering s)) (us ++ w) ≡ reads (begun s) (us ++ w)
    go [] e = absurd (cc)
    go (l ∷ us) e = step_of (part.step (part.start (slot_sort s)) l) refl e
      where
        step_of : (o : Option part.State) → part.step (part.start (slot_sort s)) l ≡ o → option_and_then part.finish (option_and_then (λ next. part.reading next us) o) ≡ Some t
            → reads (at (entering s)) (l ∷ (us ++ w)) ≡ reads (begun s) (l ∷ (us ++ w))
        step_of None i k = absurd (cc)
        step_of (Some st) i k =
            own_step (entering s) l (inside s st) (us ++ w) (ap (λ o. enter s o (enter_other s l)) i)
            ∙ ap (λ o. option_and_then finish (option_and_then (λ next. reading next (us ++ w)) (taken s (part.start (slot_sort s)) l o))) (sym i)
