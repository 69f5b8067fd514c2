-- The tables of signs and words: each has all of them, and the longest signs come first.
use Rattle.std.proofs.Common.{◌≡◌, ℕ, ◌≤◌, ◌<◌, List, ◌++◌, length, get_or, drop, Bool, true, false, refl, sym, ap, ◌∙◌, if◌then◌else◌, arith, ◌⊎◌, inl, inr, ◌==◌}
use Rattle.std.proofs.lemmas.Bool.{eqb-true, agree_below_at, cases_lt, false≢true}
use Rattle.std.proofs.lemmas.Bool.Decides.{nat_tests, Decides-eqb}
use Rattle.std.proofs.lemmas.Slice.Eq.{starts_is}
use Rattle.std.proofs.Math.Dec.{ltb, eqb}
use Rattle.std.specs.List.{starts_with}
use Rattle.st_scan.specs.Signs.{LongestSign}
use Rattle.st_num.specs.Signs.{spelling}
use Rattle.st_num.specs.declared.mark.Mark.{Mark}
use Rattle.st_num.specs.declared.mark.Mark.TheVariants.{Turnstile, ReverseTurnstile, SquigglyArrowStar, SquigglyArrow, Colon, Subtype, Supertype, Approximately, Define, Semicolon, Arrow, DotDot, Ellipsis, PlusPlus, ExtendBy, Equal, NotEqual, Less, Greater, LessOrEqual, GreaterOrEqual, ElementOf, Tilde, And, Or, Implies, Equivalent, Plus, Minus, Star, Slash, Backslash, Caret, Question, Bar, Comma, DashDash, OpenParen, CloseParen, OpenBracket, CloseBracket, OpenBrace, CloseBrace, OpenArith, TickParen, TickBracket, TickBrace}
use Rattle.st_num.specs.declared.mark.TheConstants.Mark.{ALL as SIGNS}
use Rattle.st_num.specs.declared.word.TheConstants.Word.{ALL as WORDS}
use Rattle.st_num.specs.declared.word.Word.{Word}
use Rattle.st_num.specs.declared.word.Word.TheVariants.{Syntax, Relation, Rule, Var, Def, Grammar, Hint, If, Otherwise, Eps, True, False, Nat, Int, Text, Rat, Real}
use Rattle.st_num.specs.declared.word.Word.TheVariants as word

-- where a sign stands in the table
abbrev pub sign_place : Mark → ℕ
sign_place SquigglyArrowStar = 0
sign_place Ellipsis = 1
sign_place ExtendBy = 2
sign_place NotEqual = 3
sign_place Equivalent = 4
sign_place Turnstile = 5
sign_place ReverseTurnstile = 6
sign_place SquigglyArrow = 7
sign_place Subtype = 8
sign_place Supertype = 9
sign_place Approximately = 10
sign_place Define = 11
sign_place Arrow = 12
sign_place DotDot = 13
sign_place PlusPlus = 14
sign_place LessOrEqual = 15
sign_place GreaterOrEqual = 16
sign_place ElementOf = 17
sign_place And = 18
sign_place Or = 19
sign_place Implies = 20
sign_place DashDash = 21
sign_place OpenArith = 22
sign_place TickParen = 23
sign_place TickBracket = 24
sign_place TickBrace = 25
sign_place Colon = 26
sign_place Semicolon = 27
sign_place Equal = 28
sign_place Less = 29
sign_place Greater = 30
sign_place Tilde = 31
sign_place Plus = 32
sign_place Minus = 33
sign_place Star = 34
sign_place Slash = 35
sign_place Backslash = 36
sign_place Caret = 37
sign_place Question = 38
sign_place Bar = 39
sign_place Comma = 40
sign_place OpenParen = 41
sign_place CloseParen = 42
sign_place OpenBracket = 43
sign_place CloseBracket = 44
sign_place OpenBrace = 45
sign_place CloseBrace = 46

pub sign_there : (m : Mark) → get_or SIGNS (sign_place m) Turnstile ≡ m
sign_there Turnstile = refl
sign_there _ = refl

pub sign_place_below : (m : Mark) → sign_place m < 47
sign_place_below Turnstile = omega arith
sign_place_below _ = omega arith

-- how long the sign at a place of the table is
abbrev pub length_at : ℕ → ℕ
length_at i = if ltb i 5 then 3 else if ltb i 26 then 2 else 1

pub sign_length : (i : ℕ) → i < 47 → length (spelling (get_or SIGNS i Turnstile)) ≡ length_at i
sign_length i h = eqb-true _ _ (agree_below_at (λ k. length (spelling (get_or SIGNS k Turnstile)) == length_at k) (λ _. true) 47 i refl h)

length_falls : (i j : ℕ) → i ≤ j → length_at j ≤ length_at i
length_falls i j h = grind (arith, nat_tests)

-- a sign at a later place is no longer
pub signs_fall : (m : Mark) (i : ℕ) → i ≤ sign_place m → length (spelling m) ≤ length (spelling (get_or SIGNS i Turnstile))
signs_fall m i h =
    let below : sign_place m < 47 = sign_place_below m in
    let mine : length (spelling m) ≡ length_at (sign_place m) = ap (λ s. length (spelling s)) (sym (sign_there m)) ∙ sign_length (sign_place m) below in
    let its : length (spelling (get_or SIGNS i Turnstile)) ≡ length_at i = sign_length i (omega arith) in
    let falls : length_at (sign_place m) ≤ length_at i = length_falls i (sign_place m) h in
    omega (arith, mine, its, falls)

-- where a word stands in its table
abbrev pub word_place : Word → ℕ
word_place Syntax = 0
word_place Relation = 1
word_place Rule = 2
word_place Var = 3
word_place Def = 4
word_place Grammar = 5
word_place Hint = 6
word_place If = 7
word_place Otherwise = 8
word_place Eps = 9
word_place True = 10
word_place False = 11
word_place word.Bool = 12
word_place Nat = 13
word_place Int = 14
word_place Text = 15
word_place Rat = 16
word_place Real = 17

pub word_there : (w : Word) → get_or WORDS (word_place w) Syntax ≡ w
word_there Syntax = refl
word_there _ = refl

pub word_place_below : (w : Word) → word_place w < 18
word_place_below Syntax = omega arith
word_place_below _ = omega arith

-- the sign at a place of the table, where no earlier one stands at the front
pub sign_found : (bytes text : List ℕ) (i : ℕ) (r : Bool) → text ≡ spelling (get_or SIGNS i Turnstile) → r ≡ starts_with eqb bytes text → r ≡ true → ((k : ℕ) (rest : List ℕ) → k < i → ¬ (bytes ≡ spelling (get_or SIGNS k Turnstile) ++ rest)) → LongestSign bytes (get_or SIGNS i Turnstile)
sign_found bytes text i r written is here before = record {
  rest = drop (length text) bytes;
  split = (starts_is Decides-eqb bytes text r is).0 here ∙ ap (λ t. t ++ drop (length text) bytes) written;
  longest = λ other more e. no_longer other more e (cases_lt (sign_place other) i);
}
  where
    no_longer : (other : Mark) (more : List ℕ) → bytes ≡ spelling other ++ more → (sign_place other < i) ⊎ (i ≤ sign_place other) → length (spelling other) ≤ length (spelling (get_or SIGNS i Turnstile))
    no_longer other more e (inl h) = absurd (before (sign_place other) more h (e ∙ ap (λ m. spelling m ++ more) (sym (sign_there other))))
    no_longer other more e (inr h) = signs_fall other i h

-- a sign that was looked for and is not there
pub sign_absent : (bytes text : List ℕ) (m : Mark) (r : Bool) → text ≡ spelling m → r ≡ starts_with eqb bytes text → r ≡ false → (rest : List ℕ) → ¬ (bytes ≡ spelling m ++ rest)
sign_absent bytes text m r written is gone rest e = false≢true (sym gone ∙ (starts_is Decides-eqb bytes text r is).1 rest (e ∙ ap (λ t. t ++ rest) (sym written)))
