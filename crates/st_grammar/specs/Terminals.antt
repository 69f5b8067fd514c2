-- Tokens as the grammar sees them: what each of them can be in a part of a definition.
use Rattle.std.specs.Prelude.{ℕ, List, [], ◌∷◌, ◌++◌, Bool, true, false, not, ◌&&◌, ◌||◌, ◌==◌, if◌then◌else◌}
use Rattle.std.specs.List.{list_any}
use Rattle.st_num.specs.Names.{same_name}
use Rattle.st_num.specs.declared.mark.Mark.{Mark}
use Rattle.st_num.specs.declared.mark.Mark.TheVariants as mark
use Rattle.st_scan.specs.Spelling.{has_lower}
use Rattle.st_num.specs.declared.word.Word.{Word}
use Rattle.st_num.specs.declared.word.Word.TheVariants as word
use Rattle.st_num.specs.declared.token.Token.{Token}
use Rattle.st_num.specs.declared.token.TokenKind.{TokenKind}
use Rattle.st_num.specs.declared.token.TokenKind.TheVariants as kind
use Rattle.st_grammar.specs.declared.sort.Leaf.{Leaf}
use Rattle.st_grammar.specs.declared.sort.Leaf.TheVariants.{Low as low, Basic as basic, Variable as variable, Atom as atom, Number as number, Literal as literal, Function as function}
use Rattle.st_grammar.specs.declared.sort.Bracket.{Bracket}
use Rattle.st_grammar.specs.declared.sort.Bracket.TheVariants.{Round as round, Square as square, Brace as brace, TickRound as tick_round, TickSquare as tick_square, TickBrace as tick_brace, Dollar as dollar}
use Rattle.st_grammar.specs.declared.sort.Closing.{Closing}
use Rattle.st_grammar.specs.declared.sort.Closing.TheVariants.{ByRound as by_round, BySquare as by_square, ByBrace as by_brace, ByBar as by_bar}

-- a token with what it can be
pub data Terminal : Type 0 where
  -- a token that can stand alone as an operand
  leaf : Leaf → Token → Terminal
  -- a dot with a name without a lower-case letter
  dot : Token → Terminal
  -- a sign, which joins parts, iterates one or sets one off
  sign : Mark → Token → Terminal
  -- a token that opens a bracket
  opening : Bracket → Token → Terminal
  -- a token that closes a bracket, or a bar, which opens a length too
  closing : Closing → Token → Terminal
  -- a token that no such part has
  other : Token → Terminal

-- ---- variables

-- the name without its trailing primes
abbrev pub drop_primes : List ℕ → List ℕ
drop_primes [] = []
drop_primes (b ∷ name) =
    if list_any (λ c. not (c == 39)) (b ∷ name) then b ∷ drop_primes name else []

-- the name is one of these, trailing primes aside
abbrev pub is_named : List (List ℕ) → List ℕ → Bool
is_named names name = list_any (same_name (drop_primes name)) names

-- A name of this front and rest is declared by `var`, or what stands before a `_` of the rest is.
abbrev pub is_declared : List (List ℕ) → List ℕ → List ℕ → Bool
is_declared names front [] = is_named names front
is_declared names front (b ∷ rest) =
    (b == 95 && is_named names front) || is_declared names (front ++ b ∷ []) rest

-- the name stands for a variable, where these names are declared by `var`
abbrev pub is_variable : List (List ℕ) → List ℕ → Bool
is_variable names name = is_declared names [] name

-- the token is the word `var`
abbrev pub is_var : TokenKind → Bool
is_var (kind.Reserved word.Var) = true
is_var _ = false

-- the name that a token is, and nothing where it is none
abbrev pub name_in : TokenKind → List (List ℕ)
name_in (kind.Low name) = name ∷ []
name_in (kind.Up name) = name ∷ []
name_in (kind.Mix name) = name ∷ []
name_in _ = []

-- the names in these tokens that directly follow the word `var`, which stands before them or not
abbrev pub names_behind : Bool → List Token → List (List ℕ)
names_behind b [] = []
names_behind b (x ∷ tokens) =
    (if b then name_in x.kind else []) ++ names_behind (is_var x.kind) tokens

-- the names that directly follow the word `var`
abbrev pub declared_names : List Token → List (List ℕ)
declared_names tokens = names_behind false tokens

-- ---- terminals

-- what a reserved word can be
abbrev pub word_terminal : Word → Token → Terminal
word_terminal word.Bool x = leaf basic x
word_terminal word.Nat x = leaf basic x
word_terminal word.Int x = leaf basic x
word_terminal word.Text x = leaf basic x
word_terminal word.True x = leaf literal x
word_terminal word.False x = leaf literal x
word_terminal word.Eps x = leaf literal x
word_terminal _ x = other x

-- what a sign can be: one that opens, one that closes, or another
abbrev pub sign_terminal : Mark → Token → Terminal
sign_terminal mark.OpenParen x = opening round x
sign_terminal mark.OpenBracket x = opening square x
sign_terminal mark.OpenBrace x = opening brace x
sign_terminal mark.TickParen x = opening tick_round x
sign_terminal mark.TickBracket x = opening tick_square x
sign_terminal mark.TickBrace x = opening tick_brace x
sign_terminal mark.OpenArith x = opening dollar x
sign_terminal mark.CloseParen x = closing by_round x
sign_terminal mark.CloseBracket x = closing by_square x
sign_terminal mark.CloseBrace x = closing by_brace x
sign_terminal mark.Bar x = closing by_bar x
sign_terminal m x = sign m x

-- what a token of this kind can be, where these names are declared by `var`
abbrev pub kind_terminal : List (List ℕ) → TokenKind → Token → Terminal
kind_terminal names (kind.Low name) x = leaf low x
kind_terminal names (kind.Up name) x =
    if is_variable names name then leaf variable x else leaf atom x
kind_terminal names (kind.Mix name) x = other x
kind_terminal names (kind.Reserved w) x = word_terminal w x
kind_terminal names (kind.Number n) x = leaf number x
kind_terminal names (kind.Text text) x = leaf literal x
kind_terminal names (kind.Dot name) x = if has_lower name then other x else dot x
kind_terminal names (kind.Fun name) x = leaf function x
kind_terminal names (kind.Sign m) x = sign_terminal m x

-- the token as the grammar sees it, where these names are declared by `var`
abbrev pub terminal : List (List ℕ) → Token → Terminal
terminal names x = kind_terminal names x.kind x
