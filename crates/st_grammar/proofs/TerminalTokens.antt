-- The token of a terminal is the token that it is made of.
use Rattle.std.proofs.Common.{◌≡◌, ℕ, List, Bool, true, false, if◌then◌else◌, refl}
use Rattle.st_num.specs.declared.mark.Mark.{Mark}
use Rattle.st_num.specs.declared.mark.Mark.TheVariants as mark
use Rattle.st_scan.specs.Spelling.{has_lower}
use Rattle.st_num.specs.declared.word.Word.{Word}
use Rattle.st_num.specs.declared.word.Word.TheVariants as word
use Rattle.st_num.specs.declared.token.Token.{Token}
use Rattle.st_num.specs.declared.token.TokenKind.{TokenKind}
use Rattle.st_num.specs.declared.token.TokenKind.TheVariants as kind
use Rattle.st_grammar.specs.declared.sort.Leaf.TheVariants.{Variable as variable, Atom as atom}
use Rattle.st_grammar.specs.Terminals.{leaf, dot, other, terminal, kind_terminal, word_terminal, sign_terminal, is_variable}
use Rattle.st_grammar.specs.Definitions.{token_in}

word_token : (w : Word) (x : Token) → token_in (word_terminal w x) ≡ x
word_token word.Syntax x = refl
word_token word.Relation x = refl
word_token word.Rule x = refl
word_token word.Var x = refl
word_token word.Def x = refl
word_token word.Grammar x = refl
word_token word.Hint x = refl
word_token word.If x = refl
word_token word.Otherwise x = refl
word_token word.Eps x = refl
word_token word.True x = refl
word_token word.False x = refl
word_token word.Bool x = refl
word_token word.Nat x = refl
word_token word.Int x = refl
word_token word.Text x = refl
word_token word.Rat x = refl
word_token word.Real x = refl

sign_token : (m : Mark) (x : Token) → token_in (sign_terminal m x) ≡ x
sign_token mark.Turnstile x = refl
sign_token mark.ReverseTurnstile x = refl
sign_token mark.SquigglyArrowStar x = refl
sign_token mark.SquigglyArrow x = refl
sign_token mark.Colon x = refl
sign_token mark.Subtype x = refl
sign_token mark.Supertype x = refl
sign_token mark.Approximately x = refl
sign_token mark.Define x = refl
sign_token mark.Semicolon x = refl
sign_token mark.Arrow x = refl
sign_token mark.DotDot x = refl
sign_token mark.Ellipsis x = refl
sign_token mark.PlusPlus x = refl
sign_token mark.ExtendBy x = refl
sign_token mark.Equal x = refl
sign_token mark.NotEqual x = refl
sign_token mark.Less x = refl
sign_token mark.Greater x = refl
sign_token mark.LessOrEqual x = refl
sign_token mark.GreaterOrEqual x = refl
sign_token mark.ElementOf x = refl
sign_token mark.Tilde x = refl
sign_token mark.And x = refl
sign_token mark.Or x = refl
sign_token mark.Implies x = refl
sign_token mark.Equivalent x = refl
sign_token mark.Plus x = refl
sign_token mark.Minus x = refl
sign_token mark.Star x = refl
sign_token mark.Slash x = refl
sign_token mark.Backslash x = refl
sign_token mark.Caret x = refl
sign_token mark.Question x = refl
sign_token mark.Bar x = refl
sign_token mark.Comma x = refl
sign_token mark.DashDash x = refl
sign_token mark.OpenParen x = refl
sign_token mark.CloseParen x = refl
sign_token mark.OpenBracket x = refl
sign_token mark.CloseBracket x = refl
sign_token mark.OpenBrace x = refl
sign_token mark.CloseBrace x = refl
sign_token mark.OpenArith x = refl
sign_token mark.TickParen x = refl
sign_token mark.TickBracket x = refl
sign_token mark.TickBrace x = refl

kind_token : (names : List (List ℕ)) (k : TokenKind) (x : Token) → token_in (kind_terminal names k x) ≡ x
kind_token names (kind.Low name) x = refl
kind_token names (kind.Up name) x = go (is_variable names name)
  where
    go : (b : Bool) → token_in (if b then leaf variable x else leaf atom x) ≡ x
    go true = refl
    go false = refl
kind_token names (kind.Mix name) x = refl
kind_token names (kind.Reserved w) x = word_token w x
kind_token names (kind.Number n) x = refl
kind_token names (kind.Text text) x = refl
kind_token names (kind.Dot name) x = go (has_lower name)
  where
    go : (b : Bool) → token_in (if b then other x else dot x) ≡ x
    go true = refl
    go false = refl
kind_token names (kind.Fun name) x = refl
kind_token names (kind.Sign m) x = sign_token m x

pub terminal_token : (names : List (List ℕ)) (x : Token) → token_in (terminal names x) ≡ x
terminal_token names x = kind_token names x.kind x
