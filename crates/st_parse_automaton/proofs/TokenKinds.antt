-- What the parser takes a token for, by its kind.
use Rattle.std.proofs.Common.{◌≡◌, ℕ, List, [], Bool, true, false, if◌then◌else◌, refl, ap}
use Rattle.st_num.specs.declared.mark.Mark.{Mark}
use Rattle.st_num.specs.declared.mark.Mark.TheVariants as mark
use Rattle.st_scan.specs.Spelling.{has_lower}
use Rattle.st_num.specs.declared.word.Word.{Word}
use Rattle.st_num.specs.declared.word.Word.TheVariants as word
use Rattle.st_num.specs.declared.token.Token.{Token}
use Rattle.st_num.specs.declared.token.TokenKind.{TokenKind}
use Rattle.st_num.specs.declared.token.TokenKind.TheVariants as kind
use Rattle.st_grammar.specs.declared.sort.Leaf.TheVariants as leaves
use Rattle.st_grammar.specs.declared.keyword.Keyword.TheVariants as key
use Rattle.st_grammar.specs.Terminals.{leaf, dot, other, terminal, kind_terminal, word_terminal, sign_terminal, is_variable}
use Rattle.st_grammar.specs.Definitions.{kind_keyword, is_mix_kind, is_piece_kind, is_dot_kind}
use Rattle.st_parse_automaton.specs.declared.part_automaton.Shape.TheVariants.{Single, Dot, Other}
use Rattle.st_parse_automaton.specs.inner.Shapes.{class_of, made, kind_shape, word_shape}

-- a token that no part has, by its kind
pub other_is : (x : Token) (k : TokenKind) → x.kind ≡ k → class_of (other x) ≡ made Other x.touching (kind_keyword k) (is_mix_kind k) (is_piece_kind k) (is_dot_kind k)
other_is x k e = ap (λ j. made Other x.touching (kind_keyword j) (is_mix_kind j) (is_piece_kind j) (is_dot_kind j)) e

-- an operand of one token, by its kind
pub leaf_is : (x : Token) (k : TokenKind) (f : _) → x.kind ≡ k → class_of (leaf f x) ≡ made (Single f) x.touching key.NoWord false (is_piece_kind k) false
leaf_is x k f e = ap (λ j. made (Single f) x.touching key.NoWord false (is_piece_kind j) false) e

pub word_is : (x : Token) (w : Word) → x.kind ≡ kind.Reserved w → class_of (word_terminal w x) ≡ made (word_shape w) x.touching (kind_keyword (kind.Reserved w)) false true false
word_is x word.Syntax e = other_is x (kind.Reserved word.Syntax) e
word_is x word.Relation e = other_is x (kind.Reserved word.Relation) e
word_is x word.Rule e = other_is x (kind.Reserved word.Rule) e
word_is x word.Var e = other_is x (kind.Reserved word.Var) e
word_is x word.Def e = other_is x (kind.Reserved word.Def) e
word_is x word.Grammar e = other_is x (kind.Reserved word.Grammar) e
word_is x word.Hint e = other_is x (kind.Reserved word.Hint) e
word_is x word.If e = other_is x (kind.Reserved word.If) e
word_is x word.Otherwise e = other_is x (kind.Reserved word.Otherwise) e
word_is x word.Eps e = leaf_is x (kind.Reserved word.Eps) leaves.Literal e
word_is x word.True e = leaf_is x (kind.Reserved word.True) leaves.Literal e
word_is x word.False e = leaf_is x (kind.Reserved word.False) leaves.Literal e
word_is x word.Bool e = leaf_is x (kind.Reserved word.Bool) leaves.Basic e
word_is x word.Nat e = leaf_is x (kind.Reserved word.Nat) leaves.Basic e
word_is x word.Int e = leaf_is x (kind.Reserved word.Int) leaves.Basic e
word_is x word.Text e = leaf_is x (kind.Reserved word.Text) leaves.Basic e
word_is x word.Rat e = other_is x (kind.Reserved word.Rat) e
word_is x word.Real e = other_is x (kind.Reserved word.Real) e

pub sign_is : (x : Token) (m : Mark) → class_of (sign_terminal m x) ≡ kind_shape [] (kind.Sign m) x.touching
sign_is x mark.Turnstile = refl
sign_is x mark.ReverseTurnstile = refl
sign_is x mark.SquigglyArrowStar = refl
sign_is x mark.SquigglyArrow = refl
sign_is x mark.Colon = refl
sign_is x mark.Subtype = refl
sign_is x mark.Supertype = refl
sign_is x mark.Approximately = refl
sign_is x mark.Define = refl
sign_is x mark.Semicolon = refl
sign_is x mark.Arrow = refl
sign_is x mark.DotDot = refl
sign_is x mark.Ellipsis = refl
sign_is x mark.PlusPlus = refl
sign_is x mark.ExtendBy = refl
sign_is x mark.Equal = refl
sign_is x mark.NotEqual = refl
sign_is x mark.Less = refl
sign_is x mark.Greater = refl
sign_is x mark.LessOrEqual = refl
sign_is x mark.GreaterOrEqual = refl
sign_is x mark.ElementOf = refl
sign_is x mark.Tilde = refl
sign_is x mark.And = refl
sign_is x mark.Or = refl
sign_is x mark.Implies = refl
sign_is x mark.Equivalent = refl
sign_is x mark.Plus = refl
sign_is x mark.Minus = refl
sign_is x mark.Star = refl
sign_is x mark.Slash = refl
sign_is x mark.Backslash = refl
sign_is x mark.Caret = refl
sign_is x mark.Question = refl
sign_is x mark.Bar = refl
sign_is x mark.Comma = refl
sign_is x mark.DashDash = refl
sign_is x mark.OpenParen = refl
sign_is x mark.CloseParen = refl
sign_is x mark.OpenBracket = refl
sign_is x mark.CloseBracket = refl
sign_is x mark.OpenBrace = refl
sign_is x mark.CloseBrace = refl
sign_is x mark.OpenArith = refl
sign_is x mark.TickParen = refl
sign_is x mark.TickBracket = refl
sign_is x mark.TickBrace = refl

pub kind_is : (names : List (List ℕ)) (x : Token) (k : TokenKind) → x.kind ≡ k → class_of (kind_terminal names k x) ≡ kind_shape names k x.touching
kind_is names x (kind.Low name) e = leaf_is x (kind.Low name) leaves.Low e
kind_is names x (kind.Up name) e = go (is_variable names name)
  where
    go : (b : Bool) → class_of (if b then leaf leaves.Variable x else leaf leaves.Atom x) ≡ made (if b then Single leaves.Variable else Single leaves.Atom) x.touching key.NoWord false true false
    go true = leaf_is x (kind.Up name) leaves.Variable e
    go false = leaf_is x (kind.Up name) leaves.Atom e
kind_is names x (kind.Mix name) e = other_is x (kind.Mix name) e
kind_is names x (kind.Reserved w) e = word_is x w e
kind_is names x (kind.Number n) e = leaf_is x (kind.Number n) leaves.Number e
kind_is names x (kind.Text text) e = leaf_is x (kind.Text text) leaves.Literal e
kind_is names x (kind.Dot name) e = go (has_lower name)
  where
    go : (b : Bool) → class_of (if b then other x else dot x) ≡ made (if b then Other else Dot x.touching) x.touching key.NoWord false false true
    go true = other_is x (kind.Dot name) e
    go false = refl
kind_is names x (kind.Fun name) e = leaf_is x (kind.Fun name) leaves.Function e
kind_is names x (kind.Sign m) e = sign_is x m

pub token_is : (names : List (List ℕ)) (x : Token) → class_of (terminal names x) ≡ kind_shape names x.kind x.touching
token_is names x = kind_is names x x.kind refl
