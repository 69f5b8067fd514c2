-- What the parser takes a token for.
use Rattle.std.specs.Prelude.{ℕ, List, [], ◌∷◌, Option, Some, None, Bool, true, false, if◌then◌else◌}
use Rattle.std.specs.Borrow.{Bor}
use Rattle.st_num.specs.declared.mark.Mark.{Mark}
use Rattle.st_num.specs.declared.mark.Mark.TheVariants as mark
use Rattle.st_scan.specs.Spelling.{has_lower}
use Rattle.st_num.specs.declared.word.Word.{Word}
use Rattle.st_num.specs.declared.word.Word.TheVariants as word
use Rattle.st_num.specs.declared.token.TokenKind.{TokenKind}
use Rattle.st_num.specs.declared.token.TokenKind.TheVariants as kind
use Rattle.st_grammar.specs.declared.sort.Leaf.TheVariants as leaves
use Rattle.st_grammar.specs.declared.sort.Bracket.TheVariants as bracket
use Rattle.st_grammar.specs.declared.sort.Closing.TheVariants as closings
use Rattle.st_grammar.specs.declared.keyword.Keyword.{Keyword}
use Rattle.st_grammar.specs.declared.keyword.Keyword.TheVariants as key
use Rattle.st_grammar.specs.Terminals.{is_variable, name_in}
use Rattle.st_grammar.specs.Terminals as terminals
use Rattle.st_grammar.specs.Terminals.{leaf, dot, sign, opening, closing, other}
use Rattle.st_grammar.specs.Definitions.{keyword, kind_keyword, mark_keyword, touches, is_mix_kind, is_piece, is_dot}
use Rattle.st_parse_automaton.specs.declared.part_automaton.Shape.{Shape}
use Rattle.st_parse_automaton.specs.declared.part_automaton.Shape.TheVariants.{Single, Dot, Sign, Open, Close, Other}
use Rattle.st_parse_automaton.specs.declared.position.TokenClass.{TokenClass}

-- what the parser takes a token for in a part
abbrev pub shape : terminals.Terminal → Shape
shape (leaf k x) = Single k
shape (dot x) = Dot x.touching
shape (sign m x) = Sign m
shape (opening b x) = Open b x.touching
shape (closing c x) = Close c
shape (other x) = Other

-- a name that begins upper-case and has a lower-case letter
abbrev pub is_mix : terminals.Terminal → Bool
is_mix (other x) = is_mix_kind x.kind
is_mix l = false

-- what the parser takes a token for, in a part and between parts
abbrev pub class_of : terminals.Terminal → TokenClass
class_of l =
    record {
      shape = shape l;
      touching = touches l;
      keyword = keyword l;
      mix = is_mix l;
      piece = is_piece l;
      dot = is_dot l;
    }

-- ---- by the kind of the token

-- the class of a token with these fields, in their order
abbrev pub made : Shape → Bool → Keyword → Bool → Bool → Bool → TokenClass
made s t k m p d = record { shape = s; touching = t; keyword = k; mix = m; piece = p; dot = d }

-- what the parser takes a reserved word for in a part
abbrev pub word_shape : Word → Shape
word_shape word.Bool = Single leaves.Basic
word_shape word.Nat = Single leaves.Basic
word_shape word.Int = Single leaves.Basic
word_shape word.Text = Single leaves.Basic
word_shape word.True = Single leaves.Literal
word_shape word.False = Single leaves.Literal
word_shape word.Eps = Single leaves.Literal
word_shape w = Other

-- what the parser takes a sign for in a part, which touches what stands before it or not
abbrev pub sign_shape : Mark → Bool → Shape
sign_shape mark.OpenParen t = Open bracket.Round t
sign_shape mark.OpenBracket t = Open bracket.Square t
sign_shape mark.OpenBrace t = Open bracket.Brace t
sign_shape mark.TickParen t = Open bracket.TickRound t
sign_shape mark.TickBracket t = Open bracket.TickSquare t
sign_shape mark.TickBrace t = Open bracket.TickBrace t
sign_shape mark.OpenArith t = Open bracket.Dollar t
sign_shape mark.CloseParen t = Close closings.ByRound
sign_shape mark.CloseBracket t = Close closings.BySquare
sign_shape mark.CloseBrace t = Close closings.ByBrace
sign_shape mark.Bar t = Close closings.ByBar
sign_shape m t = Sign m

-- what the parser takes such a kind of token for, where these names are declared by `var`
abbrev pub kind_shape : List (List ℕ) → TokenKind → Bool → TokenClass
kind_shape names (kind.Low name) t = made (Single leaves.Low) t key.NoWord false true false
kind_shape names (kind.Up name) t =
    made (if is_variable names name then Single leaves.Variable else Single leaves.Atom) t
    key.NoWord false true false
kind_shape names (kind.Mix name) t = made Other t key.NoWord true true false
kind_shape names (kind.Reserved w) t =
    made (word_shape w) t (kind_keyword (kind.Reserved w)) false true false
kind_shape names (kind.Number n) t = made (Single leaves.Number) t key.NoWord false true false
kind_shape names (kind.Text text) t = made (Single leaves.Literal) t key.NoWord false false false
kind_shape names (kind.Dot name) t =
    made (if has_lower name then Other else Dot t) t key.NoWord false false true
kind_shape names (kind.Fun name) t = made (Single leaves.Function) t key.NoWord false false false
kind_shape names (kind.Sign m) t = made (sign_shape m t) t (mark_keyword m) false false false

-- a name that is there, as a list
abbrev pub listed : Option (Bor (List ℕ)) → List (List ℕ)
listed None = []
listed (Some name) = name.now ∷ []

-- the name that such a token is, where it directly follows the word `var`
abbrev pub name_behind : Bool → TokenKind → List (List ℕ)
name_behind b k = if b then name_in k else []
