-- Tokens that begin a form of SpecTec that is left out of the grammar, where they are refused.
use Rattle.std.specs.Prelude.{ℕ, [], Bool, true, false, ◌==◌}
use Rattle.st_num.specs.declared.mark.Mark.{Mark}
use Rattle.st_num.specs.declared.mark.Mark.TheVariants as mark
use Rattle.st_num.specs.declared.word.Word.{Word}
use Rattle.st_num.specs.declared.word.Word.TheVariants as word
use Rattle.st_num.specs.declared.token.TokenKind.{TokenKind}
use Rattle.st_num.specs.declared.token.TokenKind.TheVariants as kind
use Rattle.st_grammar.specs.declared.sort.Sort.{Sort}
use Rattle.st_grammar.specs.declared.sort.Sort.TheVariants.{Notation as notation, Typ as typ}
use Rattle.st_grammar.specs.Trees.{Tree}
use Rattle.st_grammar.specs.Grammar.{is_type}
use Rattle.st_grammar.specs.Definitions.{no_hints}
use Rattle.st_grammar.specs.Reading as part
use Rattle.st_grammar.specs.Positions.{State, at, inside, hinted, premise_open, of_syntax}
use Rattle.st_parse_faults.specs.declared.before.Before.{Before}
use Rattle.st_parse_faults.specs.declared.before.Before.TheVariants as before

-- a tree that is read in a part of this sort is a type, perhaps iterated
abbrev pub is_type_in : Sort → Tree → Bool
is_type_in typ t = true
is_type_in notation t = is_type t
is_type_in σ t = false

-- a type, where this holds, and else something else
abbrev pub type_or_other : Bool → Before
type_or_other true = before.Typ
type_or_other false = before.Other

-- what ends directly before the next token: the name of a syntax, `--`, a type, or something else
abbrev pub before_next : State → Before
before_next (at (hinted (of_syntax ds w x []) no_hints)) = before.SyntaxName
before_next (at (premise_open r t ps d [])) = before.Dashes
before_next (inside s (part.got t fs)) = type_or_other (is_type_in (part.sort fs) t)
before_next st = before.Other

-- the name of a syntax stands directly before
abbrev pub is_syntax_name : Before → Bool
is_syntax_name before.SyntaxName = true
is_syntax_name b = false

-- the `--` of a premise stands directly before
abbrev pub is_dashes : Before → Bool
is_dashes before.Dashes = true
is_dashes b = false

-- a type stands directly before
abbrev pub is_typ : Before → Bool
is_typ before.Typ = true
is_typ b = false

-- a sign begins a form that is left out: `(` behind the name of a syntax, `,` outside all
-- brackets, `...`, and `+` or `^` behind a type
abbrev pub sign_left_out : Before → ℕ → Mark → Bool
sign_left_out b nesting mark.OpenParen = is_syntax_name b
sign_left_out b nesting mark.Comma = nesting == 0
sign_left_out b nesting mark.Ellipsis = true
sign_left_out b nesting mark.Plus = is_typ b
sign_left_out b nesting mark.Caret = is_typ b
sign_left_out b nesting m = false

-- a word begins a form that is left out: `grammar`, `rat` or `real`, or `var` behind `--`
abbrev pub word_left_out : Before → Word → Bool
word_left_out b word.Grammar = true
word_left_out b word.Rat = true
word_left_out b word.Real = true
word_left_out b word.Var = is_dashes b
word_left_out b w = false

-- The token begins a form that is left out, where so many brackets are open.
abbrev pub left_out : Before → ℕ → TokenKind → Bool
left_out b nesting (kind.Sign m) = sign_left_out b nesting m
left_out b nesting (kind.Reserved w) = word_left_out b w
left_out b nesting k = false
