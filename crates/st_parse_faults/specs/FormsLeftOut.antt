-- Tokens that begin a form of SpecTec that is left out of the grammar, told by the tokens before
-- them.
use Rattle.std.specs.Prelude.{◌≡◌, ℕ, List, [], ◌∷◌, ◌++◌, true}
use Rattle.st_num.specs.declared.mark.Mark.{Mark}
use Rattle.st_num.specs.declared.mark.Mark.TheVariants as mark
use Rattle.st_num.specs.declared.word.Word.{Word}
use Rattle.st_num.specs.declared.word.Word.TheVariants as word
use Rattle.st_num.specs.declared.token.Token.{Token}
use Rattle.st_num.specs.declared.token.TokenKind.{TokenKind}
use Rattle.st_num.specs.declared.token.TokenKind.TheVariants as kind
use Rattle.st_grammar.specs.declared.keyword.Keyword.TheVariants.{SyntaxWord as syntax_word, Dashes as dashes}
use Rattle.st_grammar.specs.Terminals.{Terminal, sign}
use Rattle.st_grammar.specs.Definitions.{keyword, is_low, ViableDefs}
use Rattle.st_parse_faults.specs.Nesting.{brackets_behind}

-- the tokens end with `syntax` and a name
abbrev pub EndWithSyntax : List Terminal → Type 0
EndWithSyntax us =
    (vs : List Terminal) × (w : Terminal) × (x : Terminal) × (us ≡ vs ++ w ∷ x ∷ [])
    × (keyword w ≡ syntax_word) × (is_low x ≡ true)

-- the tokens end with `--`
abbrev pub EndWithDashes : List Terminal → Type 0
EndWithDashes us =
    (vs : List Terminal) × (d : Terminal) × (us ≡ vs ++ d ∷ []) × (keyword d ≡ dashes)

-- A `*` may stand behind the tokens, in the place of this one.
abbrev pub StarMayFollow : List (List ℕ) → List Terminal → Token → Type 0
StarMayFollow names us x = ViableDefs names (us ++ sign mark.Star x ∷ [])

-- a sign that is refused behind these tokens begins a form that is left out: `(` behind `syntax`
-- and a name, `,` outside all brackets, `...`, and `+` or `^` where a type may be iterated
abbrev pub SignLeftOut : List (List ℕ) → List Terminal → Token → Mark → Type 0
SignLeftOut names us x mark.OpenParen = EndWithSyntax us
SignLeftOut names us x mark.Comma = brackets_behind 0 us ≡ 0
SignLeftOut names us x mark.Ellipsis = Unit {0}
SignLeftOut names us x mark.Plus = StarMayFollow names us x
SignLeftOut names us x mark.Caret = StarMayFollow names us x
SignLeftOut names us x m = ⊥

-- a word that is refused behind these tokens does: `grammar`, `rat` or `real`, or `var` behind `--`
abbrev pub WordLeftOut : List Terminal → Word → Type 0
WordLeftOut us word.Grammar = Unit {0}
WordLeftOut us word.Rat = Unit {0}
WordLeftOut us word.Real = Unit {0}
WordLeftOut us word.Var = EndWithDashes us
WordLeftOut us w = ⊥

-- A token of this kind that is refused behind these tokens begins a form that is left out.
abbrev pub KindLeftOut : List (List ℕ) → List Terminal → Token → TokenKind → Type 0
KindLeftOut names us x (kind.Sign m) = SignLeftOut names us x m
KindLeftOut names us x (kind.Reserved w) = WordLeftOut us w
KindLeftOut names us x k = ⊥

-- A token that is refused behind these begins a form that is left out, where these names are
-- declared by `var`.
abbrev pub LeftOut : List (List ℕ) → List Terminal → Token → Type 0
LeftOut names us x = KindLeftOut names us x x.kind
