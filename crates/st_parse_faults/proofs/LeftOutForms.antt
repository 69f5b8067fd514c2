-- Where a token begins a form that is left out is told by the tokens before it.
use Rattle.std.proofs.Common.{◌≡◌, ℕ, List, Some, None, refl, subst}
use Rattle.st_num.specs.declared.mark.Mark.{Mark}
use Rattle.st_num.specs.declared.mark.Mark.TheVariants as mark
use Rattle.st_num.specs.declared.word.Word.{Word}
use Rattle.st_num.specs.declared.word.Word.TheVariants as word
use Rattle.st_num.specs.declared.token.Token.{Token}
use Rattle.st_num.specs.declared.token.TokenKind.{TokenKind}
use Rattle.st_num.specs.declared.token.TokenKind.TheVariants as kind
use Rattle.st_grammar.specs.Terminals.{Terminal, kind_terminal, terminal}
use Rattle.st_grammar.specs.Positions.{State, step, reading, start}
use Rattle.st_grammar.proofs.PositionTexts as texts
use Rattle.st_grammar.proofs.PositionTexts.{Holds}
use Rattle.st_grammar.proofs.PositionReading.{reached_by}
use Rattle.st_parse_faults.specs.inner.LeftOut.{before_next, sign_left_out, word_left_out, left_out}
use Rattle.st_parse_faults.specs.Nesting.{brackets_behind}
use Rattle.st_parse_faults.specs.FormsLeftOut.{EndWithSyntax, EndWithDashes, SignLeftOut, WordLeftOut, KindLeftOut, LeftOut}
use Rattle.st_parse_faults.proofs.PositionNumberFacts.{no_way}
use Rattle.st_parse_faults.proofs.LeftOutBefore.{told, syntax_told, dashes_told, typ_told}
use Rattle.st_parse_faults.proofs.LeftOutWords.{dashes_back, syntax_back}
use Rattle.st_parse_faults.proofs.LeftOutSigns.{star_follows, plus_marks, caret_marks, typ_back}
use Rattle.st_parse_faults.proofs.FaultRules.{Same, zero_is}

module _ (names : List (List ℕ)) (us : List Terminal) (st : State) (x : Token) (read : reading start us ≡ Some st) where
  held : Holds st
  held = (reached_by us st read).holds

  spelled : texts.seen st ≡ us
  spelled = (reached_by us st read).spelled

  mark_left_out : (m : Mark) → step st (kind_terminal names (kind.Sign m) x) ≡ None → Same (sign_left_out (before_next st) (brackets_behind 0 us) m) (SignLeftOut names us x m)
  mark_left_out mark.OpenParen n = (λ e. subst EndWithSyntax spelled (syntax_told st (before_next st) (told st held) e), λ f. syntax_back us st x read n f)
  mark_left_out mark.Comma n = zero_is (brackets_behind 0 us)
  mark_left_out mark.Ellipsis n = (λ e. tt, λ f. refl)
  mark_left_out mark.Plus n = (λ e. star_follows names us st x read (typ_told st (before_next st) (told st held) e), λ f. typ_back names mark.Plus x (plus_marks x) us st read held n f)
  mark_left_out mark.Caret n = (λ e. star_follows names us st x read (typ_told st (before_next st) (told st held) e), λ f. typ_back names mark.Caret x (caret_marks x) us st read held n f)
  mark_left_out m n = (λ e. absurd (no_way e), λ f. absurd f)

  named_left_out : (w : Word) → step st (kind_terminal names (kind.Reserved w) x) ≡ None → Same (word_left_out (before_next st) w) (WordLeftOut us w)
  named_left_out word.Grammar n = (λ e. tt, λ f. refl)
  named_left_out word.Rat n = (λ e. tt, λ f. refl)
  named_left_out word.Real n = (λ e. tt, λ f. refl)
  named_left_out word.Var n = (λ e. subst EndWithDashes spelled (dashes_told st (before_next st) (told st held) e), λ f. dashes_back us st x read n f)
  named_left_out w n = (λ e. absurd (no_way e), λ f. absurd f)

  kind_left_out : (k : TokenKind) → step st (kind_terminal names k x) ≡ None → Same (left_out (before_next st) (brackets_behind 0 us) k) (KindLeftOut names us x k)
  kind_left_out (kind.Sign m) n = mark_left_out m n
  kind_left_out (kind.Reserved w) n = named_left_out w n
  kind_left_out k n = (λ e. absurd (no_way e), λ f. absurd f)

  -- a refused token begins a form that is left out, by the reading and by the text
  pub left_out_is : step st (terminal names x) ≡ None → Same (left_out (before_next st) (brackets_behind 0 us) x.kind) (LeftOut names us x)
  left_out_is n = kind_left_out x.kind n
