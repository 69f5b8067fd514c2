-- What the loop over a text reads is the text that stands there, or why none does.
use Rattle.std.proofs.Common.{◌≡◌, ◌≢◌, ℕ, suc, ◌+◌, ◌-◌, ◌≤◌, List, [], ◌∷◌, ◌++◌, length, drop, Bool, true, false, refl, sym, ap, ◌∙◌, subst, if◌then◌else◌, arith}
use Rattle.std.proofs.lemmas.Bool.{false≢true}
use Rattle.std.proofs.lemmas.Bool.Decides.{nat_tests}
use Rattle.std.proofs.lemmas.List.{length-append}
use Rattle.std.proofs.lemmas.List.Prefix.{end_rest}
use Rattle.std.specs.List.{flat_map, list_all}
use Rattle.st_num.specs.declared.rule.RuleId.TheVariants.{L1, L2}
use Rattle.st_num.specs.declared.token.TokenKind.TheVariants.{Text}
use Rattle.st_scan.specs.declared.text.Piece.TheVariants.{Byte, Quote, Wrong}
use Rattle.st_scan.specs.declared.read.Stop.TheVariants.{Refused}
use Rattle.st_scan.specs.Bytes.{is_text_byte}
use Rattle.st_scan.specs.Gaps.{opens_comment}
use Rattle.st_num.specs.Texts.{escaped, quoted}
use Rattle.st_scan.specs.Faults.{Cause, text_open, text_wrong, closes_text}
use Rattle.st_scan.specs.inner.Readings.{IsReading, Stops}
use Rattle.st_scan.specs.inner.TextPieces.{IsPiece, IsEscape, text_stop}
use Rattle.st_scan.proofs.Texts.{Escaping, escaping, quote, backslash, feed, tab, plain, tail_of, texts_unique, quoted_behind, closes_behind}
use Rattle.st_scan.proofs.Spelled.{group, group_at, spelled_group, as_text}
use Rattle.st_scan.proofs.Readings.{opens_first}

-- ---- one piece

pub escape_piece : (letter byte : ℕ) (behind others : List ℕ) → behind ≡ letter ∷ others → IsEscape letter byte → IsPiece (92 ∷ behind) (Byte byte 2)
escape_piece letter byte behind others e escape =
    (others, ap (λ u. 92 ∷ u) e ∙ ap (λ u. u ++ others) (sym escape.0), escape.1, sym (ap length escape.0))

pub plain_piece : (byte : ℕ) (bytes behind : List ℕ) → bytes ≡ byte ∷ behind → byte ≢ 34 → byte ≢ 92 → 32 ≤ byte → IsPiece bytes (Byte byte 1)
plain_piece byte bytes behind e n m high = (behind, e ∙ ap (λ u. u ++ behind) (sym (itself (escaping byte))), text_byte, sym (ap length (itself (escaping byte))))
  where
    itself : Escaping byte → escaped byte ≡ byte ∷ []
    itself (quote is w) = absurd (n is)
    itself (backslash is w) = absurd (m is)
    itself (feed is w) = absurd (omega (arith, is, high))
    itself (tab is w) = absurd (omega (arith, is, high))
    itself (plain a b c d w) = w

    text_byte : is_text_byte byte ≡ true
    text_byte = grind (arith, nat_tests)

-- ---- the whole text

module _ (bytes text rest : List ℕ) (split : bytes ≡ 34 ∷ flat_map escaped text ++ rest) (right : list_all is_text_byte text ≡ true) where
  pub text_reading : IsPiece rest Quote → IsReading bytes (record { kind = Text text; length = length bytes - length rest + 1 })
  text_reading ends = record {
    text = quoted text;
    rest = ends.0;
    longest = record {
      split = whole;
      spelled = (refl, right);
      longest = λ other more another parted also.
          let same : group another ≡ 2 = sym (spelled_group other more another also) ∙ ap group_at (sym parted ∙ split) in
          let found = as_text other another same also in
          let both = texts_unique found.0 text more ends.0 (ap tail_of (sym (quoted_behind found.0 more) ∙ ap (λ u. u ++ more) (sym found.2) ∙ sym parted ∙ whole ∙ quoted_behind text ends.0)) in
          let long : length other ≡ length (quoted text) = ap length (found.2 ∙ ap quoted both.0) in
          omega (arith, long);
      no_comment = ap opens_comment split ∙ opens_first 34 (flat_map escaped text ++ rest) (λ h. absurd (omega (arith, h)));
    };
    in_range = tt;
    taken =
        let all : length bytes ≡ length (quoted text) + length ends.0 = ap length whole ∙ length-append (quoted text) ends.0 in
        let tail : length rest ≡ suc (length ends.0) = ap length ends.1 in
        omega (arith, all, tail, some);
  }
    where
      whole : bytes ≡ quoted text ++ ends.0
      whole = split ∙ ap (λ u. 34 ∷ flat_map escaped text ++ u) ends.1 ∙ sym (quoted_behind text ends.0)

      some : 1 ≤ length (quoted text)
      some = omega arith

  pub text_stops : IsPiece rest Wrong → Stops bytes (text_stop bytes rest)
  text_stops wrong = go (closes_text rest) refl
    where
      short : length rest ≤ length bytes
      short = let all : length bytes ≡ suc (length (flat_map escaped text ++ rest)) = ap length split in omega (arith, all, length-append (flat_map escaped text) rest)

      some : (u : List ℕ) → rest ≡ u → closes_text u ≡ true → rest ≢ []
      some u e closed none = false≢true (ap closes_text (sym none ∙ e) ∙ closed)

      at_rest : drop (length bytes - length rest) bytes ≡ rest
      at_rest = end_rest bytes rest (34 ∷ flat_map escaped text) split

      go : (t : Bool) → closes_text rest ≡ t → Stops bytes (if t then Refused (length bytes - length rest) L1 else Refused 0 L2)
      go true closed = (
        subst (λ u. Cause bytes u L1) (sym at_rest)
            (text_wrong (flat_map escaped text ++ rest) text rest split (closes_behind text rest ∙ closed) refl right (wrong (some rest refl closed))),
        omega arith,
      )
      go false unclosed = (text_open (flat_map escaped text ++ rest) split (closes_behind text rest ∙ unclosed), omega arith)
