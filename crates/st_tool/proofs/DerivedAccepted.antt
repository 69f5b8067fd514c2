-- Derivations that are printed are accepted, and what is accepted is derivable.
use Rattle.std.proofs.Common.{◌≡◌, ℕ, List, [], refl, sym, subst, append-nil, arith, length}
use Rattle.st_deriv.specs.declared.line.Line.{Line}
use Rattle.st_il.specs.declared.definition.Il.{Il}
use Rattle.st_il.specs.Small.{il_of, IsSmallIl}
use Rattle.st_semantics.specs.Accepts.{Accepts, AreSound}
use Rattle.st_semantics.proofs.Sound.{law_of_reading}
use Rattle.st_answers.specs.declared.status.Status.{Status}
use Rattle.st_answers.specs.declared.status.Status.TheVariants as answer
use Rattle.st_answers.specs.Verification.{VerifyGives, malformed, untyped, judged, unjudged, AreTexts, Verified, steps_in, accepted, refused, unfinished, endless}
use Rattle.st_tool.specs.Laws.{DerivedIsAccepted, AcceptedIsSound}
use Rattle.st_verify.proofs.SmallModes.{small_kinded}
use Rattle.st_verify.proofs.SmallTyped.{small_typed}

pub derived_is_accepted : DerivedIsAccepted
derived_is_accepted small atom il derivation status language derived = (
  length derived.lines,
  steps_in derived.lines,
  judged (il_of small) derived.lines [] (small_typed (il_of small) derived.accepted.typed) derived.accepted.typed
      (record {
        language = language;
        lines_are = record {
          front = derivation;
          texts = derived.text;
          rest_has_no_end = λ found. omega (arith, found.1);
          parts = sym (append-nil derivation);
        };
      })
      (accepted derived.accepted refl refl),
)

-- ---- what is accepted is derivable

accepted_sound : (il : Il) (lines : List Line) → Accepts IsSmallIl il lines → AreSound il lines
accepted_sound il lines accepts = law_of_reading il accepts.modes (small_kinded il accepts.typed) lines accepts.notes accepts.read

abbrev ShowsSound : List ℕ → List ℕ → Type 0
ShowsSound il_bytes derivation = (il : Il) × (lines : List Line) × AreTexts il_bytes derivation il lines [] × AreSound il lines

verified_sound : (il_bytes derivation bytes rest : List ℕ) (il : Il) (lines : List Line) (status : Status) → AreTexts il_bytes derivation il lines rest
    → Verified il lines rest status bytes → status ≡ answer.Done → ShowsSound il_bytes derivation
verified_sound il_bytes derivation bytes rest il lines status texts (accepted accepts empty is) done =
    (il, lines, subst (AreTexts il_bytes derivation il lines) empty texts, accepted_sound il lines accepts)
verified_sound il_bytes derivation bytes rest il lines status texts (refused good after line notes rule parts read verdict is) done = cc
verified_sound il_bytes derivation bytes rest il lines status texts (unfinished notes read some is) done = cc
verified_sound il_bytes derivation bytes rest il lines status texts (endless notes read ended empty is) done = cc

given_sound : (il_bytes derivation bytes : List ℕ) (status : Status) → VerifyGives il_bytes derivation status bytes → status ≡ answer.Done → ShowsSound il_bytes derivation
given_sound il_bytes derivation bytes status (malformed line no_il first is) done = cc
given_sound il_bytes derivation bytes status (untyped il place rule text breach is) done = cc
given_sound il_bytes derivation bytes status (judged il lines rest typed small texts verified) done =
    verified_sound il_bytes derivation bytes rest il lines status texts verified done
given_sound il_bytes derivation bytes status (unjudged il text typed not_yet is) done = cc

pub accepted_is_sound : AcceptedIsSound
accepted_is_sound il_bytes derivation bytes gives = given_sound il_bytes derivation bytes answer.Done gives refl
