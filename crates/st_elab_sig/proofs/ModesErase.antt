-- The mode that hints say is erased to those hints, but for places.
use Rattle.std.proofs.Common.{◌≡◌, refl, sym, ◌∙◌, ap, ℕ, ◌≤◌, List, [], ◌∷◌, map, filter, codes, Bool, true, false, arith}
use Rattle.std.specs.Prelude.{if◌then◌else◌}
use Rattle.std.proofs.lemmas.Slice.Eq.{bytes_eq-Decides}
use Rattle.st_num.specs.declared.token.Token.{Token}
use Rattle.st_el.specs.Plain.{nowhere}
use Rattle.st_el.specs.Erasure.{is_mode, plain_hint, plain_token}
use Rattle.st_el.specs.declared.definition.Hint.{Hint}
use Rattle.st_erase.specs.Definitions.{mode_word, mode_hints}
use Rattle.st_elab_sig.specs.Modes.{mode_kind, AreModeWords, IsMode, none, one}

kept : (hints : List Hint) (hint : Hint) (others : List Hint) → filter is_mode hints ≡ hint ∷ others → is_mode hint ≡ true
kept [] hint others e = absurd (cc)
kept (h ∷ hints) hint others e = by (is_mode h) refl e (kept hints hint others)
  where
    by : (b : Bool) → is_mode h ≡ b → (if b then h ∷ filter is_mode hints else filter is_mode hints) ≡ hint ∷ others
        → (filter is_mode hints ≡ hint ∷ others → is_mode hint ≡ true) → is_mode hint ≡ true
    by true is f later = let same : h ≡ hint = cc in ap is_mode (sym same) ∙ is
    by false is f later = later f

-- the hint is named `mode`
named : (hint : Hint) → is_mode hint ≡ true → hint.name ≡ codes "mode"
named hint e = (bytes_eq-Decides hint.name (codes "mode")).0 e

plain_words : (words : List Token) (mode : List Bool) → map (λ word. word.kind) words ≡ map mode_kind mode → map plain_token words ≡ map mode_word mode
plain_words [] [] e = refl
plain_words [] (input ∷ mode) e = absurd (cc)
plain_words (word ∷ words) [] e = absurd (cc)
plain_words (word ∷ words) (input ∷ mode) e =
    let first : word.kind ≡ mode_kind input = cc in
    let others : map (λ w. w.kind) words ≡ map mode_kind mode = cc in
    λ i. record { at = nowhere; touching = false; kind = first i } ∷ plain_words words mode others i

some : (words : List Token) (holes : ℕ) → AreModeWords words holes [] → ⊥
some [] holes h = let n : 0 ≡ holes = h.number in let m : 1 ≤ holes = h.some in omega (arith, n, m)
some (word ∷ words) holes h = let e : map (λ w. w.kind) (word ∷ words) ≡ [] = h.spelled in cc

hint_back : (hint : Hint) (holes : ℕ) (mode : List Bool) → is_mode hint ≡ true → AreModeWords hint.words holes mode → mode_hints mode ≡ plain_hint hint ∷ []
hint_back hint holes [] is h = absurd (some hint.words holes h)
hint_back hint holes (input ∷ mode) is h = λ i. record { name = sym (named hint is) i; words = sym (plain_words hint.words (input ∷ mode) h.spelled) i } ∷ []

pub mode_back : (hints : List Hint) (holes : ℕ) (mode : List Bool) → IsMode hints holes mode → mode_hints mode ≡ map plain_hint (filter is_mode hints)
mode_back hints holes mode (none e f) = ap mode_hints f ∙ ap (map plain_hint) (sym e)
mode_back hints holes mode (one hint e h) = hint_back hint holes mode (kept hints hint [] e) h ∙ ap (map plain_hint) (sym e)
