-- The words of a mode, and hints that say one.
use Rattle.std.proofs.Common.{◌≡◌, refl, sym, ◌∙◌, ap, subst, codes, true, false, ℕ, zero, suc, ◌<◌, List, [], ◌∷◌, length, map, filter, get_or, Bool, Option, Ok, Err, arith}
use Rattle.std.specs.Prelude.{◌≢◌, None, Some, Result, IfOk, IfSome}
use Rattle.st_num.specs.declared.token.Token.{Token}
use Rattle.st_el.specs.declared.definition.Hint.{Hint}
use Rattle.st_el.specs.Erasure.{is_mode}
use Rattle.st_elab_sig.specs.Modes.{mode_kind, AreModeWords, IsMode, none, one}

-- a word that is neither of the two stands in no mode
pub no_word : (words : List Token) (i : ℕ) (word : Token) → i < length words → word ≡ get_or words i word
    → ((input : Bool) → word.kind ≢ mode_kind input) → (mode : List Bool) → map (λ w. w.kind) words ≡ map mode_kind mode → ⊥
no_word [] i word h is other mode e = absurd (omega arith)
no_word (w ∷ words) i word h is other [] e = absurd (cc)
no_word (w ∷ words) zero word h is other (input ∷ mode) e =
    let first : w.kind ≡ mode_kind input = cc in other input (ap (λ w. w.kind) is ∙ first)
no_word (w ∷ words) (suc i) word h is other (input ∷ mode) e =
    let others : map (λ w. w.kind) words ≡ map mode_kind mode = cc in
    no_word words i word (omega arith) is other mode others

-- what the words of the one hint say is the mode
pub one_says : {E : Type 0} (hints : List Hint) (holes : ℕ) (hint : Hint) (words : List Token) (r : Result (Option (List Bool)) E)
    → filter is_mode hints ≡ hint ∷ [] → words ≡ hint.words
    → IfOk r (λ found. IfSome found (AreModeWords words holes)) → IfOk r (λ found. IfSome found (IsMode hints holes))
one_says hints holes hint words (Err e) is same h = tt
one_says hints holes hint words (Ok None) is same h = tt
one_says hints holes hint words (Ok (Some mode)) is same h = one hint is (subst (λ ws. AreModeWords ws holes mode) same h)

-- ---- one mode

in_no_out : codes "in" ≡ codes "out" → ⊥
in_no_out e = let lengths : 2 ≡ 3 = ap length e in absurd (omega (arith, lengths))

same_input : (a b : Bool) → mode_kind a ≡ mode_kind b → a ≡ b
same_input true true e = refl
same_input true false e = let names : codes "in" ≡ codes "out" = cc in absurd (in_no_out names)
same_input false true e = let names : codes "out" ≡ codes "in" = cc in absurd (in_no_out (sym names))
same_input false false e = refl

same_words : (a b : List Bool) → map mode_kind a ≡ map mode_kind b → a ≡ b
same_words [] [] e = refl
same_words [] (y ∷ b) e = absurd (cc)
same_words (x ∷ a) [] e = absurd (cc)
same_words (x ∷ a) (y ∷ b) e =
    let first : mode_kind x ≡ mode_kind y = cc in
    let others : map mode_kind a ≡ map mode_kind b = cc in
    λ i. same_input x y first i ∷ same_words a b others i

pub IsMode-single : (hints : List Hint) (holes : ℕ) (a b : List Bool) → IsMode hints holes a → IsMode hints holes b → a ≡ b
IsMode-single hints holes a b (none e f) (none g h) = f ∙ sym h
IsMode-single hints holes a b (none e f) (one hint g h) = absurd (cc)
IsMode-single hints holes a b (one hint e f) (none g h) = absurd (cc)
IsMode-single hints holes a b (one hint e f) (one other g h) =
    let same : hint ≡ other = cc in
    same_words a b (sym f.spelled ∙ ap (λ one. map (λ word. word.kind) one.words) same ∙ h.spelled)
