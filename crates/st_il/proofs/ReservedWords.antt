-- A word is among the reserved ones exactly where one of them is written so.
use Rattle.std.proofs.Common.{◌≡◌, ◌≢◌, ℕ, ◌+◌, ◌<◌, ◌≤◌, List, length, get_or, take, map, sym, ap, subst, ◌∙◌}
use Rattle.std.specs.List.{All, Contains}
use Rattle.std.proofs.lemmas.List.{length-map, get_or-map, take_more, take_all}
use Rattle.std.proofs.lemmas.List.Elements.{All-push}
use Rattle.st_num.specs.Words.{word_spelling}
use Rattle.st_num.specs.declared.word.Word.{Word}
use Rattle.st_num.specs.declared.word.Word.TheVariants.{Syntax}

-- the word is written otherwise
abbrev pub IsOther : List ℕ → Word → Type 0
IsOther text word = word_spelling word ≢ text

pub Contains-at : (words : List Word) (i : ℕ) (word : Word) (text : List ℕ) → i < length words → word ≡ get_or words i word → word_spelling word ≡ text
    → Contains (map word_spelling words) text
Contains-at words i word text within at spelled =
    let within-texts : i < length (map word_spelling words) = rw length-map within in
    (i, within-texts, get_or-map word_spelling words i word text within ∙ ap word_spelling (sym at) ∙ spelled)

pub Contains-none : (words : List Word) (text : List ℕ) → All (IsOther text) words → Contains (map word_spelling words) text → ⊥
Contains-none words text others h =
    let within : h.0 < length words = simp length-map at h.1 in
    others h.0 Syntax within (sym (get_or-map word_spelling words h.0 Syntax text within) ∙ h.2)

-- one more that passes
pub All-more : {X : Type 0} (P : X → Type 0) (xs : List X) (i : ℕ) (x : X) → i < length xs → x ≡ get_or xs i x → P x → All P (take i xs) → All P (take (i + 1) xs)
All-more P xs i x within at passes all =
    subst (All P) (sym (take_more xs i x within)) (All-push P (take i xs) (get_or xs i x) all (subst P at passes))

-- all of them have passed
pub All-whole : {X : Type 0} (P : X → Type 0) (xs : List X) (i : ℕ) → length xs ≤ i → All P (take i xs) → All P xs
All-whole P xs i end all = subst (All P) (take_all i xs end) all
