-- Whether an option stands among words, by their first one.
use Rattle.std.proofs.Common.{◌≡◌, ◌∙◌, ap, ℕ, suc, ◌+◌, true, false, List, ◌∷◌, take, arith}
use Rattle.std.specs.List.{list_any, before_first, position_or_len}
use Rattle.st_words.specs.Arranged.{is_dashed, is_end, has_options}

-- one more of the first members
take-one_more : (n : ℕ) (word : List ℕ) (words : List (List ℕ)) → take (1 + n) (word ∷ words) ≡ word ∷ take n words
take-one_more n word words = let e : 1 + n ≡ suc n = omega arith in rw e

before-other : (word : List ℕ) (words : List (List ℕ)) → is_end word ≡ false → before_first is_end (word ∷ words) ≡ word ∷ before_first is_end words
before-other word words no_end = rw no_end (take-one_more (position_or_len is_end words) word words)

pub has_options-other : (word : List ℕ) (words : List (List ℕ)) → is_end word ≡ false → is_dashed word ≡ false → has_options (word ∷ words) ≡ has_options words
has_options-other word words no_end none =
    let before = ap (list_any is_dashed) (before-other word words no_end) in
    before ∙ (rw none)

pub has_options-option : (word : List ℕ) (words : List (List ℕ)) → is_end word ≡ false → is_dashed word ≡ true → has_options (word ∷ words) ≡ true
has_options-option word words no_end dashed =
    let before = ap (list_any is_dashed) (before-other word words no_end) in
    before ∙ (rw dashed)
