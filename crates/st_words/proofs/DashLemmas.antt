-- Whether a word `-` stands as a value, by the first word.
use Rattle.std.proofs.Common.{◌≡◌, refl, Bool, true, false, List, [], ◌∷◌, ℕ}
use Rattle.st_words.specs.Arranged.{is_end}
use Rattle.st_words.specs.inner.Fronts.{dash_value_from, is_dash, names_option}

pub dash_value-none : (is_behind : Bool) → dash_value_from is_behind [] ≡ false
unfolding dash_value_from
dash_value-none is_behind = refl

pub dash_value-end : (is_behind : Bool) (word : List ℕ) (words : List (List ℕ)) → is_end word ≡ true → dash_value_from is_behind (word ∷ words) ≡ false
unfolding dash_value_from
dash_value-end is_behind word words end = rw end refl

pub dash_value-there : (word : List ℕ) (words : List (List ℕ)) → is_end word ≡ false → is_dash word ≡ true → dash_value_from true (word ∷ words) ≡ true
unfolding dash_value_from
dash_value-there word words no_end dash = rw (no_end, dash) refl

pub dash_value-first : (word : List ℕ) (words : List (List ℕ)) → is_end word ≡ false → dash_value_from false (word ∷ words) ≡ dash_value_from (names_option word) words
unfolding dash_value_from
dash_value-first word words no_end = rw no_end refl

pub dash_value-other : (is_behind : Bool) (word : List ℕ) (words : List (List ℕ)) → is_end word ≡ false → is_dash word ≡ false → dash_value_from is_behind (word ∷ words) ≡ dash_value_from (names_option word) words
unfolding dash_value_from
dash_value-other true word words no_end none = rw (no_end, none) refl
dash_value-other false word words no_end none = rw no_end refl
