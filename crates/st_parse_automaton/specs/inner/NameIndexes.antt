-- Names as an index of them has them: each once, and their lengths.
use Rattle.std.specs.Prelude.{◌≡◌, ℕ, List, Bool, true, length, nat_eq}
use Rattle.std.specs.List.{list_any}
use Rattle.std.specs.Borrow.{Bor}
use Rattle.st_num.specs.Names.{same_name, is_among}

-- the name is one of these keys
abbrev pub has_key : List (Bor (List ℕ)) → List ℕ → Bool
has_key keys name = list_any (λ (key : Bor (List ℕ)). same_name name key.now) keys

-- the length is one of these
abbrev pub has_length : List ℕ → ℕ → Bool
has_length lengths n = list_any (nat_eq n) lengths

-- the keys are these names, and the lengths are those that they have
pub record IsIndex (names : List (List ℕ)) (lengths : List ℕ) (keys : List (Bor (List ℕ))) : Type 0 where
  pub measured : (name : List ℕ) → is_among name names ≡ true → has_length lengths (length name) ≡ true
  pub found : (name : List ℕ) → has_key keys name ≡ is_among name names
