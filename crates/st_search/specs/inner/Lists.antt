-- What holds of one of some elements, and what each of some elements comes to.
use Rattle.std.specs.Prelude.{◌≡◌, List, [], ◌∷◌, ◌++◌, ◌⊎◌}

-- it holds of one of the elements
abbrev pub Exists : {A : Type 0} → (A → Type 0) → List A → Type 0
Exists P [] = ⊥
Exists P (x ∷ xs) = P x ⊎ Exists P xs

-- each of some elements comes to some others, one after another
abbrev pub EachComesTo : {A B : Type 0} → (A → List B → Type 0) → List A → List B → Type 0
EachComesTo R [] found = found ≡ []
EachComesTo {A} {B} R (x ∷ xs) found =
    (first : List B) × (rest : List B) × R x first × EachComesTo R xs rest
    × (found ≡ first ++ rest)
