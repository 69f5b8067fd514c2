-- The atom of a term file.
use Rattle.std.proofs.Common.{◌≡◌, ℕ, ◌+◌, ◌<◌, ◌≤◌, List, length, below_more, ◌∙◌, sym, ap, subst, Some, get_or, arith}
use Rattle.std.specs.Prelude.{slice_get}
use Rattle.std.proofs.lemmas.Option.{slice_get-get_or}
use Rattle.st_il.specs.declared.small.Small.{Small}
use Rattle.st_commands.specs.Derived.{IsAtomText}
use Rattle.st_commands.specs.inner.Starts.{HasNoTerm}

-- the atom of this number is not the term
abbrev pub IsPassed : List (List ℕ) → List ℕ → ℕ → Type 0
IsPassed atoms bytes k = (atom : List ℕ) → slice_get atoms k ≡ Some atom → IsAtomText bytes atom → ⊥

-- neither are the atoms before this one
abbrev pub ArePassed : List (List ℕ) → List ℕ → ℕ → Type 0
ArePassed atoms bytes count = (k : ℕ) (atom : List ℕ) → k < count → slice_get atoms k ≡ Some atom → IsAtomText bytes atom → ⊥

-- one atom more is passed
pub passes : (atoms items : List (List ℕ)) (bytes : List ℕ) (count : ℕ) (item : List ℕ) → items ≡ atoms → ArePassed atoms bytes count
    → count < length items → item ≡ get_or items count item → (IsAtomText bytes item → ⊥) → ArePassed atoms bytes (count + 1)
passes atoms items bytes count item same passed below item_is differs k atom lt =
    below_more (IsPassed atoms bytes) count (λ j lt_j one. passed j one lt_j)
    (λ one at. let at_item : slice_get atoms count ≡ Some item =
    ap (λ xs. slice_get xs count) (sym same) ∙ slice_get-get_or items count item below ∙ ap Some (sym item_is) in
    let is : item ≡ one = cc in
    subst (λ x. IsAtomText bytes x → ⊥) is differs)
    k lt atom

-- all atoms are passed
pub none_left : (small : Small) (items : List (List ℕ)) (bytes : List ℕ) (count : ℕ) → items ≡ small.atoms → ArePassed small.atoms bytes count
    → length items ≤ count → HasNoTerm small bytes
none_left small items bytes count same passed ends atom term =
    let (k, below, is) = term.known in
    let long = ap (λ (xs : List (List ℕ)). length xs) same in
    let lt : k < count = omega (arith, below, ends, long) in
    passed k atom lt (slice_get-get_or small.atoms k atom below ∙ ap Some is) term.text
