-- Statements about these definitions that are not proved yet, and that no contract cites. `Typed`
-- is the typing of an internal language.
use Rattle.std.specs.Prelude.{ℕ, ◌≤◌, false, None}
use Rattle.st_il.specs.declared.definition.Il.{Il}
use Rattle.st_il.specs.Names.{Name}
use Rattle.st_semantics.specs.Breaches.{KeepModes}
use Rattle.st_semantics.specs.Marks.{HasMark}
use Rattle.st_semantics.specs.Chains.{DeepAt}
use Rattle.st_semantics.specs.Transcript.{Term, GoesOn, IsNext}
use Rattle.st_semantics.specs.Goals.{AreInputs}

-- where something is derivable from typed inputs, but no least output, a chain begins there at
-- every depth
abbrev pub LawOfNoLeast : (Il → Type 0) → Type 0
LawOfNoLeast Typed =
    (il : Il) → Typed il → KeepModes il → (name : Name) → HasMark il false name None
    → (term : Term) → AreInputs il name term → GoesOn il name term
    → ((next : Term) → IsNext il name term next → ⊥)
    → (n : ℕ) → 1 ≤ n → DeepAt il n (record { relation = name; inputs = term })
