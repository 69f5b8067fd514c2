use Rattle.std.proofs.Common.{◌≡◌, ℕ, ◌<◌, List, Some}
use Rattle.std.specs.Prelude.{slice_get}
use Rattle.st_commands.specs.Derived.{IsAtomText}
use Rattle.st_commands.proofs.source.read_term.Given as goal

-- none of the atoms before this one is the term
abbrev pub invariant-loop-atom : goal.invariant-loop-atom
invariant-loop-atom l = (k : ℕ) (atom : List ℕ) → k < l.atom-index → slice_get l.small.atoms k ≡ Some atom → IsAtomText l.bytes atom → ⊥
