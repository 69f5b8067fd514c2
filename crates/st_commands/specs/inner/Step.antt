-- What the rules of a small specification give at an atom.
use Rattle.std.specs.Prelude.{◌≡◌, ℕ, ◌<◌, false, List, Option, Some, None, slice_get, ◌⊎◌}
use Rattle.std.specs.Ordering.{is_gt, nat_cmp}
use Rattle.std.specs.Cmp.Lexicographic.{slice_cmp}
use Rattle.st_il.specs.declared.small.Small.{Small}
use Rattle.st_il.specs.declared.small.SmallRule.{SmallRule}
use Rattle.st_il.specs.Small.{il_of}
use Rattle.st_semantics.specs.Transcript.{IsNext}
use Rattle.st_runs.specs.Transcript.{atom_term}

-- the first atom is not above the second, by bytes
abbrev pub IsAtMost : List ℕ → List ℕ → Type 0
IsAtMost one other = is_gt (slice_cmp nat_cmp one other) ≡ false

-- one of the rules goes from this atom to that
abbrev pub Gives : List SmallRule → List ℕ → List ℕ → Type 0
Gives rules from to =
    (k : ℕ) × (rule : SmallRule) × (slice_get rules k ≡ Some rule) × (rule.from ≡ from)
    × (rule.to ≡ to)

-- of the first rules, one that goes from this atom to the least atom, if any goes from it
pub record IsLeastOf (rules : List SmallRule) (from : List ℕ) (count : ℕ)
    (best : Option SmallRule) : Type 0 where
  pub none : best ≡ None → (k : ℕ) (rule : SmallRule) → k < count → slice_get rules k ≡ Some rule
      → rule.from ≡ from → ⊥
  pub some : (one : SmallRule) → best ≡ Some one
      → (k : ℕ) × (slice_get rules k ≡ Some one) × (one.from ≡ from)
  pub least : (one : SmallRule) → best ≡ Some one → (k : ℕ) (rule : SmallRule) → k < count
      → slice_get rules k ≡ Some rule → rule.from ≡ from → IsAtMost one.to rule.to

-- what is least after one rule more
pub record IsBetter (best : Option SmallRule) (rule : SmallRule) (from : List ℕ)
    (result : Option SmallRule) : Type 0 where
  pub none_best : result ≡ None → best ≡ None
  pub none_rule : result ≡ None → rule.from ≡ from → ⊥
  pub some : (one : SmallRule) → result ≡ Some one
      → (best ≡ Some one) ⊎ ((rule.from ≡ from) × (rule ≡ one))
  pub below_best : (one other : SmallRule) → result ≡ Some one → best ≡ Some other
      → IsAtMost one.to other.to
  pub below_rule : (one : SmallRule) → result ≡ Some one → rule.from ≡ from
      → IsAtMost one.to rule.to

-- the rule goes from this atom to the next of the transcript
pub record IsNextRule (s : Small) (from : List ℕ) (rule : SmallRule) : Type 0 where
  pub number : ℕ
  pub is_rule : slice_get s.rules number ≡ Some rule
  pub goes : rule.from ≡ from
  pub next : IsNext (il_of s) s.relation (atom_term from) (atom_term rule.to)
