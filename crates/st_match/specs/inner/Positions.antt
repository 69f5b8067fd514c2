-- Positions in the elements of a list, each with the environments that the parts before it come to.
use Rattle.std.specs.Prelude.{◌≡◌, ◌≤◌, ◌<◌, ◌-◌, ◌+◌, ℕ, List, [], ◌∷◌, length, drop}
use Rattle.st_il.specs.declared.expression.IlExp.{IlExp}
use Rattle.st_il.specs.declared.expression.ListItem.{ListItem, out-ListItem}
use Rattle.st_il.specs.declared.expression.ListItem.TheVariants as item
use Rattle.st_il.specs.declared.expression.IlExp.TheOpen.{ListItem-F}
use Rattle.st_il.specs.declared.value.Env.{Env}
use Rattle.st_il.specs.declared.value.Value.{Value}
use Rattle.st_match.specs.declared.position.Position.{Position}
use Rattle.st_match.specs.inner.Covering.{AreCandidatesOfItems, AreCandidatesOfSplit}

-- ---- what follows a position

-- these cover all that the environments of a position come to under the parts behind it
abbrev pub Follow : List ListItem → List Value → List Env → Position → Type 0
Follow items vs found position = AreCandidatesOfItems items (drop position.taken vs) position.envs found

-- they do so for each of these positions
abbrev pub FollowAll : List ListItem → List Value → List Env → List Position → Type 0
FollowAll items vs found [] = Unit {0}
FollowAll items vs found (position ∷ positions) =
    Follow items vs found position × FollowAll items vs found positions

-- a part leads from the first positions to the second: what follows those follows these
pub record PartLeads (part : ListItem) (rest : List ListItem) (vs : List Value)
    (before after : List Position) : Type 0 where
  pub lead : (found : List Env) → FollowAll rest vs found after
      → FollowAll (part ∷ rest) vs found before

-- an element leads from the first positions to the second, whatever the parts behind it
pub record ElementLeads (p : IlExp) (vs : List Value) (before after : List Position) : Type 0 where
  pub lead : (rest : List ListItem) → PartLeads (item.One p) rest vs before after

-- the next n elements lead from a position to these
pub record CutLeads (p : IlExp) (vs : List Value) (n : ℕ) (position : Position) (after : List Position)
    : Type 0 where
  pub lead : (rest : List ListItem) (found : List Env) → FollowAll rest vs found after
      → AreCandidatesOfSplit p rest (drop position.taken vs) n position.envs found

-- the next elements lead from a position to these, so many as from `first` to before `end`
pub record CutsLead (p : IlExp) (vs : List Value) (first end : ℕ) (position : Position)
    (after : List Position) : Type 0 where
  pub lead : (rest : List ListItem) (found : List Env) → FollowAll rest vs found after → (n : ℕ)
      → n < end → first ≤ n
      → AreCandidatesOfSplit p rest (drop position.taken vs) n position.envs found

-- ---- how many elements there may be

-- 1 for a single element, and 0 for all elements of another list
abbrev pub one_at : {E K L S : Type 0} → ListItem-F E K L S → ℕ
one_at (ListItem-F.One e) = 1
one_at (ListItem-F.All e) = 0

-- how many of the parts are single elements
abbrev pub ones : List ListItem → ℕ
ones [] = 0
ones (i ∷ is) = one_at (out-ListItem i) + ones is

-- the parts may make so many elements: at least the single ones, and no others where those are all
pub record MayMake (items : List ListItem) (n : ℕ) : Type 0 where
  pub enough : ones items ≤ n
  pub exact : ones items ≡ length items → n ≡ ones items

-- where a part may end that stands before some others, when so many elements are left
pub record AreEnds (rest : List ListItem) (left first end : ℕ) : Type 0 where
  pub within : end ≤ left + 1
  pub all : (n : ℕ) → n ≤ left → MayMake rest (left - n) → (first ≤ n) × (n < end)
