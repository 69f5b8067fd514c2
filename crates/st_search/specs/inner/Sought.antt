-- What is sought, and what it is that it is found.
use Rattle.std.specs.Prelude.{ℕ, List}
use Rattle.std.specs.List.{AllByRecursion}
use Rattle.st_il.specs.declared.definition.Il.{Il}
use Rattle.st_semantics.specs.Goals.{Goal, IsGoal}
use Rattle.st_search.specs.declared.stop.Stop.{Stop}
use Rattle.st_search.specs.declared.stop.Stop.TheVariants as stop
use Rattle.st_search.specs.inner.Lists.{Exists}
use Rattle.st_search.specs.inner.Chains.{IsCalm, IsChainBy}

-- What is sought: which finds are right, what is wanted, when a find is what is wanted, which goals
-- are asked, and when Deep is met.
pub record Sought (X Y : Type 0) : Type 1 where
  pub Right : X → Type 0
  pub Wanted : Y → Type 0
  pub Is : X → Y → Type 0
  pub Asked : Goal → Type 0
  pub Deep : Type 0

-- The finds are right, all that is wanted is among them, no goal that was asked leads to more than
-- so many goals or to Deep, and Deep is not met.
pub record Finds (il : Il) (n longest : ℕ) {X Y : Type 0} (q : Sought X Y) (xs : List X)
    : Type 0 where
  pub sound : AllByRecursion q.Right xs
  pub complete : (y : Y) → q.Wanted y → Exists (λ x. q.Is x y) xs
  pub calm : (g : Goal) → q.Asked g → IsCalm il n longest g
  pub shallow : q.Deep → ⊥

-- what is sought from each of some sources
abbrev pub sought_from : {S X Y : Type 0} → (S → Sought X Y) → List S → Sought X Y
sought_from {S} q sources = record {
  Right = λ x. Exists (λ (z : S). (q z).Right x) sources;
  Wanted = λ y. Exists (λ (z : S). (q z).Wanted y) sources;
  Is = λ x y. Exists (λ (z : S). (q z).Wanted y × (q z).Is x y) sources;
  Asked = λ g. Exists (λ (z : S). (q z).Asked g) sources;
  Deep = Exists (λ (z : S). (q z).Deep) sources;
}

-- Deep is met, or a goal that is asked begins a chain where so many goals are left.
abbrev pub Stops : Il → ℕ → ℕ → {X Y : Type 0} → Sought X Y → Stop → Type 0
Stops il n left q stop.Meets = q.Deep
Stops il n left q (stop.Asks chain) =
    (g : Goal) × q.Asked g × IsGoal il g × IsChainBy il n left g chain
Stops il n left q stop.Memory = Unit {0}

-- where no goal is asked, it stops only where this is so
abbrev pub StopsIf : Type 0 → Stop → Type 0
StopsIf P stop.Meets = P
StopsIf P (stop.Asks chain) = ⊥
StopsIf P stop.Memory = Unit {0}
