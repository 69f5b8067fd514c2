-- An iterated premise that can be met, and what its inner premise comes to at the elements.
use Rattle.std.specs.Prelude.{◌≡◌, ℕ, ◌+◌, List, [], ◌∷◌, ◌++◌}
use Rattle.st_il.specs.declared.definition.Il.{Il}
use Rattle.st_il.specs.declared.definition.Listed.{Listed}
use Rattle.st_il.specs.declared.definition.SyntaxDef.{SyntaxDef}
use Rattle.st_il.specs.declared.expression.IlPrem.{IlPrem, fold-IlPrem}
use Rattle.st_il.specs.declared.expression.IlPrem.TheOpen.{IlPrem-F}
use Rattle.st_il.specs.declared.expression.Iteration.{Iteration}
use Rattle.st_il.specs.declared.value.Env.{Env}
use Rattle.st_il.specs.Names.{Name}
use Rattle.st_il.specs.Definitions.{syntaxes}
use Rattle.st_semantics.specs.Formed.{AreFormed}
use Rattle.st_semantics.specs.Iterations.{count_of, index_of}
use Rattle.st_semantics.specs.Scopes.{listed_inside}
use Rattle.st_eval.specs.Steps.{MeetsAt, HasOnly, HoldsWith, Fails}
use Rattle.st_eval.specs.Elements.{IsEach}
use Rattle.st_eval.specs.CanBeMet.{CanBeMet}
use Rattle.st_eval.specs.declared.condition.Met.{Met}
use Rattle.st_eval.specs.declared.condition.Met.TheVariants as met
use Rattle.st_eval.specs.declared.meet.AtElements.{AtElements}
use Rattle.st_eval.specs.declared.meet.AtElements.TheVariants as reached
use Rattle.st_eval.specs.inner.Beside.{beside}
use Rattle.st_eval.specs.inner.Gathered.{IsGathered}

-- the height of a level of premises, where what it repeats has this height
abbrev pub prem_height_at : IlPrem-F ℕ → ℕ
prem_height_at (IlPrem-F.Each how xs h) = 3 + h
prem_height_at _ = 0

-- how high a premise is, by which the recursion over premises ends
abbrev pub prem_height : IlPrem → ℕ
prem_height = fold-IlPrem ℕ prem_height_at

-- an iterated premise that can be met
pub record CanMeetEach (il : Il) (bound : List Name) (ls : List Listed) (p : IlPrem)
    (how : Iteration) (xs : List Name) (body : IlPrem) : Type 0 where
  pub each : IsEach il bound ls p how xs body
  pub formed : AreFormed (syntaxes il) (count_of how)
  pub inside : CanBeMet il (index_of how ++ bound) (listed_inside how xs ls) body

-- these variables and no others are bound at each element
abbrev pub AllHaveOnly : Il → List Listed → List Name → List Env → Type 0
AllHaveOnly il ls names [] = Unit {0}
AllHaveOnly il ls names (env ∷ envs) = HasOnly il ls names env × AllHaveOnly il ls names envs

-- the premise holds at each element, with what it binds there before what was bound
abbrev pub AllHoldBeside : Il → ℕ → List Name → List Listed → IlPrem → List Env → List Env → Type 0
AllHoldBeside il n bound ls p [] [] = Unit {0}
AllHoldBeside il n bound ls p [] (more ∷ rest) = ⊥
AllHoldBeside il n bound ls p (env ∷ envs) [] = ⊥
AllHoldBeside il n bound ls p (env ∷ envs) (more ∷ rest) =
    HoldsWith il n bound ls env p (beside env more) × AllHoldBeside il n bound ls p envs rest

-- an element with this property, behind those at which the premise holds
pub record StopsAt (il : Il) (n : ℕ) (bound : List Name) (ls : List Listed) (p : IlPrem)
    (elements : List Env) (P : Env → Type 0) : Type 0 where
  pub before : List Env
  pub at : Env
  pub after : List Env
  pub found : List Env
  pub are : elements ≡ before ++ at ∷ after
  pub hold : AllHoldBeside il n bound ls p before found
  pub stops : P at

-- what the premise comes to at the elements, one after another
abbrev pub AreMet : Il → ℕ → List Name → List Listed → IlPrem → List Env → AtElements → Type 0
AreMet il n bound ls p elements (reached.Hold found) =
    AllHoldBeside il n bound ls p elements found
AreMet il n bound ls p elements reached.Fails =
    StopsAt il n bound ls p elements (λ env. Fails il n bound ls env p)
AreMet il n bound ls p elements reached.Deep =
    StopsAt il n bound ls p elements (λ env. MeetsAt il n bound ls env p)

-- what an iterated premise comes to behind its elements
abbrev pub IsBehind : List SyntaxDef → List Listed → List Name → Iteration → List Name
    → AtElements → Met → Type 0
IsBehind defs ls known how xs (reached.Hold found) m = IsGathered defs ls known how xs found m
IsBehind defs ls known how xs reached.Fails m = m ≡ met.Fails
IsBehind defs ls known how xs reached.Deep m = m ≡ met.Deep
