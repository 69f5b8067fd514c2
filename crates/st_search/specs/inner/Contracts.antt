-- What the functions that run a premise promise, for whatever premise it is and whatever is bound.
use Rattle.std.specs.Prelude.{◌≡◌, ℕ, ◌<◌, ◌≤◌, List, ◌++◌, length}
use Rattle.std.specs.List.{AllByRecursion}
use Rattle.st_il.specs.declared.definition.Il.{Il}
use Rattle.st_il.specs.declared.definition.Listed.{Listed}
use Rattle.st_il.specs.declared.expression.IlExp.{IlExp}
use Rattle.st_il.specs.declared.expression.IlPrem.{IlPrem, out-IlPrem}
use Rattle.st_il.specs.declared.expression.IlPrem.TheOpen.{IlPrem-F}
use Rattle.st_il.specs.declared.value.Env.{Env}
use Rattle.st_il.specs.Names.{Name}
use Rattle.st_semantics.specs.Directions.{inputs_of, outputs_of}
use Rattle.st_semantics.specs.Variables.{prem_vars}
use Rattle.st_semantics.specs.Derivation.{Root}
use Rattle.st_eval.specs.Steps.{HasOnly}
use Rattle.st_eval.specs.inner.AtElements.{AllHaveOnly}
use Rattle.st_eval.specs.inner.Beside.{beside}
use Rattle.st_search.specs.declared.found.Found.{Found}
use Rattle.st_search.specs.declared.found.Solution.{Solution}
use Rattle.st_search.specs.declared.found.Walk.{Walk}
use Rattle.st_search.specs.declared.stop.Stop.{Stop}
use Rattle.st_search.specs.inner.RunBy.{IsJudged}
use Rattle.st_search.specs.inner.Sought.{Finds, Stops}
use Rattle.st_search.specs.inner.Steps.{step_seeks}
use Rattle.st_search.specs.inner.Walks.{all_beside, each_seeks}
use Rattle.st_search.specs.inner.Rules.{IsSearchedIn}
use Rattle.st_search.specs.inner.Search.{Solvings, AnswersGoals}

-- a premise that is meant, with what is bound where it is met
abbrev pub Meant : Type 1
Meant = List Name → IlPrem → Type 0

-- fewer goals lead on than are left
abbrev pub IsShort : Il → ℕ → Solvings → ℕ → Type 0
IsShort il n A longest =
    (left : ℕ) → 1 ≤ left → AnswersGoals il n left A → longest < left

-- what is found is what is sought of each premise that is meant
abbrev pub FindsWhere : Il → ℕ → Solvings → List Listed → Env → Meant → Found Solution → Type 0
FindsWhere il n A ls env K found =
    (left : ℕ) (root : Root) (bound : List Name) (p : IlPrem) → AnswersGoals il n left A
    → HasOnly il ls bound env → K bound p → IsSearchedIn il p
    → Finds il n found.longest (step_seeks il n root bound ls env p) found.items

-- each premise that is meant stops by this
abbrev pub StopsWhere : Il → ℕ → Solvings → List Listed → Env → Meant → Stop → Type 0
StopsWhere il n A ls env K stop =
    (left : ℕ) (root : Root) (bound : List Name) (p : IlPrem) → AnswersGoals il n left A
    → HasOnly il ls bound env → K bound p → IsSearchedIn il p
    → Stops il n left (step_seeks il n root bound ls env p) stop

-- what is found is what is sought of each premise that is meant, at all these elements
abbrev pub FindsAtAll : Il → ℕ → Solvings → List Listed → List Env → Meant → Found Walk → Type 0
FindsAtAll il n A ls elements K found =
    (left : ℕ) (root : Root) (bound : List Name) (p : IlPrem) → AnswersGoals il n left A
    → AllHaveOnly il ls bound elements → K bound p → IsSearchedIn il p
    → Finds il n found.longest (each_seeks il n root bound ls elements p) found.items

-- each premise that is meant stops by this, at one of these elements
abbrev pub StopsAtAll : Il → ℕ → Solvings → List Listed → List Env → Meant → Stop → Type 0
StopsAtAll il n A ls elements K stop =
    (left : ℕ) (root : Root) (bound : List Name) (p : IlPrem) → AnswersGoals il n left A
    → AllHaveOnly il ls bound elements → K bound p → IsSearchedIn il p
    → Stops il n left (each_seeks il n root bound ls elements p) stop

-- ---- what is bound, whatever is answered

-- each solution binds the variables of each premise that is meant beside what was bound, and no
-- others
abbrev pub BindsWhere : Il → List Listed → Env → Meant → List Solution → Type 0
BindsWhere il ls env K found =
    (bound : List Name) (p : IlPrem) → HasOnly il ls bound env → K bound p
    → AllByRecursion (λ (x : Solution). HasOnly il ls (bound ++ prem_vars p) (beside env x.env))
    found

-- A walk over elements binds these variables at each of them, and no others.
pub record IsBoundBy (il : Il) (ls : List Listed) (names : List Name) (elements : List Env)
    (w : Walk) : Type 0 where
  pub as_many : length w.envs ≡ length elements
  pub variables : AllHaveOnly il ls names (all_beside elements w.envs)

-- each walk binds the variables of each premise that is meant at these elements, and no others
abbrev pub BindsAtAll : Il → List Listed → List Env → Meant → List Walk → Type 0
BindsAtAll il ls elements K found =
    (bound : List Name) (p : IlPrem) → AllHaveOnly il ls bound elements → K bound p
    → AllByRecursion (IsBoundBy il ls (bound ++ prem_vars p) elements) found

-- ---- goals

-- A premise is a goal of the relation with these inputs and outputs.
pub record IsGoalOf (il : Il) (bound : List Name) (ls : List Listed) (p : IlPrem)
    (relation : Name) (ins outs : List IlExp) : Type 0 where
  pub es : List IlExp
  pub is : out-IlPrem p ≡ IlPrem-F.Goal relation es
  pub ins_are : ins ≡ inputs_of il relation es
  pub outs_are : outs ≡ outputs_of il relation es
  pub judged : IsJudged il bound ls relation es
