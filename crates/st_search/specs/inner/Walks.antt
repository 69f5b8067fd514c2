-- What the elements of an iterated premise are to find, one after another.
use Rattle.std.specs.Prelude.{◌≡◌, ℕ, Bool, false, true, List, [], ◌∷◌, ◌++◌, length}
use Rattle.st_il.specs.declared.definition.Il.{Il}
use Rattle.st_il.specs.declared.definition.Listed.{Listed}
use Rattle.st_il.specs.declared.expression.Iteration.{Iteration}
use Rattle.st_il.specs.declared.expression.IlPrem.{IlPrem}
use Rattle.st_il.specs.declared.tree.Child.{Child}
use Rattle.st_il.specs.declared.tree.Child.TheVariants as child
use Rattle.st_il.specs.declared.value.Env.{Env}
use Rattle.st_semantics.specs.declared.outcome.Outcome.TheVariants.{Deep}
use Rattle.st_il.specs.Names.{Name, has_name, without}
use Rattle.st_semantics.specs.Environments.{AgreeOn}
use Rattle.st_semantics.specs.Iterations.{index_of, gathered}
use Rattle.st_semantics.specs.Variables.{prem_vars}
use Rattle.st_semantics.specs.Holding.{HoldAll, AreElements, each_instance}
use Rattle.st_semantics.specs.Depth.{Meets, AllTypedIn}
use Rattle.st_semantics.specs.Calls.{has_value, has_value_at}
use Rattle.st_semantics.specs.Derivation.{Root, Proved, derived, excluded}
use Rattle.st_semantics.specs.Chains.{excluded_at}
use Rattle.st_algo.specs.declared.algorithm.AlgoStep.{AlgoStep, fold-AlgoStep}
use Rattle.st_algo.specs.declared.algorithm.AlgoStep.TheOpen.{AlgoStep-F}
use Rattle.st_eval.specs.inner.Beside.{beside}
use Rattle.st_eval.specs.inner.AtElements.{AllHaveOnly}
use Rattle.st_eval.specs.inner.Gathered.{values_there}
use Rattle.st_search.specs.declared.found.Solution.{Solution}
use Rattle.st_search.specs.declared.found.Walk.{Walk}
use Rattle.st_search.specs.inner.Asking.{AsksGoal}
use Rattle.st_search.specs.inner.Sought.{Sought}
use Rattle.st_search.specs.inner.Steps.{at_root, IsSolution, IsSought}

-- ---- elements

-- the environments agree one by one on these variables
abbrev pub AllAgreeOn : List Name → List Env → List Env → Type 0
AllAgreeOn names [] [] = Unit {0}
AllAgreeOn names [] (b ∷ bs) = ⊥
AllAgreeOn names (a ∷ as') [] = ⊥
AllAgreeOn names (a ∷ as') (b ∷ bs) = AgreeOn names a b × AllAgreeOn names as' bs

-- each element with what was found there before what was bound
abbrev pub all_beside : List Env → List Env → List Env
all_beside [] found = []
all_beside (env ∷ envs) [] = []
all_beside (env ∷ envs) (more ∷ rest) = beside env more ∷ all_beside envs rest

-- A walk over elements: at each it binds the variables of a premise beside those that were bound, so
-- that it holds, and its children stand for the premise at all of them.
pub record IsWalk (il : Il) (n : ℕ) (root : Root) (bound : List Name) (ls : List Listed)
    (elements : List Env) (p : IlPrem) (w : Walk) : Type 0 where
  pub as_many : length w.envs ≡ length elements
  pub agree : AllAgreeOn bound elements (all_beside elements w.envs)
  pub variables : AllHaveOnly il ls (bound ++ prem_vars p) (all_beside elements w.envs)
  pub proved : Proved il (has_value_at il n) (excluded_at il n) root
      (each_instance (all_beside elements w.envs) p) w.children

-- Under environments that have what was bound at the elements, and typed values of its other
-- variables, a premise holds.
pub record AreSought (il : Il) (root : Root) (bound : List Name) (ls : List Listed)
    (elements : List Env) (p : IlPrem) (mores : List Env) : Type 0 where
  pub agree : AllAgreeOn bound elements mores
  pub typed : AllTypedIn il ls (without bound (prem_vars p)) mores
  pub hold : HoldAll (has_value il) (excluded il root) (derived il) (each_instance mores p)

-- An element with this property, behind some at which a premise holds.
pub record ComesTo (il : Il) (root : Root) (bound : List Name) (ls : List Listed)
    (elements : List Env) (p : IlPrem) (P : Env → Type 0) : Type 0 where
  pub before : List Env
  pub at : Env
  pub after : List Env
  pub split : elements ≡ before ++ at ∷ after
  pub mores : List Env
  pub sought : AreSought il root bound ls before p mores
  pub here : P at

-- what is sought at all elements
abbrev pub each_seeks : Il → ℕ → Root → List Name → List Listed → List Env → IlPrem
    → Sought Walk (List Env)
each_seeks il n root bound ls elements p = record {
  Right = IsWalk il n root bound ls elements p;
  Wanted = AreSought il root bound ls elements p;
  Is = λ w mores. AllAgreeOn (bound ++ prem_vars p) (all_beside elements w.envs) mores;
  Asked = λ next. ComesTo il root bound ls elements p
      (λ at. AsksGoal (at_root il 0 root) bound ls at p next);
  Deep = ComesTo il root bound ls elements p (λ at. Meets (at_root il n root) bound ls at p);
}

-- walks that are one element longer, by each of some solutions
abbrev pub stretched : Walk → List Solution → List Walk
stretched w [] = []
stretched w (x ∷ xs) =
    record { envs = w.envs ++ x.env ∷ []; children = w.children ++ x.children } ∷ stretched w xs

-- each walk with each solution of the next element
abbrev pub multiplied : List Walk → List Solution → List Walk
multiplied [] xs = []
multiplied (w ∷ ws) xs = stretched w xs ++ multiplied ws xs

-- ---- behind the elements

-- whether a level of steps asks goals
abbrev pub asks_at : AlgoStep-F Bool → Bool
asks_at (AlgoStep-F.Match ins) = false
asks_at (AlgoStep-F.Test e) = false
asks_at (AlgoStep-F.Let pattern e) = false
asks_at (AlgoStep-F.Goal relation ins outs) = true
asks_at (AlgoStep-F.Loop how xs body) = body
asks_at AlgoStep-F.Otherwise = false
asks_at (AlgoStep-F.Give outs) = false

-- whether a step asks goals, so that a child stands for its premise
abbrev pub step_asks : AlgoStep → Bool
step_asks = fold-AlgoStep Bool asks_at

-- what stands for an iterated premise, if anything does: a child with those of all elements
abbrev pub many : Bool → List Child → List Child
many false children = []
many true children = child.Many children ∷ []

-- An environment at whose elements the walk was found.
pub record IsSoughtBy (il : Il) (root : Root) (bound : List Name) (ls : List Listed) (env : Env)
    (p : IlPrem) (how : Iteration) (xs : List Name) (body : IlPrem) (elements : List Env) (w : Walk)
    (more : Env) : Type 0 where
  pub sought : IsSought il root bound ls env p more
  pub envs : List Env
  pub are : AreElements (has_value il) how xs more envs
  pub agree : AllAgreeOn ((index_of how ++ bound) ++ prem_vars body)
      (all_beside elements w.envs) envs

-- Of a variable that a walk binds the list or option is too high.
pub record IsTooHigh (bound : List Name) (how : Iteration) (xs : List Name) (w : Walk)
    : Type 0 where
  pub x : Name
  pub iterated : has_name xs x ≡ true
  pub unbound : has_name bound x ≡ false
  pub high : gathered how (values_there x w.envs) ≡ Deep

-- what is sought of a walk over all elements
abbrev pub gather_seeks : Il → ℕ → Root → List Name → List Listed → Env → IlPrem → Iteration
    → List Name → IlPrem → List Env → Walk → Sought Solution Env
gather_seeks il n root bound ls env p how xs body elements w = record {
  Right = IsSolution il n root bound ls env p;
  Wanted = IsSoughtBy il root bound ls env p how xs body elements w;
  Is = λ x more. AgreeOn (bound ++ prem_vars p) (beside env x.env) more;
  Asked = λ next. ⊥;
  Deep = IsTooHigh bound how xs w;
}
