-- Which premises can be run by which steps, where some variables are bound.
use Rattle.std.specs.Prelude.{◌≡◌, true, false, List, [], ◌∷◌, ◌++◌}
use Rattle.std.specs.List.{list_all}
use Rattle.st_il.specs.declared.definition.Il.{Il}
use Rattle.st_il.specs.declared.definition.Listed.{Listed}
use Rattle.st_il.specs.declared.expression.IlExp.{IlExp, out-IlExp}
use Rattle.st_il.specs.declared.expression.IlExp.TheOpen.{IlExp-F}
use Rattle.st_il.specs.declared.expression.Iteration.{Iteration}
use Rattle.st_il.specs.declared.expression.IlPrem.{IlPrem, out-IlPrem}
use Rattle.st_il.specs.declared.expression.IlPrem.TheOpen.{IlPrem-F}
use Rattle.st_il.specs.declared.value.Env.{Env}
use Rattle.st_il.specs.Names.{Name, has_name, all_known, without}
use Rattle.st_il.specs.Definitions.{syntaxes}
use Rattle.st_semantics.specs.Directions.{inputs_of, outputs_of}
use Rattle.st_semantics.specs.Environments.{listed_names}
use Rattle.st_semantics.specs.Formed.{IsFormed, AreFormed}
use Rattle.st_semantics.specs.Iterations.{count_of, index_of}
use Rattle.st_semantics.specs.Scopes.{listed_inside}
use Rattle.st_semantics.specs.Variables.{vars, vars_of, prem_vars}
use Rattle.st_semantics.specs.Patterns.{bound_by}
use Rattle.st_semantics.specs.Executable.{is_anchored, is_countable, is_met}
use Rattle.st_semantics.specs.Kinds.{AreOfItsKind, AreOfItsBody}
use Rattle.st_algo.specs.declared.algorithm.AlgoStep.{AlgoStep, out-AlgoStep}
use Rattle.st_algo.specs.declared.algorithm.AlgoStep.TheOpen.{AlgoStep-F}
use Rattle.st_eval.specs.Meeting.{IsEquation}
use Rattle.st_eval.specs.Steps.{HasOnly}
use Rattle.st_search.specs.Searchable.{IsTypedGoal}

-- A goal whose inputs are bound, each of its outputs bound too or a pattern that the outputs bind.
pub record IsJudged (il : Il) (bound : List Name) (ls : List Listed) (relation : Name)
    (es : List IlExp) : Type 0 where
  pub known : all_known bound (vars_of (inputs_of il relation es)) ≡ true
  pub met : list_all (is_met bound (bound ++ bound_by (outputs_of il relation es)))
      (outputs_of il relation es) ≡ true
  pub formed : AreFormed (syntaxes il) es
  pub typed : IsTypedGoal il ls relation es
  pub listed : all_known (listed_names ls) (vars_of es) ≡ true

-- An iterated premise whose number of elements is bound, whose count is met, and all of whose other
-- variables are bound; it names listed variables of its kind that occur inside, and not its count.
pub record IsIterated (il : Il) (bound : List Name) (ls : List Listed) (p : IlPrem)
    (how : Iteration) (xs : List Name) (body : IlPrem) : Type 0 where
  pub is : out-IlPrem p ≡ IlPrem-F.Each how xs body
  pub anchored : is_anchored bound how xs ≡ true
  pub countable : list_all (is_countable bound) (count_of how) ≡ true
  pub others : all_known bound (without xs (without (index_of how) (prem_vars body))) ≡ true
  pub formed : AreFormed (syntaxes il) (count_of how)
  pub own : AreOfItsBody how xs body
  pub kinded : AreOfItsKind how xs ls
  pub apart : (e : IlExp) (c : Name) → count_of how ≡ e ∷ [] → out-IlExp e ≡ IlExp-F.Var c
      → has_name bound c ≡ false → has_name xs c ≡ false
  pub listed : all_known (listed_names ls) (bound ++ prem_vars p) ≡ true

-- A premise can be run by a step: a condition as a test or by the pattern of an equation, a goal by
-- its inputs and outputs, and what is iterated by a loop.
pub data IsRunBy (il : Il) : List Name → List Listed → IlPrem → AlgoStep → Type 0 where
  test : {bound : List Name} {ls : List Listed} {p : IlPrem} {step : AlgoStep} (e : IlExp)
      → out-IlPrem p ≡ IlPrem-F.If e → out-AlgoStep step ≡ AlgoStep-F.Test e
      → all_known bound (vars e) ≡ true → IsFormed (syntaxes il) e → IsRunBy il bound ls p step
  binds : {bound : List Name} {ls : List Listed} {p : IlPrem} {step : AlgoStep}
      (e side pattern : IlExp) → out-IlPrem p ≡ IlPrem-F.If e
      → out-AlgoStep step ≡ AlgoStep-F.Let pattern side → IsEquation il bound ls e side pattern
      → IsRunBy il bound ls p step
  goal : {bound : List Name} {ls : List Listed} {p : IlPrem} {step : AlgoStep} (relation : Name)
      (es : List IlExp) → out-IlPrem p ≡ IlPrem-F.Goal relation es
      → out-AlgoStep step
      ≡ AlgoStep-F.Goal relation (inputs_of il relation es) (outputs_of il relation es)
      → IsJudged il bound ls relation es → IsRunBy il bound ls p step
  otherwise : {bound : List Name} {ls : List Listed} {p : IlPrem} {step : AlgoStep}
      → out-IlPrem p ≡ IlPrem-F.Otherwise → out-AlgoStep step ≡ AlgoStep-F.Otherwise
      → IsRunBy il bound ls p step
  each : {bound : List Name} {ls : List Listed} {p : IlPrem} {step : AlgoStep} (how : Iteration)
      (xs : List Name) (body : IlPrem) (inner : AlgoStep)
      → out-AlgoStep step ≡ AlgoStep-F.Loop how xs inner → IsIterated il bound ls p how xs body
      → IsRunBy il (index_of how ++ bound) (listed_inside how xs ls) body inner
      → IsRunBy il bound ls p step

-- An iterated premise, and the step that runs what is repeated.
pub record IsLoopOf (il : Il) (bound : List Name) (ls : List Listed) (p : IlPrem)
    (how : Iteration) (xs : List Name) (body : IlPrem) (inner : AlgoStep) : Type 0 where
  pub each : IsIterated il bound ls p how xs body
  pub inside : IsRunBy il (index_of how ++ bound) (listed_inside how xs ls) body inner

-- In an environment of these variables, and no others, the premise can be run by the step.
pub record IsAt (il : Il) (bound : List Name) (ls : List Listed) (env : Env) (p : IlPrem)
    (step : AlgoStep) : Type 0 where
  pub only : HasOnly il ls bound env
  pub run : IsRunBy il bound ls p step
