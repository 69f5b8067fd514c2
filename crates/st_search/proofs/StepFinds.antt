-- What the function finds that runs a step, by the form of the step.
use Rattle.std.proofs.Common.{◌≡◌, sym, ◌∙◌, ap, ap₂, subst, ℕ, ◌++◌, true, List, ◌⊎◌, inl, inr}
use Rattle.st_il.specs.declared.definition.Il.{Il}
use Rattle.st_il.specs.declared.definition.Listed.{Listed}
use Rattle.st_il.specs.declared.expression.IlExp.{IlExp}
use Rattle.st_il.specs.declared.expression.IlPrem.{IlPrem, out-IlPrem}
use Rattle.st_il.specs.declared.expression.IlPrem.TheOpen.{IlPrem-F}
use Rattle.st_il.specs.declared.expression.Iteration.{Iteration}
use Rattle.st_il.specs.declared.value.Env.{Env}
use Rattle.st_il.specs.Names.{Name, all_known}
use Rattle.st_semantics.specs.Environments.{names_of}
use Rattle.st_semantics.specs.Patterns.{binds}
use Rattle.st_semantics.specs.Variables.{vars}
use Rattle.st_semantics.specs.Derivation.{Root}
use Rattle.st_semantics.proofs.Names.{known-within, within-cases, within-left, within-right}
use Rattle.st_algo.specs.declared.algorithm.AlgoStep.{AlgoStep, out-AlgoStep}
use Rattle.st_algo.specs.declared.algorithm.AlgoStep.TheOpen.{AlgoStep-F}
use Rattle.st_algo.specs.declared.algorithm.AlgoStep.TheVariants as variant
use Rattle.st_eval.specs.Meeting.{IsEquation}
use Rattle.st_eval.specs.Steps.{HasOnly}
use Rattle.st_eval.proofs.Trying.{known_all}
use Rattle.st_search.specs.declared.found.Found.{Found}
use Rattle.st_search.specs.declared.found.Solution.{Solution}
use Rattle.st_search.specs.declared.stop.Stop.{Stop}
use Rattle.st_search.specs.inner.Contracts.{Meant, FindsWhere, StopsWhere, BindsWhere, IsGoalOf}
use Rattle.st_search.specs.inner.Sought.{Finds, Stops}
use Rattle.st_search.specs.inner.Steps.{step_seeks}
use Rattle.st_search.specs.inner.RunBy.{IsRunBy, IsLoopOf}
use Rattle.st_search.specs.inner.Rules.{IsSearchedIn}
use Rattle.st_search.specs.inner.Search.{Solvings}
use Rattle.st_search.proofs.Binds.{any_root, right_bind}
use Rattle.st_search.proofs.StepWays.{run_test, run_let, run_goal, run_loop, run_match, run_give, run_otherwise}

module _ (il : Il) (n : ℕ) (A : Solvings) (ls : List Listed) (env : Env) (K L : Meant) (less : (bound : List Name) (p : IlPrem) → K bound p → L bound p) where
  -- where more premises are meant
  pub finds_less : (found : Found Solution) → FindsWhere il n A ls env L found → FindsWhere il n A ls env K found
  finds_less found finds left root bound p answers only k searched = finds left root bound p answers only (less bound p k) searched

  pub binds_less : (found : List Solution) → BindsWhere il ls env L found → BindsWhere il ls env K found
  binds_less found binds bound p only k = binds bound p only (less bound p k)

  pub stops_less : (s : Stop) → StopsWhere il n A ls env L s → StopsWhere il n A ls env K s
  stops_less s stops left root bound p answers only k searched = stops left root bound p answers only (less bound p k) searched

-- what is found by its parts
pub finds_as : (il : Il) (n : ℕ) (A : Solvings) (ls : List Listed) (env : Env) (K : Meant) (items : List Solution) (longest : ℕ) (found : Found Solution) → found.items ≡ items → found.longest ≡ longest → FindsWhere il n A ls env K (record { items = items; longest = longest })
    → FindsWhere il n A ls env K found
finds_as il n A ls env K items longest found first second finds left root bound p answers only k searched =
    subst (λ z. Finds il n z (step_seeks il n root bound ls env p) found.items) (sym second)
    (subst (Finds il n longest (step_seeks il n root bound ls env p)) (sym first) (finds left root bound p answers only k searched))

module _ (il : Il) (n : ℕ) (A : Solvings) (ls : List Listed) (env : Env) (step : AlgoStep) where
  -- what is meant is what the step runs
  abbrev pub IsMeant : Meant
  IsMeant bound p = IsRunBy il bound ls p step

  -- ---- tests

  module _ (e : IlExp) (out : out-AlgoStep step ≡ AlgoStep-F.Test e) where
    module _ (items : List Solution)
        (finds : (root : Root) (bound : List Name) (ls : List Listed) (p : IlPrem) → out-IlPrem p ≡ IlPrem-F.If e → all_known bound (vars e) ≡ true → HasOnly il ls bound env → Finds il n 0 (step_seeks il n root bound ls env p) items) where
      pub test_finds : FindsWhere il n A ls env IsMeant (record { items = items; longest = 0 })
      test_finds left root bound p answers only run searched = let w = run_test il bound ls p step run e out in finds root bound ls p w.0 w.1 only

      pub test_binds : BindsWhere il ls env IsMeant items
      test_binds bound p only run = let w = run_test il bound ls p step run e out in right_bind il n any_root bound ls env p items (finds any_root bound ls p w.0 w.1 only).sound

    pub test_stops : (s : Stop) → ((left : ℕ) (root : Root) (bound : List Name) (ls : List Listed) (p : IlPrem) → out-IlPrem p ≡ IlPrem-F.If e → all_known bound (vars e) ≡ true → Stops il n left (step_seeks il n root bound ls env p) s)
        → StopsWhere il n A ls env IsMeant s
    test_stops s stops left root bound p answers only run searched = let w = run_test il bound ls p step run e out in stops left root bound ls p w.0 w.1

  -- ---- equations

  module _ (pattern side : IlExp) (out : out-AlgoStep step ≡ AlgoStep-F.Let pattern side) where
    -- the variables of the pattern are bound, or bound by it
    pub let_bound : (bound : List Name) (p : IlPrem) → HasOnly il ls bound env → IsRunBy il bound ls p step → all_known (names_of env ++ binds pattern) (vars pattern) ≡ true
    let_bound bound p only run =
        let w = run_let il bound ls p step run pattern side out in
        known_all (names_of env ++ binds pattern) (vars pattern) (λ x i. elim (within-cases bound (binds pattern) x (known-within (bound ++ binds pattern) (vars pattern) w.2.bound_too x i)) [
          | inl j ↦ within-left (names_of env) (binds pattern) x (only.names_are x ∙ j)
          | inr j ↦ within-right (names_of env) (binds pattern) x j
        ])

    module _ (items : List Solution)
        (finds : (root : Root) (bound : List Name) (p : IlPrem) (e : IlExp) → out-IlPrem p ≡ IlPrem-F.If e → IsEquation il bound ls e side pattern → HasOnly il ls bound env → Finds il n 0 (step_seeks il n root bound ls env p) items) where
      pub let_finds : FindsWhere il n A ls env IsMeant (record { items = items; longest = 0 })
      let_finds left root bound p answers only run searched = let w = run_let il bound ls p step run pattern side out in finds root bound p w.0 w.1 w.2 only

      pub let_binds : BindsWhere il ls env IsMeant items
      let_binds bound p only run = let w = run_let il bound ls p step run pattern side out in right_bind il n any_root bound ls env p items (finds any_root bound p w.0 w.1 w.2 only).sound

    pub let_stops : (s : Stop) → ((left : ℕ) (root : Root) (bound : List Name) (p : IlPrem) (e : IlExp) → out-IlPrem p ≡ IlPrem-F.If e → IsEquation il bound ls e side pattern → Stops il n left (step_seeks il n root bound ls env p) s)
        → StopsWhere il n A ls env IsMeant s
    let_stops s stops left root bound p answers only run searched = let w = run_let il bound ls p step run pattern side out in stops left root bound p w.0 w.1 w.2

  -- ---- goals and loops

  pub goal_meant : (relation : Name) (ins outs some others : List IlExp) → out-AlgoStep step ≡ AlgoStep-F.Goal relation ins outs → some ≡ ins → others ≡ outs → (bound : List Name) (p : IlPrem) → IsMeant bound p → IsGoalOf il bound ls p relation some others
  goal_meant relation ins outs some others out first second bound p run =
      run_goal il bound ls p step run relation some others (out ∙ ap₂ (λ y z. AlgoStep-F.Goal relation y z) (sym first) (sym second))

  pub loop_meant : (how : Iteration) (xs names : List Name) (body inner : AlgoStep) → out-AlgoStep step ≡ AlgoStep-F.Loop how xs body → names ≡ xs → inner ≡ body → (bound : List Name) (p : IlPrem) → IsMeant bound p → (q : IlPrem) × IsLoopOf il bound ls p how names q inner
  loop_meant how xs names body inner out first second bound p run =
      run_loop il bound ls p step run how names inner (out ∙ ap₂ (λ y z. AlgoStep-F.Loop how y z) (sym first) (sym second))

  -- ---- steps that run no premise

  -- the first step of a rule, its last one, and an `otherwise`
  abbrev pub RunsNothing : Type 0
  RunsNothing = ((ins : List IlExp) × (step ≡ variant.Match ins)) ⊎ (step ≡ variant.Otherwise) ⊎ ((outs : List IlExp) × (step ≡ variant.Give outs))

  never_meant : RunsNothing → (bound : List Name) (p : IlPrem) → IsMeant bound p → IsSearchedIn il p → ⊥
  never_meant (inl w) bound p run searched = run_match il bound ls p step run w.0 (ap out-AlgoStep w.1 ∙ variant.outs-Match w.0)
  never_meant (inr (inl is)) bound p run searched = run_otherwise il bound ls p step run searched (ap out-AlgoStep is ∙ variant.outs-Otherwise)
  never_meant (inr (inr w)) bound p run searched = run_give il bound ls p step run w.0 (ap out-AlgoStep w.1 ∙ variant.outs-Give w.0)

  pub nothing_finds : RunsNothing → (found : Found Solution) → FindsWhere il n A ls env IsMeant found
  nothing_finds which found left root bound p answers only run searched = absurd (never_meant which bound p run searched)
