-- What a step leads to from one end of a run, by what it leads to where the variables of the end are bound.
use Rattle.std.proofs.Common.{◌≡◌, sym, ap, subst, ℕ, List, ◌++◌}
use Rattle.st_il.specs.declared.definition.Il.{Il}
use Rattle.st_il.specs.declared.definition.Listed.{Listed}
use Rattle.st_il.specs.declared.value.Env.{Env}
use Rattle.st_il.specs.Names.{Name}
use Rattle.st_semantics.specs.Environments.{Entry}
use Rattle.st_semantics.specs.Variables.{prem_vars}
use Rattle.st_algo.specs.declared.algorithm.AlgoStep.{AlgoStep}
use Rattle.st_match.specs.declared.scope.Bound.{Bound}
use Rattle.st_match.specs.inner.Scope.{entries_of, scope_env}
use Rattle.st_eval.specs.Steps.{HasOnly}
use Rattle.st_search.specs.declared.found.Found.{Found}
use Rattle.st_search.specs.declared.found.Partial.{Partial}
use Rattle.st_search.specs.declared.found.Solution.{Solution}
use Rattle.st_search.specs.declared.stop.Stop.{Stop}
use Rattle.st_search.specs.inner.Contracts.{FindsWhere, StopsWhere, BindsWhere}
use Rattle.st_search.specs.inner.RunBy.{IsRunBy}
use Rattle.st_search.specs.inner.Rules.{lengthened}
use Rattle.st_search.specs.inner.Search.{Solvings}
use Rattle.st_search.specs.inner.Sought.{Finds, Stops}
use Rattle.st_search.specs.inner.Steps.{step_seeks}
use Rattle.st_search.proofs.Binds.{Bind, lengthened_bind}
use Rattle.st_search.proofs.NextEnds.{FromEnd, BindsFrom, StopsFrom, next_finds, next_stops}

module _ (il : Il) (n : ℕ) (A : Solvings) (ls : List Listed) (step : AlgoStep) (end : Partial) (scope : List Bound) (are : entries_of scope ≡ end.env.entries) where
  env_is : scope_env scope ≡ end.env
  env_is = ap (λ (z : List Entry). let env : Env = record { entries = z } in env) are

  pub only_scope : (bound : List Name) → HasOnly il ls bound end.env → HasOnly il ls bound (scope_env scope)
  only_scope bound = subst (HasOnly il ls bound) (sym env_is)

  pub step_found : (found : Found Solution) → FindsWhere il n A ls (scope_env scope) (λ bound p. IsRunBy il bound ls p step) found → (ends : List Partial) → ends ≡ lengthened end found.items → FromEnd il n A ls step end found.longest ends
  step_found found finds ends ends_are left root bound p answers only run searched =
      next_finds il n root bound ls p end found.longest found.items ends ends_are
      (subst (λ z. Finds il n found.longest (step_seeks il n root bound ls z p) found.items) env_is (finds left root bound p answers (only_scope bound only) run searched))

  pub step_binds : (found : List Solution) → BindsWhere il ls (scope_env scope) (λ bound p. IsRunBy il bound ls p step) found → (ends : List Partial) → ends ≡ lengthened end found → BindsFrom il n A ls step end ends
  step_binds found binds ends ends_are bound p only run =
      lengthened_bind il ls (bound ++ prem_vars p) end found ends ends_are (subst (λ z. Bind il ls z (bound ++ prem_vars p) found) env_is (binds bound p (only_scope bound only) run))

  pub step_stopped : (s : Stop) → StopsWhere il n A ls (scope_env scope) (λ bound p. IsRunBy il bound ls p step) s → StopsFrom il n A ls step end s
  step_stopped s stops left root bound p answers only run searched =
      next_stops il n root bound ls p end left s (subst (λ z. Stops il n left (step_seeks il n root bound ls z p) s) env_is (stops left root bound p answers (only_scope bound only) run searched))
