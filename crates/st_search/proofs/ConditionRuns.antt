-- What the functions that run conditions find, and why they stop, whatever premise is meant.
use Rattle.std.proofs.Common.{◌≡◌, sym, ◌∙◌, ap, subst, ℕ, true, List, [], ◌∷◌}
use Rattle.st_il.specs.declared.definition.Listed.{Listed}
use Rattle.st_il.specs.declared.expression.IlExp.{IlExp}
use Rattle.st_il.specs.declared.expression.IlPrem.{IlPrem, out-IlPrem}
use Rattle.st_il.specs.declared.expression.IlPrem.TheOpen.{IlPrem-F}
use Rattle.st_il.specs.declared.value.Env.{Env}
use Rattle.st_il.specs.declared.value.Value.{Value}
use Rattle.st_il.specs.declared.value.Value.TheVariants as value
use Rattle.st_semantics.specs.declared.outcome.Outcome.{Outcome}
use Rattle.st_semantics.specs.declared.outcome.Outcome.TheVariants.{Val, NoValue, Deep}
use Rattle.st_il.specs.Names.{Name, all_known}
use Rattle.st_il.specs.Definitions.{syntaxes}
use Rattle.st_semantics.specs.Variables.{vars}
use Rattle.st_semantics.specs.Calls.{ValueAt}
use Rattle.st_semantics.specs.Derivation.{Root}
use Rattle.st_semantics.proofs.Depths.{value_not_deep}
use Rattle.st_match.specs.Matches.{AreMatches}
use Rattle.st_eval.specs.Meeting.{IsEquation}
use Rattle.st_eval.specs.Steps.{HasOnly}
use Rattle.st_eval.specs.inner.Beside.{entries_among}
use Rattle.st_search.specs.declared.found.Solution.{Solution}
use Rattle.st_search.specs.declared.setting.Search.{Search}
use Rattle.st_search.specs.declared.stop.Stop.{Stop}
use Rattle.st_search.specs.declared.stop.Stop.TheVariants as stop
use Rattle.st_search.specs.inner.Search.{IsSearch}
use Rattle.st_search.specs.inner.Solutions.{with_children}
use Rattle.st_search.specs.inner.Sought.{Finds, Stops}
use Rattle.st_search.specs.inner.Steps.{step_seeks}
use Rattle.st_search.proofs.ConditionFinds.{test_true, test_untrue, test_deep, bind_found, bind_none, bind_deep}

none_deep : NoValue ≡ Deep → ⊥
none_deep e = cc

none_true : NoValue ≡ Val (value.Bool true) → ⊥
none_true e = cc

-- ---- tests

module _ (s : Search) (known : IsSearch s) (env : Env) (e : IlExp) where
  abbrev pub TestFinds : List Solution → Type 0
  TestFinds found =
      (root : Root) (bound : List Name) (ls : List Listed) (p : IlPrem) → out-IlPrem p ≡ IlPrem-F.If e → all_known bound (vars e) ≡ true → HasOnly s.setting.index.now ls bound env
      → Finds s.setting.index.now s.setting.depth 0 (step_seeks s.setting.index.now s.setting.depth root bound ls env p) found

  abbrev pub TestStops : Stop → Type 0
  TestStops end =
      (left : ℕ) (root : Root) (bound : List Name) (ls : List Listed) (p : IlPrem) → out-IlPrem p ≡ IlPrem-F.If e → all_known bound (vars e) ≡ true
      → Stops s.setting.index.now s.setting.depth left (step_seeks s.setting.index.now s.setting.depth root bound ls env p) end

  module _ (o : Outcome) (gives : ValueAt s.setting.index.now s.setting.depth env e o) where
    gives_is : (r : Outcome) → o ≡ r → ValueAt s.setting.index.now s.setting.depth env e r
    gives_is r is = subst (ValueAt s.setting.index.now s.setting.depth env e) is gives

    pub true_finds : (v : Value) → o ≡ Val v → v ≡ value.Bool true → (found : List Solution) → found ≡ record { env = record { entries = [] }; children = [] } ∷ [] → TestFinds found
    true_finds v is truth found are root bound ls p if all only = subst (Finds s.setting.index.now s.setting.depth 0 (step_seeks s.setting.index.now s.setting.depth root bound ls env p)) (sym are)
        (test_true s.setting.index.now known.searchable.stable known.searchable.evaluable.single s.setting.depth root bound ls env p e if all only (gives_is (Val (value.Bool true)) (is ∙ ap Val truth)))

    untrue : (r : Outcome) → o ≡ r → (r ≡ Val (value.Bool true) → ⊥) → (r ≡ Deep → ⊥) → (found : List Solution) → found ≡ [] → TestFinds found
    untrue r is other shallow found are root bound ls p if all only = subst (Finds s.setting.index.now s.setting.depth 0 (step_seeks s.setting.index.now s.setting.depth root bound ls env p)) (sym are)
        (test_untrue s.setting.index.now known.searchable.stable known.searchable.evaluable.single s.setting.depth root bound ls env p e if all r (gives_is r is) other shallow)

    pub untrue_finds : (v : Value) → o ≡ Val v → (v ≡ value.Bool true → ⊥) → (found : List Solution) → found ≡ [] → TestFinds found
    untrue_finds v is other = untrue (Val v) is (λ both. let same : v ≡ value.Bool true = cc in other same) (value_not_deep v)

    pub no_value_finds : o ≡ NoValue → (found : List Solution) → found ≡ [] → TestFinds found
    no_value_finds is = untrue NoValue is none_true none_deep

    pub test_stops : o ≡ Deep → TestStops stop.Meets
    test_stops is left root bound ls p if all =
        test_deep s.setting.index.now known.searchable.stable known.searchable.evaluable.single s.setting.depth root bound ls env p e if all (gives_is Deep is)

-- ---- equations

module _ (s : Search) (known : IsSearch s) (ls : List Listed) (env : Env) (pattern side : IlExp) where
  abbrev pub BindFinds : List Solution → Type 0
  BindFinds found =
      (root : Root) (bound : List Name) (p : IlPrem) (e : IlExp) → out-IlPrem p ≡ IlPrem-F.If e → IsEquation s.setting.index.now bound ls e side pattern → HasOnly s.setting.index.now ls bound env
      → Finds s.setting.index.now s.setting.depth 0 (step_seeks s.setting.index.now s.setting.depth root bound ls env p) found

  abbrev pub BindStops : Stop → Type 0
  BindStops end =
      (left : ℕ) (root : Root) (bound : List Name) (p : IlPrem) (e : IlExp) → out-IlPrem p ≡ IlPrem-F.If e → IsEquation s.setting.index.now bound ls e side pattern
      → Stops s.setting.index.now s.setting.depth left (step_seeks s.setting.index.now s.setting.depth root bound ls env p) end

  -- the solutions by which the pattern has a value
  abbrev pub AreMatched : Value → List Solution → Type 0
  AreMatched v found =
      (few : Env) × (envs : List Env) × (few.entries ≡ entries_among env (vars pattern)) × AreMatches (syntaxes s.setting.index.now) ls pattern v few envs × (found ≡ with_children [] envs)

  module _ (o : Outcome) (gives : ValueAt s.setting.index.now s.setting.depth env side o) where
    side_is : (r : Outcome) → o ≡ r → ValueAt s.setting.index.now s.setting.depth env side r
    side_is r is = subst (ValueAt s.setting.index.now s.setting.depth env side) is gives

    pub match_finds : (v : Value) → o ≡ Val v → (found : List Solution) → AreMatched v found → BindFinds found
    match_finds v is found w root bound p e if equation only = subst (Finds s.setting.index.now s.setting.depth 0 (step_seeks s.setting.index.now s.setting.depth root bound ls env p)) (sym w.4)
        (bind_found s.setting.index.now known.searchable.stable known.searchable.evaluable.single s.setting.depth root bound ls env p e if side pattern equation only v (side_is (Val v) is) w.0 w.2 w.1 w.3)

    pub no_side_finds : o ≡ NoValue → (found : List Solution) → found ≡ [] → BindFinds found
    no_side_finds is found are root bound p e if equation only = subst (Finds s.setting.index.now s.setting.depth 0 (step_seeks s.setting.index.now s.setting.depth root bound ls env p)) (sym are)
        (bind_none s.setting.index.now known.searchable.stable known.searchable.evaluable.single s.setting.depth root bound ls env p e if side pattern equation (side_is NoValue is))

    pub bind_stops : o ≡ Deep → BindStops stop.Meets
    bind_stops is left root bound p e if equation =
        bind_deep s.setting.index.now known.searchable.stable known.searchable.evaluable.single s.setting.depth root bound ls env p e if side pattern equation (side_is Deep is)
