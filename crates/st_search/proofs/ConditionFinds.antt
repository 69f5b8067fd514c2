-- What is found of a condition is what is sought.
use Rattle.std.proofs.Common.{◌≡◌, refl, sym, ◌∙◌, ap, ap₂, subst, ℕ, Bool, true, false, List, [], ◌∷◌, ◌++◌, ◌⊎◌, inl, inr, Some}
use Rattle.std.specs.Prelude.{Contains}
use Rattle.std.proofs.lemmas.List.Elements.{All-contains_itself}
use Rattle.st_il.specs.declared.definition.Il.{Il}
use Rattle.st_il.specs.declared.definition.Listed.{Listed}
use Rattle.st_il.specs.declared.expression.IlExp.{IlExp, out-IlExp}
use Rattle.st_il.specs.declared.expression.IlExp.TheOpen.{IlExp-F}
use Rattle.st_il.specs.declared.expression.IlPrem.{IlPrem, out-IlPrem}
use Rattle.st_il.specs.declared.expression.IlPrem.TheOpen.{IlPrem-F}
use Rattle.st_il.specs.declared.value.Env.{Env}
use Rattle.st_il.specs.declared.value.Value.{Value}
use Rattle.st_il.specs.declared.value.Value.TheVariants as value
use Rattle.st_semantics.specs.declared.outcome.Outcome.{Outcome}
use Rattle.st_semantics.specs.declared.outcome.Outcome.TheVariants.{Val, NoValue, Deep}
use Rattle.st_il.specs.Names.{Name, has_name, all_known}
use Rattle.st_il.specs.Definitions.{syntaxes}
use Rattle.st_semantics.specs.Environments.{AgreeOn}
use Rattle.st_semantics.specs.Variables.{vars, prem_vars}
use Rattle.st_semantics.specs.Depth as d
use Rattle.st_semantics.specs.Depth.{Setting, evaluated, side_at, bound_side, IsDeep, Meets, MeetsHere}
use Rattle.st_semantics.specs.Calls.{CallAt, ValueAt}
use Rattle.st_semantics.specs.Derivation.{Root}
use Rattle.st_semantics.specs.Laws.{IsStable, CallsAreSingle}
use Rattle.st_semantics.specs.Goals.{Goal}
use Rattle.st_semantics.specs.Chains.{Reaches, here, element}
use Rattle.st_semantics.specs.Matching.{IsMatch}
use Rattle.st_semantics.proofs.Names.{within-cases, known-within, prem-level, true_false}
use Rattle.st_semantics.proofs.Depths.{value_not_deep}
use Rattle.st_semantics.proofs.Runs.{evaluated_whole, evaluated_side}
use Rattle.st_semantics.proofs.Singles.{Gives-single}
use Rattle.st_match.specs.Matches.{AreMatches}
use Rattle.st_eval.specs.Meeting.{IsEquation}
use Rattle.st_eval.specs.Steps.{HasOnly}
use Rattle.st_eval.specs.inner.Beside.{beside, entries_among}
use Rattle.st_eval.proofs.Trying.{known_all}
use Rattle.st_search.specs.declared.found.Solution.{Solution}
use Rattle.st_search.specs.inner.Asking.{AsksGoal}
use Rattle.st_search.specs.inner.Sought.{Finds}
use Rattle.st_search.specs.inner.Solutions.{with_children}
use Rattle.st_search.specs.inner.Steps.{at_root, IsSolution, IsSought, step_seeks}
use Rattle.st_search.proofs.Solutions.{solution_test, solution_bind}
use Rattle.st_search.proofs.GoalSolutions.{each_with}
use Rattle.st_search.proofs.Wanted.{test_wanted, one_value, side_wanted, bind_wanted, pattern_vars, with_children_there}

none_deep : NoValue ≡ Deep → ⊥
none_deep e = cc

none_val : (v : Value) → NoValue ≡ Val v → ⊥
none_val v e = cc

module _ (s : Setting) (p : IlPrem) (e : IlExp) (is : out-IlPrem p ≡ IlPrem-F.If e) where
  abbrev IsEvaluatedDeep : List Name → Env → Type 0
  IsEvaluatedDeep bound env = (part : IlExp) × (evaluated bound e ≡ Some part) × IsDeep s env part

  here_condition : (bound : List Name) (env : Env) → MeetsHere s bound env p → IsEvaluatedDeep bound env
  here_condition bound env (d.condition g part eq ev deep) =
      let both : IlPrem-F.If g ≡ IlPrem-F.If e = sym eq ∙ is in
      let same : g ≡ e = cc in
      (part, subst (λ z. evaluated bound z ≡ Some part) same ev, deep)
  here_condition bound env (d.input relation es eq deep) = let bad : IlPrem-F.Goal relation es ≡ IlPrem-F.If e = sym eq ∙ is in cc
  here_condition bound env (d.output relation es vs g eq have contains deep) = let bad : IlPrem-F.Goal relation es ≡ IlPrem-F.If e = sym eq ∙ is in cc
  here_condition bound env (d.count how xs body eq deep) = let bad : IlPrem-F.Each how xs body ≡ IlPrem-F.If e = sym eq ∙ is in cc

  -- a condition meets Deep only by what it evaluates
  pub meets_condition : (bound : List Name) (ls : List Listed) (env : Env) → Meets s bound ls env p → IsEvaluatedDeep bound env
  meets_condition bound ls env (d.here m) = here_condition bound env m
  meets_condition bound ls env (d.element how xs body before at after eq u passed m) = let bad : IlPrem-F.Each how xs body ≡ IlPrem-F.If e = sym eq ∙ is in cc
  meets_condition bound ls env (d.height how xs body eq t) = let bad : IlPrem-F.Each how xs body ≡ IlPrem-F.If e = sym eq ∙ is in cc

  -- a condition asks no goal
  pub condition_asks : (bound : List Name) (ls : List Listed) (env : Env) (next : Goal) → AsksGoal s bound ls env p next → ⊥
  condition_asks bound ls env next asks = from asks.inside
    where
      from : Reaches s asks.one asks.goal bound ls env p → ⊥
      from (here same equal) = let bad : IlPrem-F.If e ≡ IlPrem-F.Goal next.relation asks.holes = sym is ∙ (ap out-IlPrem equal ∙ asks.is_goal) in cc
      from (element how xs body before at after eq u passed inside) = let bad : IlPrem-F.Each how xs body ≡ IlPrem-F.If e = sym eq ∙ is in cc

-- ---- which side of an equation is evaluated

equation_vars : (il : Il) (bound : List Name) (ls : List Listed) (e side pattern : IlExp) → IsEquation il bound ls e side pattern → (p : IlPrem) → out-IlPrem p ≡ IlPrem-F.If e → ((x : Name) → has_name (vars pattern) x ≡ true → has_name (prem_vars p) x ≡ true)
    → all_known bound (vars e) ≡ false
equation_vars il bound ls e side pattern equation p is within = at (all_known bound (vars e)) refl
  where
    at : (b : Bool) → all_known bound (vars e) ≡ b → all_known bound (vars e) ≡ false
    at false k = k
    at true k = absurd (true_false (sym (known_all bound (vars pattern) (λ x i. known-within bound (vars e) k x (subst (λ z. has_name z x ≡ true) (prem-level p (IlPrem-F.If e) is) (within x i)))) ∙ equation.sides.2))

equation_side : (il : Il) (bound : List Name) (ls : List Listed) (e side pattern : IlExp) → IsEquation il bound ls e side pattern → all_known bound (vars e) ≡ false → evaluated bound e ≡ Some side
equation_side il bound ls e side pattern equation unbound = evaluated_side bound e unbound ∙ by_side equation.sides.0
  where
    by_side : (out-IlExp e ≡ IlExp-F.Eq side pattern) ⊎ (out-IlExp e ≡ IlExp-F.Eq pattern side) → side_at bound (out-IlExp e) ≡ Some side
    by_side (inl eq) = ap (side_at bound) eq ∙ ap (λ z. bound_side z (all_known bound (vars pattern)) side pattern) equation.sides.1
    by_side (inr eq) = ap (side_at bound) eq ∙ ap₂ (λ y z. bound_side y z pattern side) equation.sides.2 equation.sides.1

module _ (il : Il) (stable : IsStable il) (single : CallsAreSingle il) (n : ℕ) (root : Root) (bound : List Name) (ls : List Listed) (env : Env) (p : IlPrem) (e : IlExp) (is : out-IlPrem p ≡ IlPrem-F.If e) where
  -- what is evaluated is not Deep
  not_deep : (part : IlExp) (o : Outcome) → evaluated bound e ≡ Some part → ValueAt il n env part o → (o ≡ Deep → ⊥) → Meets (at_root il n root) bound ls env p → ⊥
  not_deep part o ev gives fine deep =
      let w = meets_condition (at_root il n root) p e is bound ls env deep in
      let both : Some part ≡ Some w.0 = sym ev ∙ w.1 in
      let same : part ≡ w.0 = cc in
      fine (Gives-single (syntaxes il) (CallAt il n) (single n) env part o Deep gives (subst (λ z. ValueAt il n env z Deep) (sym same) w.2))

  -- ---- tests

  pub test_deep : all_known bound (vars e) ≡ true → ValueAt il n env e Deep → (step_seeks il n root bound ls env p).Deep
  test_deep known gives = d.here (d.condition e e is (evaluated_whole bound e known) gives)

  pub test_true : all_known bound (vars e) ≡ true → HasOnly il ls bound env → ValueAt il n env e (Val (value.Bool true)) → Finds il n 0 (step_seeks il n root bound ls env p) (record { env = record { entries = [] }; children = [] } ∷ [])
  test_true known only gives = record {
    sound = (solution_test il n root bound ls env p e is only known gives, tt);
    complete = λ more (s : IsSought il root bound ls env p more). inl (λ x i. s.agrees x (within x i));
    calm = λ next asks. absurd (condition_asks (at_root il 0 root) p e is bound ls env next asks);
    shallow = not_deep e (Val (value.Bool true)) (evaluated_whole bound e known) gives (value_not_deep (value.Bool true));
  }
    where
      within : (x : Name) → has_name (bound ++ prem_vars p) x ≡ true → has_name bound x ≡ true
      within x i = elim (within-cases bound (prem_vars p) x i) [ inl j ↦ j | inr j ↦ known-within bound (vars e) known x (subst (λ z. has_name z x ≡ true) (prem-level p (IlPrem-F.If e) is) j) ]

  pub test_untrue : all_known bound (vars e) ≡ true → (o : Outcome) → ValueAt il n env e o → (o ≡ Val (value.Bool true) → ⊥) → (o ≡ Deep → ⊥) → Finds il n 0 (step_seeks il n root bound ls env p) []
  test_untrue known o gives untrue fine = record {
    sound = tt;
    complete = λ more s. untrue (test_wanted il stable single n root bound ls env p e is more s known o gives fine);
    calm = λ next asks. absurd (condition_asks (at_root il 0 root) p e is bound ls env next asks);
    shallow = not_deep e o (evaluated_whole bound e known) gives fine;
  }

  -- ---- equations

  module _ (side pattern : IlExp) (equation : IsEquation il bound ls e side pattern) where
    evaluates : evaluated bound e ≡ Some side
    evaluates = equation_side il bound ls e side pattern equation (equation_vars il bound ls e side pattern equation p is (pattern_vars il bound ls p e is side pattern equation))

    pub bind_deep : ValueAt il n env side Deep → (step_seeks il n root bound ls env p).Deep
    bind_deep gives = d.here (d.condition e side is evaluates gives)

    pub bind_none : ValueAt il n env side NoValue → Finds il n 0 (step_seeks il n root bound ls env p) []
    bind_none gives = record {
      sound = tt;
      complete = λ more s. none_val (one_value il stable single n root bound ls env p e is more s side pattern equation).1 (side_wanted il stable single n root bound ls env p e is more s side pattern equation NoValue gives none_deep);
      calm = λ next asks. absurd (condition_asks (at_root il 0 root) p e is bound ls env next asks);
      shallow = not_deep side NoValue evaluates gives none_deep;
    }

    pub bind_found : HasOnly il ls bound env → (v : Value) → ValueAt il n env side (Val v) → (few : Env) → few.entries ≡ entries_among env (vars pattern) → (envs : List Env) → AreMatches (syntaxes il) ls pattern v few envs
        → Finds il n 0 (step_seeks il n root bound ls env p) (with_children [] envs)
    bind_found only v gives few few_are envs matches = record {
      sound = each_with (IsSolution il n root bound ls env p) (Contains envs) [] (λ more contains. solution_bind il n root bound ls env p e is only single side pattern equation v gives few few_are more ((matches.exactly more).0 contains)) envs (All-contains_itself envs);
      complete = λ more s.
          let w = bind_wanted il stable single n root bound ls env p e is more s side pattern equation only few few_are in
          let both : Val v ≡ Val (one_value il stable single n root bound ls env p e is more s side pattern equation).1 = side_wanted il stable single n root bound ls env p e is more s side pattern equation (Val v) gives (value_not_deep v) in
          let same : (one_value il stable single n root bound ls env p e is more s side pattern equation).1 ≡ v = cc in
          with_children_there (λ (x : Solution). AgreeOn (bound ++ prem_vars p) (beside env x.env) more) [] w.0 envs
          ((matches.exactly w.0).1 (subst (λ z. IsMatch (syntaxes il) ls pattern z few w.0) same w.1)) w.2;
      calm = λ next asks. absurd (condition_asks (at_root il 0 root) p e is bound ls env next asks);
      shallow = not_deep side (Val v) evaluates gives (value_not_deep v);
    }
