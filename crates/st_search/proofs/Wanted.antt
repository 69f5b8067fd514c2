-- What is wanted of a condition or a goal is found.
use Rattle.std.proofs.Common.{arith, ◌≡◌, refl, sym, ◌∙◌, subst, ℕ, zero, suc, ◌<◌, length, true, not, map, List, [], ◌∷◌, ◌++◌, inl, inr, ◌⊎◌}
use Rattle.std.specs.Prelude.{Contains}
use Rattle.std.specs.List.{slice_index_or}
use Rattle.st_il.specs.declared.definition.Il.{Il}
use Rattle.st_il.specs.declared.definition.Listed.{Listed}
use Rattle.st_il.specs.declared.expression.IlExp.{IlExp, out-IlExp}
use Rattle.st_il.specs.declared.expression.IlExp.TheOpen.{IlExp-F}
use Rattle.st_il.specs.declared.expression.IlPrem.{IlPrem, out-IlPrem}
use Rattle.st_il.specs.declared.expression.IlPrem.TheOpen.{IlPrem-F}
use Rattle.st_il.specs.declared.tree.Child.{Child}
use Rattle.st_il.specs.declared.tree.Child.TheVariants as child
use Rattle.st_il.specs.declared.value.Env.{Env}
use Rattle.st_il.specs.declared.value.Value.{Value}
use Rattle.st_il.specs.declared.value.Value.TheVariants as value
use Rattle.st_semantics.specs.declared.outcome.Outcome.{Outcome}
use Rattle.st_semantics.specs.declared.outcome.Outcome.TheVariants.{Val, Deep}
use Rattle.st_il.specs.Names.{Name, has_name, all_known, without}
use Rattle.st_il.specs.Definitions.{syntaxes}
use Rattle.st_semantics.specs.Directions.{mask, inputs_of, outputs_of}
use Rattle.st_semantics.specs.Environments.{AgreeOn, TypedIn, listed_names}
use Rattle.st_semantics.specs.Evaluation.{tasks, Gives}
use Rattle.st_semantics.specs.Parts.{binary}
use Rattle.st_semantics.specs.Operators.{equality}
use Rattle.st_semantics.specs.Variables.{vars, vars_of, prem_vars}
use Rattle.st_semantics.specs.Patterns.{bound_by}
use Rattle.st_semantics.specs.Matching.{no_answers, IsMatch}
use Rattle.st_semantics.specs.Holding as h
use Rattle.st_semantics.specs.Holding.{Meaning, Derives, Holds, HaveValues, value_by}
use Rattle.st_semantics.specs.Calls.{CallAt, ValueAt, has_value, has_value_at}
use Rattle.st_semantics.specs.Derivation.{Root, derived, excluded, Derivable}
use Rattle.st_semantics.specs.Laws.{IsStable, CallsAreSingle}
use Rattle.st_semantics.proofs.Names.{Within, within-cases, within-left, within-right, known-within, prem-level, vars-form, without-other}
use Rattle.st_semantics.proofs.Agree.{Gives-agree, HaveValues-agree, value_by-local}
use Rattle.st_semantics.proofs.Choice.{equal_sides}
use Rattle.st_semantics.proofs.Inverse.{holds_condition}
use Rattle.st_semantics.proofs.Premises.{without-parts}
use Rattle.st_semantics.proofs.PatternParts.{Gives-pattern}
use Rattle.st_semantics.proofs.Values.{Two, two_values, equation_form}
use Rattle.st_semantics.specs.Forms.{Strict}
use Rattle.st_eval.specs.Meeting.{IsEquation}
use Rattle.st_eval.specs.Steps.{HasOnly}
use Rattle.st_eval.proofs.Trying.{known_all}
use Rattle.st_eval.specs.inner.Beside.{beside, entries_among}
use Rattle.st_search.specs.Answers.{goal_of}
use Rattle.st_search.specs.declared.answer.Output.{Output}
use Rattle.st_search.specs.declared.found.Found.{Found}
use Rattle.st_search.specs.declared.found.Solution.{Solution}
use Rattle.st_search.specs.declared.holes.Evaluated.TheVariants.{Computed}
use Rattle.st_search.specs.declared.holes.Hole.{Hole}
use Rattle.st_search.specs.inner.Holes.{AreHoles, AreFitting, matched_of}
use Rattle.st_search.specs.inner.Lists.{Exists}
use Rattle.st_search.specs.inner.Meeting.{MeetsAnswer, AreMeetings, misfit, fits, AllMeetings}
use Rattle.st_search.specs.inner.RunBy.{IsJudged}
use Rattle.st_search.specs.inner.Search.{Solves}
use Rattle.st_search.specs.inner.Solutions.{with_children}
use Rattle.st_search.specs.inner.Steps.{IsSought}
use Rattle.st_search.proofs.Values.{value_same, value-local, values_up}
use Rattle.st_search.proofs.Finds.{Exists-front, Exists-back}
use Rattle.st_search.proofs.Extended.{kept, kept_ordered, kept_names, kept_extends, kept_typed, kept_value, kept_agrees}
use Rattle.st_search.proofs.FittingValues.{values_fitting, values-single, fitting_single}
use Rattle.st_search.proofs.Masks.{values_at_inputs}
use Rattle.st_search.proofs.GoalParts.{goal_vars, patterns_within, bound_behind_goal}
use Rattle.st_search.proofs.GoalSolutions.{outputs_settled}

-- ---- conditions

-- the variables of an equation are those of both sides
equation_names : (il : Il) (p : IlPrem) (e : IlExp) → out-IlPrem p ≡ IlPrem-F.If e → (a b : IlExp) → out-IlExp e ≡ IlExp-F.Eq a b → prem_vars p ≡ vars a ++ (vars b ++ [])
equation_names il p e is a b eq = prem-level p (IlPrem-F.If e) is ∙ vars-form (syntaxes il) e (Strict (a ∷ b ∷ []) (binary equality)) (equation_form (syntaxes il) e a b eq)

-- the variables of the pattern are of the premise
pub pattern_vars : (il : Il) (bound : List Name) (ls : List Listed) (p : IlPrem) (e : IlExp) → out-IlPrem p ≡ IlPrem-F.If e → (side pattern : IlExp) → IsEquation il bound ls e side pattern → Within (vars pattern) (prem_vars p)
pattern_vars il bound ls p e is side pattern equation x i = at equation.sides.0
  where
    at : (out-IlExp e ≡ IlExp-F.Eq side pattern) ⊎ (out-IlExp e ≡ IlExp-F.Eq pattern side) → has_name (prem_vars p) x ≡ true
    at (inl eq) = subst (λ z. has_name z x ≡ true) (sym (equation_names il p e is side pattern eq)) (within-right (vars side) (vars pattern ++ []) x (within-left (vars pattern) [] x i))
    at (inr eq) = subst (λ z. has_name z x ≡ true) (sym (equation_names il p e is pattern side eq)) (within-left (vars pattern) (vars side ++ []) x i)

module _ (il : Il) (stable : IsStable il) (single : CallsAreSingle il) (n : ℕ) (root : Root) (bound : List Name) (ls : List Listed) (env : Env) (p : IlPrem) (e : IlExp) (is : out-IlPrem p ≡ IlPrem-F.If e) (more : Env)
    (s : IsSought il root bound ls env p more) where
  -- a test is true
  pub test_wanted : all_known bound (vars e) ≡ true → (o : Outcome) → ValueAt il n env e o → (o ≡ Deep → ⊥) → o ≡ Val (value.Bool true)
  test_wanted known o gives shallow =
      value_same il stable single n env e o (value.Bool true) gives shallow
      (value-local il more env e (value.Bool true) (λ x i. sym (s.agrees x (known-within bound (vars e) known x i)))
      (holds_condition (has_value il) (excluded il root) (derived il) more p e s.holds is))

  module _ (side pattern : IlExp) (equation : IsEquation il bound ls e side pattern) where
    -- both sides have one value
    abbrev pub OneValue : Type 0
    OneValue = (m : ℕ) × (v : Value) × Gives (syntaxes il) (CallAt il m) more side (Val v) × Gives (syntaxes il) (CallAt il m) more pattern (Val v)

    pub one_value : OneValue
    one_value = from (holds_condition (has_value il) (excluded il root) (derived il) more p e s.holds is) equation.sides.0
      where
        from : has_value il more e (value.Bool true) → (out-IlExp e ≡ IlExp-F.Eq side pattern) ⊎ (out-IlExp e ≡ IlExp-F.Eq pattern side) → OneValue
        from (m, holds) (inl eq) =
            let t : Two (syntaxes il) (CallAt il m) more side pattern (binary equality) (value.Bool true) = two_values (syntaxes il) (CallAt il m) more e side pattern (binary equality) (value.Bool true) (equation_form (syntaxes il) e side pattern eq) holds in
            (m, t.0, t.2, subst (λ z. Gives (syntaxes il) (CallAt il m) more pattern (Val z)) (sym (equal_sides t.0 t.1 t.4)) t.3)
        from (m, holds) (inr eq) =
            let t : Two (syntaxes il) (CallAt il m) more pattern side (binary equality) (value.Bool true) = two_values (syntaxes il) (CallAt il m) more e pattern side (binary equality) (value.Bool true) (equation_form (syntaxes il) e pattern side eq) holds in
            (m, t.1, t.3, subst (λ z. Gives (syntaxes il) (CallAt il m) more pattern (Val z)) (equal_sides t.0 t.1 t.4) t.2)

    -- the bound side has a value
    pub side_wanted : (o : Outcome) → ValueAt il n env side o → (o ≡ Deep → ⊥) → o ≡ Val (one_value.1)
    side_wanted o gives shallow =
        value_same il stable single n env side o one_value.1 gives shallow
        (value-local il more env side one_value.1 (λ x i. sym (s.agrees x (known-within bound (vars side) equation.sides.1 x i))) (one_value.0, one_value.2))

    either_side : (x : Name) → has_name (prem_vars p) x ≡ true → (has_name bound x ≡ true) ⊎ (has_name (vars pattern) x ≡ true)
    either_side x i = at equation.sides.0
      where
        last : (xs : List Name) → has_name (xs ++ []) x ≡ true → has_name xs x ≡ true
        last xs k = elim (within-cases xs [] x k) [ inl j ↦ j | inr j ↦ cc ]

        at : (out-IlExp e ≡ IlExp-F.Eq side pattern) ⊎ (out-IlExp e ≡ IlExp-F.Eq pattern side) → (has_name bound x ≡ true) ⊎ (has_name (vars pattern) x ≡ true)
        at (inl eq) = elim (within-cases (vars side) (vars pattern ++ []) x (subst (λ z. has_name z x ≡ true) (equation_names il p e is side pattern eq) i)) [
          | inl j ↦ inl (known-within bound (vars side) equation.sides.1 x j)
          | inr j ↦ inr (last (vars pattern) j)
        ]
        at (inr eq) = elim (within-cases (vars pattern) (vars side ++ []) x (subst (λ z. has_name z x ≡ true) (equation_names il p e is pattern side eq) i)) [
          | inl j ↦ inr j
          | inr j ↦ inl (known-within bound (vars side) equation.sides.1 x (last (vars side) j))
        ]

    pattern_listed : all_known (listed_names ls) (vars pattern) ≡ true
    pattern_listed = known_all (listed_names ls) (vars pattern) (λ x i. known-within (listed_names ls) (vars e) equation.listed x (subst (λ z. has_name z x ≡ true) (prem-level p (IlPrem-F.If e) is) (pattern_vars il bound ls p e is side pattern equation x i)))

    pattern_typed : TypedIn (syntaxes il) ls (without bound (vars pattern)) more
    pattern_typed x i = let w = without-parts bound (vars pattern) x i in s.typed x (without-other bound (prem_vars p) x w.0 (pattern_vars il bound ls p e is side pattern equation x w.1))

    -- and what the pattern binds is found by a match
    pub bind_wanted : HasOnly il ls bound env → (few : Env) → few.entries ≡ entries_among env (vars pattern)
        → (less : Env) × IsMatch (syntaxes il) ls pattern one_value.1 few less × AgreeOn (bound ++ prem_vars p) (beside env less) more
    bind_wanted only few few_are = (
      kept il bound ls env only (vars pattern) few few_are more pattern_listed s.agrees pattern_typed,
      record {
        ordered = kept_ordered il bound ls env only (vars pattern) few few_are more pattern_listed s.agrees pattern_typed;
        names = kept_names il bound ls env only (vars pattern) few few_are more pattern_listed s.agrees pattern_typed;
        extends = kept_extends il bound ls env only (vars pattern) few few_are more pattern_listed s.agrees pattern_typed;
        typed = kept_typed il bound ls env only (vars pattern) few few_are more pattern_listed s.agrees pattern_typed;
        value = Gives-agree (syntaxes il) no_answers (Gives-pattern (syntaxes il) no_answers (CallAt il one_value.0) equation.matched one_value.3)
            (kept il bound ls env only (vars pattern) few few_are more pattern_listed s.agrees pattern_typed)
            (λ x i. sym (kept_value il bound ls env only (vars pattern) few few_are more pattern_listed s.agrees pattern_typed x i));
      },
      λ x i. kept_agrees il bound ls env only (vars pattern) few few_are more pattern_listed s.agrees pattern_typed x (elim (within-cases bound (prem_vars p) x i) [
        | inl j ↦ within-left bound (vars pattern) x j
        | inr j ↦ elim (either_side x j) [ inl k ↦ within-left bound (vars pattern) x k | inr k ↦ within-right bound (vars pattern) x k ]
      ]),
    )

-- ---- goals

-- a solution of an environment that is among some
pub with_children_there : (P : Solution → Type 0) (children : List Child) (one : Env) (envs : List Env) → Contains envs one → P (record { env = one; children = children }) → Exists P (with_children children envs)
with_children_there P children one envs contains right =
    at envs contains.0 contains.1 contains.2
  where
    at : (envs : List Env) (k : ℕ) → k < length envs → slice_index_or envs k one ≡ one → Exists P (with_children children envs)
    at [] k less same = absurd (omega (arith, less))
    at (env ∷ envs) zero less same = inl (subst (λ z. P (record { env = z; children = children })) (sym same) right)
    at (env ∷ envs) (suc k) less same = inr (at envs k (omega (arith, less)) same)

-- a goal that holds: its values, and that they are derived
holds_goal_so : (V : Meaning) (O : Type 0) (D : Derives) (env : Env) (p : IlPrem) (relation : Name) (es : List IlExp) → Holds V O D env p → out-IlPrem p ≡ IlPrem-F.Goal relation es
    → (vs : List Value) × HaveValues V (tasks env es) vs × D relation vs
holds_goal_so V O D env p relation es (h.condition e eq g) k = cc
holds_goal_so V O D env p relation es (h.otherwise eq o) k = cc
holds_goal_so V O D env p relation es (h.goal r gs xs eq hv d) k =
    let same : r ≡ relation = cc in
    let exps : gs ≡ es = cc in
    (xs, subst (λ z. HaveValues V (tasks env z) xs) exps hv, subst (λ z. D z xs) same d)
holds_goal_so V O D env p relation es (h.each i xs body envs eq el all) k = cc

-- where a goal is wanted, its inputs have values
pub goal_inputs : (il : Il) (root : Root) (bound : List Name) (ls : List Listed) (env : Env) (p : IlPrem) (relation : Name) (es : List IlExp) → out-IlPrem p ≡ IlPrem-F.Goal relation es → IsJudged il bound ls relation es
    → (more : Env) → IsSought il root bound ls env p more → (vs : List Value) × HaveValues (has_value il) (tasks env (inputs_of il relation es)) vs
goal_inputs il root bound ls env p relation es is judged more s =
    let w = holds_goal_so (has_value il) (excluded il root) (derived il) more p relation es s.holds is in (
      inputs_of il relation w.0,
      HaveValues-agree (has_value il) (value-local il) (inputs_of il relation es) (inputs_of il relation w.0) more env (λ x i. sym (s.agrees x (known-within bound (vars_of (inputs_of il relation es)) judged.known x i)))
          (values_at_inputs (has_value il) more (mask il relation) es w.0 w.1),
    )

module _ (il : Il) (stable : IsStable il) (single : CallsAreSingle il) (n : ℕ) (root : Root) (bound : List Name) (ls : List Listed) (env : Env) (only : HasOnly il ls bound env) (p : IlPrem) (relation : Name) (es : List IlExp)
    (is : out-IlPrem p ≡ IlPrem-F.Goal relation es) (judged : IsJudged il bound ls relation es) (inputs : List Value) (have : HaveValues (has_value_at il n) (tasks env (inputs_of il relation es)) inputs)
    (holes : List Hole) (are : AreHoles il n env Computed (outputs_of il relation es) holes) (more : Env) (s : IsSought il root bound ls env p more) where
  abbrev patterns : List IlExp
  patterns = matched_of Computed (outputs_of il relation es)

  abbrev Like : Solution → Type 0
  Like x = AgreeOn (bound ++ prem_vars p) (beside env x.env) more

  pub goal_values : (vs : List Value) × HaveValues (has_value il) (tasks more es) vs × derived il relation vs
  goal_values = holds_goal_so (has_value il) (excluded il root) (derived il) more p relation es s.holds is

  inputs_same : inputs_of il relation goal_values.0 ≡ inputs
  inputs_same = values-single il stable single env (inputs_of il relation es) (inputs_of il relation goal_values.0) inputs
      (HaveValues-agree (has_value il) (value-local il) (inputs_of il relation es) (inputs_of il relation goal_values.0) more env (λ x i. sym (s.agrees x (known-within bound (vars_of (inputs_of il relation es)) judged.known x i)))
      (values_at_inputs (has_value il) more (mask il relation) es goal_values.0 goal_values.1))
      (values_up il n (tasks env (inputs_of il relation es)) inputs have)

  -- its outputs are derivable
  pub wanted_outputs : List Value
  wanted_outputs = outputs_of il relation goal_values.0

  pub outputs_derivable : Derivable il relation inputs (outputs_of il relation goal_values.0)
  outputs_derivable = record { values = goal_values.0; is_derived = goal_values.2; inputs_are = inputs_same; outputs_are = refl }

  patterns_listed : all_known (listed_names ls) (vars_of patterns) ≡ true
  patterns_listed = known_all (listed_names ls) (vars_of patterns) (λ x i. known-within (listed_names ls) (vars_of es) judged.listed x
      (subst (λ z. has_name z x ≡ true) (goal_vars il bound ls p relation es is judged) (patterns_within il bound ls p relation es is judged x i)))

  patterns_typed : TypedIn (syntaxes il) ls (without bound (vars_of patterns)) more
  patterns_typed x i = let w = without-parts bound (vars_of patterns) x i in s.typed x (without-other bound (prem_vars p) x w.0 (patterns_within il bound ls p relation es is judged x w.1))

  -- what meets an answer of these outputs is found
  met_one : (o : Output) (found : List Solution) → o.values ≡ outputs_of il relation goal_values.0 → AreMeetings (syntaxes il) ls env holes patterns o found → Exists Like found
  met_one o found same meets = by meets fitting
    where
      fitting : (values : List Value) × AreFitting holes o.values values × HaveValues (value_by (syntaxes il) no_answers) (tasks more patterns) values
      fitting = values_fitting il n Computed env more stable single (outputs_of il relation es) holes o.values are
          (outputs_settled bound (bound ++ bound_by (outputs_of il relation es)) env more s.agrees (outputs_of il relation es) judged.met)
          (subst (HaveValues (has_value il) (tasks more (outputs_of il relation es))) (sym same) (values_at_inputs (has_value il) more (map not (mask il relation)) es goal_values.0 goal_values.1))

      there : (m : MeetsAnswer (syntaxes il) ls env holes patterns o found) → (f : (values : List Value) × AreFitting holes o.values values × HaveValues (value_by (syntaxes il) no_answers) (tasks more patterns) values)
          → f.0 ≡ m.values → Exists Like found
      there m f values_same = subst (Exists Like) (sym m.found_are)
          (with_children_there Like (child.One o.tree ∷ []) (kept il bound ls env only (vars_of patterns) m.few m.few_are more patterns_listed s.agrees patterns_typed) m.envs
          ((m.extend.exactly (kept il bound ls env only (vars_of patterns) m.few m.few_are more patterns_listed s.agrees patterns_typed)).1 (record {
            ordered = kept_ordered il bound ls env only (vars_of patterns) m.few m.few_are more patterns_listed s.agrees patterns_typed;
            names = kept_names il bound ls env only (vars_of patterns) m.few m.few_are more patterns_listed s.agrees patterns_typed;
            extends = kept_extends il bound ls env only (vars_of patterns) m.few m.few_are more patterns_listed s.agrees patterns_typed;
            typed = kept_typed il bound ls env only (vars_of patterns) m.few m.few_are more patterns_listed s.agrees patterns_typed;
            fit = HaveValues-agree (value_by (syntaxes il) no_answers) (value_by-local (syntaxes il) no_answers) patterns m.values more
                (kept il bound ls env only (vars_of patterns) m.few m.few_are more patterns_listed s.agrees patterns_typed)
                (λ x i. sym (kept_value il bound ls env only (vars_of patterns) m.few m.few_are more patterns_listed s.agrees patterns_typed x i))
                (subst (HaveValues (value_by (syntaxes il) no_answers) (tasks more patterns)) values_same f.2);
          }))
          (λ x i. kept_agrees il bound ls env only (vars_of patterns) m.few m.few_are more patterns_listed s.agrees patterns_typed x (bound_behind_goal il bound ls p relation es is judged x ∙ i)))

      by : AreMeetings (syntaxes il) ls env holes patterns o found → (values : List Value) × AreFitting holes o.values values × HaveValues (value_by (syntaxes il) no_answers) (tasks more patterns) values → Exists Like found
      by (misfit never none) f = absurd (never f.0 f.1)
      by (fits m) f = there m f (fitting_single holes o.values m.values f.0 f.1 m.fit)

  met_among : (items : List Output) (found : List Solution) → AllMeetings (syntaxes il) ls env holes patterns items found → Exists (λ (o : Output). o.values ≡ outputs_of il relation goal_values.0) items → Exists Like found
  met_among [] found all one = absurd one
  met_among (o ∷ items) found all (inl here) = subst (Exists Like) (sym all.4) (Exists-front Like all.0 all.1 (met_one o all.0 here all.2))
  met_among (o ∷ items) found all (inr later) = subst (Exists Like) (sym all.4) (Exists-back Like all.0 all.1 (met_among items all.1 all.3 later))

  -- one of the solutions by an answer is what is wanted
  pub goal_wanted : (answers : Found Output) (found : List Solution) → Solves il n (goal_of relation inputs) answers → AllMeetings (syntaxes il) ls env holes patterns answers.items found → Exists Like found
  goal_wanted answers found solves all = met_among answers.items found all (solves.complete (outputs_of il relation goal_values.0) outputs_derivable)
