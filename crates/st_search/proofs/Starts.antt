-- The run of a rule begins with what its inputs bind.
use Rattle.std.proofs.Common.{arith, ◌≡◌, refl, sym, ◌∙◌, subst, ℕ, zero, suc, ◌<◌, Bool, true, false, not, ◌||◌, nat_eq, if◌then◌else◌, List, [], ◌∷◌, ◌++◌, length, inl, inr, ◌⊎◌, Ok, All}
use Rattle.std.specs.Prelude.{Contains}
use Rattle.std.specs.List.{list_all, slice_index_or, AllByRecursion}
use Rattle.std.proofs.lemmas.Bool.{eqb-true}
use Rattle.std.proofs.lemmas.List.Elements.{All-head, All-tail, All-contains_itself}
use Rattle.st_il.specs.declared.definition.Il.{Il}
use Rattle.st_il.specs.declared.definition.Listed.{Listed}
use Rattle.st_il.specs.declared.definition.RuleDef.{RuleDef}
use Rattle.st_il.specs.declared.expression.IlExp.{IlExp}
use Rattle.st_il.specs.declared.value.Env.{Env}
use Rattle.st_il.specs.declared.value.Value.{Value}
use Rattle.st_il.specs.Names.{Name, has_name, all_known, without}
use Rattle.st_il.specs.Definitions.{syntaxes}
use Rattle.st_semantics.specs.Environments.{AgreeOn, TypedIn, names_of, listed_names}
use Rattle.st_semantics.specs.Evaluation.{tasks}
use Rattle.st_semantics.specs.Variables.{vars, vars_of}
use Rattle.st_semantics.specs.Patterns.{is_pattern, bound_by}
use Rattle.st_semantics.specs.Matching.{no_answers}
use Rattle.st_semantics.specs.Holding.{HaveValues, value_by}
use Rattle.st_semantics.specs.Laws.{IsStable, CallsAreSingle}
use Rattle.st_semantics.specs.Reaching.{Reached, MeetsAmong, bound_behind, listed_behind}
use Rattle.st_semantics.specs.Orders.{inputs_of_rule, in_order, is_input}
use Rattle.st_semantics.specs.OrderOf.{order_of}
use Rattle.st_semantics.specs.Goals.{Goal}
use Rattle.st_semantics.specs.RuleDepth.{no_variables}
use Rattle.st_semantics.specs.Chains.{at_goal}
use Rattle.st_semantics.proofs.Names.{Within, within-cases, within-left, within-right, known-within, and-both}
use Rattle.st_semantics.proofs.Agree.{HaveValues-agree, value_by-local}
use Rattle.st_semantics.proofs.Premises.{without-parts}
use Rattle.st_match.specs.inner.Found.{IsExtension, AreExtensions}
use Rattle.st_eval.specs.Steps.{HasOnly}
use Rattle.st_eval.specs.inner.Beside.{entries_among}
use Rattle.st_eval.proofs.Conditions.{same_truth}
use Rattle.st_eval.proofs.Trying.{known_all, typed_some}
use Rattle.st_search.specs.Searchable.{CanBeRun}
use Rattle.st_search.specs.declared.found.Partial.{Partial}
use Rattle.st_search.specs.declared.holes.Evaluated.TheVariants.{Closed}
use Rattle.st_search.specs.declared.holes.Hole.{Hole}
use Rattle.st_search.specs.inner.Asking.{AsksAmong}
use Rattle.st_search.specs.inner.Holes.{is_evaluated, AreHoles, AreFitting, matched_of}
use Rattle.st_search.specs.inner.Lists.{Exists}
use Rattle.st_search.specs.inner.Sought.{Finds}
use Rattle.st_search.specs.inner.Rules.{IsPartial, run_seeks, started}
use Rattle.st_search.proofs.Extended.{few_inside, kept, kept_ordered, kept_names, kept_extends, kept_typed, kept_value}
use Rattle.st_search.proofs.FittingValues.{IsSettled, fitting_values, values_fitting, fitting_single}
use Rattle.st_search.proofs.GoalParts.{vars_filtered}
use Rattle.st_search.proofs.Partials.{behind_listed}
use Rattle.st_search.proofs.TreeOf.{order_parts}

-- ---- inputs

-- what has no variables
pub closed_none : (xs : List Name) → nat_eq (length xs) 0 ≡ true → (x : Name) → has_name xs x ≡ true → ⊥
closed_none [] e x i = cc
closed_none (y ∷ ys) e x i = let same : length (y ∷ ys) ≡ 0 = eqb-true (length (y ∷ ys)) 0 e in absurd (omega (arith, same))

-- inputs of a rule are settled: those that are evaluated are closed
pub inputs_settled : (env wide : Env) (es : List IlExp) → list_all is_input es ≡ true → AllByRecursion (IsSettled Closed env wide) es
inputs_settled env wide [] h = tt
inputs_settled env wide (e ∷ es) h =
    let both = and-both (is_input e) (list_all is_input es) h in (
      record {
        evaluated = λ k x i. absurd (closed_none (vars e) k x i);
        matched = λ k. pattern (is_pattern e) (nat_eq (length (vars e)) 0) k both.0;
      },
      inputs_settled env wide es both.1,
    )
  where
    pattern : (a b : Bool) → b ≡ false → (a || b) ≡ true → a ≡ true
    pattern true b k h = refl
    pattern false true k h = cc
    pattern false false k h = cc

-- all variables of inputs are of those that are matched
matched_vars : (es : List IlExp) → Within (vars_of es) (vars_of (matched_of Closed es))
matched_vars [] x i = i
matched_vars (e ∷ es) x i = at (nat_eq (length (vars e)) 0) refl (within-cases (vars e) (vars_of es) x i) (matched_vars es x)
  where
    at : (b : Bool) → nat_eq (length (vars e)) 0 ≡ b → (has_name (vars e) x ≡ true) ⊎ (has_name (vars_of es) x ≡ true) → (has_name (vars_of es) x ≡ true → has_name (vars_of (matched_of Closed es)) x ≡ true)
        → has_name (vars_of (if not b then e ∷ matched_of Closed es else matched_of Closed es)) x ≡ true
    at true k (inl here) later = absurd (closed_none (vars e) k x here)
    at true k (inr there) later = later there
    at false k (inl here) later = within-left (vars e) (vars_of (matched_of Closed es)) x here
    at false k (inr there) later = within-right (vars e) (vars_of (matched_of Closed es)) x (later there)

-- nothing is bound before
pub none_bound : (il : Il) (ls : List Listed) → HasOnly il ls [] no_variables
none_bound il ls = record { names_are = λ x. refl; typed = λ x i. cc }

-- what holds of each environment holds of each start
each_started : (Q : Partial → Type 0) (P : Env → Type 0) → ((env : Env) → P env → Q (record { env = env; children = [] })) → (envs : List Env) → All P envs → AllByRecursion Q (started envs)
each_started Q P right [] all = tt
each_started Q P right (env ∷ envs) all = (right env (All-head P env envs all), each_started Q P right envs (All-tail P env envs all))

started_there : (P : Partial → Type 0) (one : Env) (envs : List Env) → Contains envs one → P (record { env = one; children = [] }) → Exists P (started envs)
started_there P one envs contains right = at envs contains.0 contains.1 contains.2
  where
    at : (envs : List Env) (k : ℕ) → k < length envs → slice_index_or envs k one ≡ one → Exists P (started envs)
    at [] k less same = absurd (omega (arith, less))
    at (env ∷ envs) zero less same = inl (subst (λ z. P (record { env = z; children = [] })) (sym same) right)
    at (env ∷ envs) (suc k) less same = inr (at envs k (omega (arith, less)) same)

module _ (il : Il) (n : ℕ) (g : Goal) (number : ℕ) (rule : RuleDef) (can : CanBeRun il rule) (order : List ℕ) (is_order_of : order_of il rule ≡ Ok order)
    (holes : List Hole) (are : AreHoles il n no_variables Closed (inputs_of_rule il rule) holes) where
  abbrev ins : List IlExp
  ins = inputs_of_rule il rule

  abbrev patterns : List IlExp
  patterns = matched_of Closed (inputs_of_rule il rule)

  all_inputs : list_all is_input (inputs_of_rule il rule) ≡ true
  all_inputs = (and-both (list_all is_input (inputs_of_rule il rule)) (all_known (bound_by (inputs_of_rule il rule)) (vars_of (inputs_of_rule il rule))) (order_parts il rule can order is_order_of).1).0

  bound_pattern : Within (bound_behind (inputs_of_rule il rule) []) (vars_of patterns)
  bound_pattern x i = elim (within-cases (vars_of (inputs_of_rule il rule)) [] x i) [ inl j ↦ matched_vars (inputs_of_rule il rule) x j | inr j ↦ cc ]

  pattern_bound : Within (vars_of patterns) (bound_behind (inputs_of_rule il rule) [])
  pattern_bound x i = within-left (vars_of (inputs_of_rule il rule)) [] x (vars_filtered (λ (e : IlExp). not (is_evaluated Closed e)) (inputs_of_rule il rule) x i)

  -- where no values fit, nothing is wanted
  pub start_misfit : IsStable il → CallsAreSingle il → ((values : List Value) → AreFitting holes g.inputs values → ⊥) → (env : Env)
      → Reached (at_goal il 0 g number) (listed_behind rule.variables (inputs_of_rule il rule) []) (inputs_of_rule il rule) g.inputs [] env → ⊥
  start_misfit stable single never env r =
      let w = values_fitting il n Closed no_variables env stable single (inputs_of_rule il rule) holes g.inputs are (inputs_settled no_variables env (inputs_of_rule il rule) all_inputs) r.heads_are in
      never w.0 w.1

  module _ (values : List Value) (fit : AreFitting holes g.inputs values) (few : Env) (few_are : few.entries ≡ entries_among no_variables (vars_of patterns)) (envs : List Env)
      (extend : AreExtensions (syntaxes il) rule.variables patterns values few envs) where
    start_one : (more : Env) → IsExtension (syntaxes il) rule.variables patterns values few more → IsPartial il n g number rule [] (record { env = more; children = [] })
    start_one more m = record {
      variables = record {
        names_are = λ x. m.names x ∙ same_truth (has_name (names_of few ++ vars_of patterns) x) (has_name (bound_behind (inputs_of_rule il rule) []) x)
            (λ k. elim (within-cases (names_of few) (vars_of patterns) x k) [
              | inl i ↦ pattern_bound x (few_inside il [] rule.variables no_variables (none_bound il rule.variables) (vars_of patterns) few few_are x i).0
              | inr i ↦ pattern_bound x i
            ])
            (λ k. within-right (names_of few) (vars_of patterns) x (bound_pattern x k));
        typed = λ x i. m.typed x (bound_pattern x i);
      };
      inputs_are = fitting_values il n Closed no_variables more (inputs_of_rule il rule) holes g.inputs values are fit (inputs_settled no_variables more (inputs_of_rule il rule) all_inputs) m.fit;
      stand = tt;
    }

    -- each start is right
    pub starts_right : AllByRecursion (IsPartial il n g number rule []) (started envs)
    starts_right = each_started (IsPartial il n g number rule []) (Contains envs) (λ more contains. start_one more ((extend.exactly more).0 contains)) envs (All-contains_itself envs)

    -- and each that is wanted is there
    pub start_wanted : IsStable il → CallsAreSingle il → (env : Env) → Reached (at_goal il 0 g number) (listed_behind rule.variables (inputs_of_rule il rule) []) (inputs_of_rule il rule) g.inputs [] env
        → Exists (λ (x : Partial). AgreeOn (bound_behind (inputs_of_rule il rule) []) x.env env) (started envs)
    start_wanted stable single env r =
        started_there (λ (x : Partial). AgreeOn (bound_behind (inputs_of_rule il rule) []) x.env env) (kept il [] rule.variables no_variables (none_bound il rule.variables) (vars_of patterns) few few_are env listed nothing typed) envs
        ((extend.exactly (kept il [] rule.variables no_variables (none_bound il rule.variables) (vars_of patterns) few few_are env listed nothing typed)).1 (record {
          ordered = kept_ordered il [] rule.variables no_variables (none_bound il rule.variables) (vars_of patterns) few few_are env listed nothing typed;
          names = kept_names il [] rule.variables no_variables (none_bound il rule.variables) (vars_of patterns) few few_are env listed nothing typed;
          extends = kept_extends il [] rule.variables no_variables (none_bound il rule.variables) (vars_of patterns) few few_are env listed nothing typed;
          typed = kept_typed il [] rule.variables no_variables (none_bound il rule.variables) (vars_of patterns) few few_are env listed nothing typed;
          fit = HaveValues-agree (value_by (syntaxes il) no_answers) (value_by-local (syntaxes il) no_answers) patterns values env (kept il [] rule.variables no_variables (none_bound il rule.variables) (vars_of patterns) few few_are env listed nothing typed) (λ x i. sym (like x i))
              (subst (HaveValues (value_by (syntaxes il) no_answers) (tasks env patterns)) (fitting_single holes g.inputs values w.0 w.1 fit) w.2);
        }))
        (λ x i. like x (bound_pattern x i))
      where
        nothing : AgreeOn [] no_variables env
        nothing x i = cc

        listed : all_known (listed_names rule.variables) (vars_of patterns) ≡ true
        listed = known_all (listed_names rule.variables) (vars_of patterns) (λ x i.
            known-within (listed_names rule.variables) (bound_behind (inputs_of_rule il rule) []) (behind_listed il rule can order [] (in_order rule.premises order) refl) x (pattern_bound x i))

        typed : TypedIn (syntaxes il) rule.variables (without [] (vars_of patterns)) env
        typed = typed_some (syntaxes il) (bound_behind (inputs_of_rule il rule) []) rule.variables env r.typed (without [] (vars_of patterns)) (λ x i. pattern_bound x (without-parts [] (vars_of patterns) x i).1)

        like : AgreeOn (vars_of patterns) (kept il [] rule.variables no_variables (none_bound il rule.variables) (vars_of patterns) few few_are env listed nothing typed) env
        like x i = kept_value il [] rule.variables no_variables (none_bound il rule.variables) (vars_of patterns) few few_are env listed nothing typed x i

        w : (values : List Value) × AreFitting holes g.inputs values × HaveValues (value_by (syntaxes il) no_answers) (tasks env patterns) values
        w = values_fitting il n Closed no_variables env stable single (inputs_of_rule il rule) holes g.inputs are (inputs_settled no_variables env (inputs_of_rule il rule) all_inputs) r.heads_are

-- ---- what is found before any premise

split_nothing : {A : Type 0} (before : List A) (x : A) (after : List A) → [] ≡ before ++ x ∷ after → ⊥
split_nothing [] x after e = cc
split_nothing (y ∷ before) x after e = cc

module _ (il : Il) (n : ℕ) (g : Goal) (number : ℕ) (rule : RuleDef) where
  -- before any premise nothing is asked and no Deep is met
  pub starts_found : (starts : List Partial) → AllByRecursion (IsPartial il n g number rule []) starts
      → ((env : Env) → Reached (at_goal il 0 g number) (listed_behind rule.variables (inputs_of_rule il rule) []) (inputs_of_rule il rule) g.inputs [] env → Exists (λ (x : Partial). AgreeOn (bound_behind (inputs_of_rule il rule) []) x.env env) starts)
      → Finds il n 0 (run_seeks il n g number rule []) starts
  starts_found starts right wanted = record {
    sound = right;
    complete = wanted;
    calm = λ next (asked : AsksAmong (at_goal il 0 g number) rule.variables (inputs_of_rule il rule) g.inputs [] next). absurd (split_nothing asked.before asked.premise asked.after asked.split);
    shallow = λ (deep : MeetsAmong (at_goal il n g number) rule.variables (inputs_of_rule il rule) g.inputs []). split_nothing deep.before deep.premise deep.after deep.split;
  }
