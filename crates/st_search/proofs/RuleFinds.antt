-- What is found of a rule is what is sought.
use Rattle.std.proofs.Common.{◌≡◌, refl, sym, subst, ℕ, zero, suc, ◌<◌, arith, nat_eq, true, List, [], ◌∷◌, ◌++◌, length, inl, inr, Some, slice_get, All, append-nil}
use Rattle.std.specs.Prelude.{Contains}
use Rattle.std.specs.List.{AllByRecursion, slice_index_or}
use Rattle.std.proofs.lemmas.Bool.{eqb-true}
use Rattle.st_il.specs.declared.definition.Il.{Il}
use Rattle.st_il.specs.declared.definition.Listed.{Listed}
use Rattle.st_il.specs.declared.definition.RuleDef.{RuleDef}
use Rattle.st_il.specs.declared.expression.IlExp.{IlExp}
use Rattle.st_il.specs.declared.expression.IlPrem.{IlPrem}
use Rattle.st_il.specs.declared.value.Env.{Env}
use Rattle.st_il.specs.declared.value.Value.{Value}
use Rattle.st_semantics.specs.declared.outcome.Outcome.TheVariants.{Val, NoValue, Deep}
use Rattle.st_il.specs.Names.{Name, has_name}
use Rattle.st_il.specs.Definitions.{syntaxes, rules_in}
use Rattle.st_semantics.specs.Environments.{AgreeOn, EnvOk, IsOrdered, value_in}
use Rattle.st_semantics.specs.Evaluation.{tasks}
use Rattle.st_semantics.specs.Variables.{vars, vars_of, prems_vars}
use Rattle.st_semantics.specs.Holding as h
use Rattle.st_semantics.specs.Holding.{Meaning, Derives, HoldAll, HaveValues, instances}
use Rattle.st_semantics.specs.Depth.{IsDeep}
use Rattle.st_semantics.specs.Calls.{CallAt, ValueAt, has_value, has_value_at}
use Rattle.st_semantics.specs.Derivation.{derived, excluded}
use Rattle.st_semantics.specs.Laws.{IsStable, CallsAreSingle}
use Rattle.st_semantics.specs.Reaching.{Reached, bound_behind, listed_behind}
use Rattle.st_semantics.specs.Orders.{inputs_of_rule, outputs_of_rule, in_order}
use Rattle.st_semantics.specs.Goals.{Goal}
use Rattle.st_semantics.specs.Marks.{full_name}
use Rattle.st_semantics.specs.RuleDepth.{root_at, no_variables, MeetsDeep, at_premise, at_input, at_output}
use Rattle.st_semantics.specs.Chains.{at_goal}
use Rattle.st_semantics.proofs.Names.{Within, within-cases, within-left, within-right, known-within}
use Rattle.st_semantics.proofs.Agree.{Gives-agree, HaveValues-agree, HoldAll-agree, instances-agree}
use Rattle.st_semantics.proofs.Clauses.{hold_first, prems_vars-append}
use Rattle.st_semantics.proofs.Depths.{value_not_deep}
use Rattle.st_semantics.proofs.Restrict.{restricted, agree_picked, ok_restricted, listed_twice}
use Rattle.st_semantics.proofs.Singles.{Gives-single}
use Rattle.st_eval.proofs.InByteOrder.{in_byte_order, in_order_value}
use Rattle.st_search.specs.Searchable.{CanBeRun}
use Rattle.st_search.specs.declared.answer.Output.{Output}
use Rattle.st_search.specs.declared.found.Partial.{Partial}
use Rattle.st_search.specs.declared.holes.Evaluated.TheVariants.{Closed}
use Rattle.st_search.specs.declared.stop.Stop.{Stop}
use Rattle.st_search.specs.declared.stop.Stop.TheVariants as stop
use Rattle.st_search.specs.declared.tree.Place.{Place}
use Rattle.st_search.specs.inner.Asking.{AsksAmong}
use Rattle.st_search.specs.inner.Chains.{EndsBehind, fault_by}
use Rattle.st_search.specs.inner.Holes.{HasDeepHole, SomeGives}
use Rattle.st_search.specs.inner.Lists.{Exists}
use Rattle.st_search.specs.inner.Sought.{Sought, Finds, sought_from, Stops, StopsIf}
use Rattle.st_search.specs.inner.Rules as rules
use Rattle.st_search.specs.inner.Rules.{IsPartial, run_seeks, rule_seeks}
use Rattle.st_search.specs.inner.Running.{next_seeks, end_seeks, IsRuleOf, IsPlace}
use Rattle.st_search.proofs.Asked.{GoalIsBound, Meets-agree, AsksGoal-agree}
use Rattle.st_search.proofs.ChainLaws.{ends_asked, ends_met}
use Rattle.st_search.proofs.Finds.{Exists-weaken}
use Rattle.st_search.proofs.FittingValues.{values-single}
use Rattle.st_search.proofs.MeetsAgain.{Reached-at, among_follows}
use Rattle.st_search.proofs.Partials.{partial_reached}
use Rattle.st_search.proofs.RunNext.{one_of, always}
use Rattle.st_search.proofs.TreeOf.{outputs_bound, output_of, tree_there}
use Rattle.st_search.proofs.Values.{value-local, values_up, no_value}

-- ---- premises less

front_holds : {V : Meaning} {O : Type 0} {D : Derives} (env : Env) (before after : List IlPrem) → HoldAll V O D (instances env (before ++ after)) → HoldAll V O D (instances env before)
front_holds env [] after all = h.done
front_holds env (p ∷ before) after all = let first = hold_first (env, p) (instances env (before ++ after)) all in h.more first.0 (front_holds env before after first.1)

-- with what is bound behind the first premises these are met
pub reached_front : (il : Il) (n : ℕ) (g : Goal) (number : ℕ) (ls : List Listed) (heads : List IlExp) (vs : List Value) (before after : List IlPrem) (env : Env) → Reached (at_goal il n g number) (listed_behind ls heads (before ++ after)) heads vs (before ++ after) env
    → Reached (at_goal il n g number) (listed_behind ls heads before) heads vs before (restricted (bound_behind heads before) env)
reached_front il n g number ls heads vs before after env r = record {
  typed = subst (λ z. EnvOk (syntaxes il) z (restricted (bound_behind heads before) env)) (listed_twice (bound_behind heads before) (bound_behind heads (before ++ after)) ls within)
      (ok_restricted (syntaxes il) (bound_behind heads before) (listed_behind ls heads (before ++ after)) env r.typed);
  heads_are = HaveValues-agree (has_value il) (value-local il) heads vs env (restricted (bound_behind heads before) env) (λ x i. sym (agree_picked (bound_behind heads before) env x (within-left (vars_of heads) (prems_vars before) x i))) r.heads_are;
  hold = HoldAll-agree (has_value il) (value-local il) (excluded il (root_at g number)) (derived il) (front_holds env before after r.hold) (instances (restricted (bound_behind heads before) env) before)
      (instances-agree before env (restricted (bound_behind heads before) env) (λ x i. sym (agree_picked (bound_behind heads before) env x (within-right (vars_of heads) (prems_vars before) x i))));
}
  where
    within : Within (bound_behind heads before) (bound_behind heads (before ++ after))
    within x i = elim (within-cases (vars_of heads) (prems_vars before) x i) [
      | inl j ↦ within-left (vars_of heads) (prems_vars (before ++ after)) x j
      | inr j ↦ within-right (vars_of heads) (prems_vars (before ++ after)) x (subst (λ z. has_name z x ≡ true) (sym (prems_vars-append before after)) (within-left (prems_vars before) (prems_vars after) x j))
    ]

-- ---- one of some expressions

-- one that is contained
there : (P : IlExp → Type 0) (es : List IlExp) (e : IlExp) → Contains es e → P e → Exists P es
there P [] e contains p = absurd (omega (arith, contains.1))
there P (g ∷ es) e contains p = first contains.0 contains.1 contains.2 (λ c. there P es e c p)
  where
    first : (k : ℕ) → k < length (g ∷ es) → slice_index_or (g ∷ es) k e ≡ e → (Contains es e → Exists P es) → Exists P (g ∷ es)
    first zero less same later = inl (subst P (sym same) p)
    first (suc k) less same later = inr (later (k, omega (arith, less), same))

contained : (P : IlExp → Type 0) (es : List IlExp) → Exists P es → (e : IlExp) × Contains es e × P e
contained P [] one = absurd one
contained P (g ∷ es) (inl here) = (g, (0, omega arith, refl), here)
contained P (g ∷ es) (inr later) = let w = contained P es later in let less = w.1.1 in (w.0, (suc w.1.0, omega (arith, less), w.1.2), w.2)

one_vars : (es : List IlExp) (e : IlExp) → Contains es e → Within (vars e) (vars_of es)
one_vars [] e contains x i = absurd (omega (arith, contains.1))
one_vars (g ∷ es) e contains x i = first contains.0 contains.1 contains.2 (λ c. one_vars es e c x i)
  where
    first : (k : ℕ) → k < length (g ∷ es) → slice_index_or (g ∷ es) k e ≡ e → (Contains es e → has_name (vars_of es) x ≡ true) → has_name (vars_of (g ∷ es)) x ≡ true
    first zero less same later = within-left (vars g) (vars_of es) x (subst (λ z. has_name (vars z) x ≡ true) (sym same) i)
    first (suc k) less same later = within-right (vars g) (vars_of es) x (later (k, omega (arith, less), same))

none_deep : NoValue ≡ Deep → ⊥
none_deep e = cc

-- where all have values, none is Deep
have_not_deep : (il : Il) → CallsAreSingle il → (n : ℕ) (env : Env) (es : List IlExp) (vs : List Value) → HaveValues (has_value_at il n) (tasks env es) vs → SomeGives il n env es Deep → ⊥
have_not_deep il single n env [] vs have one = one
have_not_deep il single n env (e ∷ es) [] have one = have
have_not_deep il single n env (e ∷ es) (v ∷ vs) have (inl deep) = value_not_deep v (Gives-single (syntaxes il) (CallAt il n) (single n) env e (Val v) Deep have.0 deep)
have_not_deep il single n env (e ∷ es) (v ∷ vs) have (inr later) = have_not_deep il single n env es vs have.1 later

-- where one has no value, they have none
none_have : (il : Il) → IsStable il → CallsAreSingle il → (n : ℕ) (env : Env) (es : List IlExp) (vs : List Value) → SomeGives il n env es NoValue → HaveValues (has_value il) (tasks env es) vs → ⊥
none_have il stable single n env [] vs one have = one
none_have il stable single n env (e ∷ es) [] one have = have
none_have il stable single n env (e ∷ es) (v ∷ vs) (inl none) have = no_value il stable single n env e v none have.0
none_have il stable single n env (e ∷ es) (v ∷ vs) (inr later) have = none_have il stable single n env es vs later have.1

-- ---- the end of a run

module _ (il : Il) (stable : IsStable il) (single : CallsAreSingle il) (n : ℕ) (g : Goal) (rule : RuleDef) (end : Partial) where
  pub end_none : SomeGives il n end.env (outputs_of_rule il rule) NoValue → (SomeGives il n end.env (outputs_of_rule il rule) Deep → ⊥) → Finds il n 0 (end_seeks il n g rule end) []
  end_none none fine = record {
    sound = tt;
    complete = λ outputs have. absurd (none_have il stable single n end.env (outputs_of_rule il rule) outputs none have);
    calm = λ next asked. absurd asked;
    shallow = fine;
  }

pub end_found : (il : Il) → IsStable il → CallsAreSingle il → (all_rules : All (CanBeRun il) (rules_in il.defs)) (n : ℕ) (g : Goal) (place : Place) (is : IsPlace il g.relation place) (end : Partial)
    (partial : IsPartial il n g place.number place.rule.now (in_order place.rule.now.premises place.order.now) end)
    (vs : List Value) (have : HaveValues (has_value_at il n) (tasks end.env (outputs_of_rule il place.rule.now)) vs) (env : Env) (ordered : IsOrdered env) (same : (x : Name) → value_in env x ≡ value_in end.env x)
    → Finds il n 0 (end_seeks il n g place.rule.now end) (record { values = vs; tree = tree_there il all_rules n g place is end partial vs have env ordered same } ∷ [])
end_found il stable single all_rules n g place is end partial vs have env ordered same = record {
  sound = (output_of il all_rules n g place is end partial vs have env ordered same, tt);
  complete = λ outputs there. inl (values-single il stable single end.env (outputs_of_rule il place.rule.now) vs outputs (values_up il n (tasks end.env (outputs_of_rule il place.rule.now)) vs have) there);
  calm = λ next asked. absurd asked;
  shallow = have_not_deep il single n end.env (outputs_of_rule il place.rule.now) vs have;
}

-- ---- a rule in its order

module _ (il : Il) (n : ℕ) (g : Goal) (number : ℕ) (rule : RuleDef) (can : CanBeRun il rule) (order : List ℕ) (is_rule : IsRuleOf il g.relation number rule order) where
  abbrev heads : List IlExp
  heads = inputs_of_rule il rule

  abbrev ordered_premises : List IlPrem
  ordered_premises = in_order rule.premises order

  abbrev IsClosedDeep : Type 0
  IsClosedDeep = HasDeepHole il n no_variables Closed (inputs_of_rule il rule)

  -- what an input that is closed and Deep is
  closed_hole : (e : IlExp) → vars e ≡ [] → IsDeep (at_goal il n g number) no_variables e → (nat_eq (length (vars e)) 0 ≡ true) × ValueAt il n no_variables e Deep
  closed_hole e none deep = (subst (λ z. nat_eq (length z) 0 ≡ true) (sym none) refl, deep)

  module _ (l : ℕ) (ends : List Partial) (run : Finds il n l (run_seeks il n g number rule ordered_premises) ends) (outs : List Output) (given : Finds il n 0 (sought_from (end_seeks il n g rule) ends) outs) (quiet : IsClosedDeep → ⊥) where
    outputs_known : Within (vars_of (outputs_of_rule il rule)) (bound_behind heads ordered_premises)
    outputs_known = known-within (bound_behind heads ordered_premises) (vars_of (outputs_of_rule il rule)) (outputs_bound il rule can order is_rule.is_order)

    all_derived : (outputs : List Value) → rules.Derives il g number rule order outputs → Exists (λ (o : Output). o.values ≡ outputs) outs
    all_derived outputs derives =
        let wanted : Exists (λ (end : Partial). HaveValues (has_value il) (tasks end.env (outputs_of_rule il rule)) outputs) ends =
        Exists-weaken (λ (end : Partial). AgreeOn (bound_behind heads ordered_premises) end.env derives.env) (λ (end : Partial). HaveValues (has_value il) (tasks end.env (outputs_of_rule il rule)) outputs)
        (λ (end : Partial) same. HaveValues-agree (has_value il) (value-local il) (outputs_of_rule il rule) outputs derives.env end.env (λ x i. sym (same x (outputs_known x i))) derives.outputs_are) ends
        (run.complete derives.env derives.reached) in
        Exists-weaken (λ (o : Output). (sought_from (end_seeks il n g rule) ends).Is o outputs) (λ (o : Output). o.values ≡ outputs)
        (λ (o : Output) is. always ends (Exists-weaken (λ (z : Partial). (end_seeks il n g rule z).Wanted outputs × (end_seeks il n g rule z).Is o outputs) (λ (z : Partial). o.values ≡ outputs) (λ (z : Partial) both. both.1) ends is)) outs
        (given.complete outputs wanted)

    no_deep : (premise : ℕ) → MeetsDeep (at_goal il n g number) rule order g.inputs premise → ⊥
    no_deep premise (at_premise meets is) = run.shallow meets
    no_deep premise (at_input e zeroth contains none deep) = quiet (there (λ (e : IlExp). (nat_eq (length (vars e)) 0 ≡ true) × ValueAt il n no_variables e Deep) (inputs_of_rule il rule) e contains (closed_hole e none deep))
    no_deep premise (at_output env e zeroth reached contains deep) = given.shallow (Exists-weaken (λ (end : Partial). AgreeOn (bound_behind heads ordered_premises) end.env env) (λ (end : Partial). (end_seeks il n g rule end).Deep)
        (λ (end : Partial) same. there (λ (e : IlExp). ValueAt il n end.env e Deep) (outputs_of_rule il rule) e contains
        (Gives-agree (syntaxes il) (CallAt il n) deep end.env (λ x i. sym (same x (outputs_known x (one_vars (outputs_of_rule il rule) e contains x i)))))) ends
        (run.complete env (Reached-at il n 0 g number (listed_behind rule.variables heads ordered_premises) heads g.inputs ordered_premises env reached)))

    -- what is found at the ends is what is sought of the rule
    pub rule_found : Finds il n l (rule_seeks il n g number rule order) outs
    rule_found = record {
      sound = each_right outs given.sound;
      complete = all_derived;
      calm = run.calm;
      shallow = λ deep. no_deep deep.0 deep.1;
    }
      where
        each_right : (os : List Output) → AllByRecursion (sought_from (end_seeks il n g rule) ends).Right os → AllByRecursion (rule_seeks il n g number rule order).Right os
        each_right [] all = tt
        each_right (o ∷ os) all = (always ends all.0, each_right os all.1)

  -- where no inputs match, nothing is found
  module _ (l : ℕ) (run : Finds il n l (run_seeks il n g number rule []) []) (quiet : IsClosedDeep → ⊥) where
    never : (before after : List IlPrem) (env : Env) → Reached (at_goal il 0 g number) (listed_behind rule.variables heads before) heads g.inputs before env → ⊥
    never before after env r = run.complete (restricted (bound_behind heads []) env) (reached_front il 0 g number rule.variables heads g.inputs [] before env r)

    none_deep_there : (premise : ℕ) → MeetsDeep (at_goal il n g number) rule order g.inputs premise → ⊥
    none_deep_there premise (at_premise meets is) = never meets.before [] meets.env (Reached-at il n 0 g number (listed_behind rule.variables heads meets.before) heads g.inputs meets.before meets.env meets.reached)
    none_deep_there premise (at_input e zeroth contains none deep) = quiet (there (λ (e : IlExp). (nat_eq (length (vars e)) 0 ≡ true) × ValueAt il n no_variables e Deep) (inputs_of_rule il rule) e contains (closed_hole e none deep))
    none_deep_there premise (at_output env e zeroth reached contains deep) = never ordered_premises [] env (Reached-at il n 0 g number (listed_behind rule.variables heads ordered_premises) heads g.inputs ordered_premises env reached)

    pub rule_none : Finds il n 0 (rule_seeks il n g number rule order) []
    rule_none = record {
      sound = tt;
      complete = λ outputs (derives : rules.Derives il g number rule order outputs). absurd (never ordered_premises [] derives.env derives.reached);
      calm = λ next (asked : AsksAmong (at_goal il 0 g number) rule.variables heads g.inputs ordered_premises next). absurd (never asked.before [] asked.env asked.reached);
      shallow = λ deep. none_deep_there deep.0 deep.1;
    }

  -- ---- a rule that stops

  -- at a closed input
  pub input_ends : (left : ℕ) (s : Stop) → StopsIf IsClosedDeep s → EndsBehind il n left g (fault_by (full_name rule) 0 s)
  input_ends left stop.Meets deep = λ typed.
      let w = contained (λ (e : IlExp). (nat_eq (length (vars e)) 0 ≡ true) × ValueAt il n no_variables e Deep) (inputs_of_rule il rule) deep in
      ends_met il n left g rule number 0 (record { rule = rule; order = order; is_rule = is_rule.is_rule; is_order = is_rule.is_order }, at_input w.0 refl w.1 (no_names (vars w.0) w.2.0) w.2.1) is_rule.is_rule typed
    where
      no_names : (xs : List Name) → nat_eq (length xs) 0 ≡ true → xs ≡ []
      no_names [] e = refl
      no_names (x ∷ xs) e = let same : length (x ∷ xs) ≡ 0 = eqb-true (length (x ∷ xs)) 0 e in absurd (omega (arith, same))
  input_ends left (stop.Asks chain) h = absurd h
  input_ends left stop.Memory h = tt

  -- at an output, behind all premises
  pub output_ends : (left : ℕ) (ends : List Partial) → AllByRecursion (IsPartial il n g number rule ordered_premises) ends → (s : Stop) → StopsIf (Exists (λ (end : Partial). SomeGives il n end.env (outputs_of_rule il rule) Deep) ends) s
      → EndsBehind il n left g (fault_by (full_name rule) 0 s)
  output_ends left ends right stop.Meets deep = λ typed.
      let w = one_of (λ (end : Partial). SomeGives il n end.env (outputs_of_rule il rule) Deep) (IsPartial il n g number rule ordered_premises) ends deep right in
      let o = contained (λ (e : IlExp). ValueAt il n w.0.env e Deep) (outputs_of_rule il rule) w.1 in
      ends_met il n left g rule number 0 (
        record { rule = rule; order = order; is_rule = is_rule.is_rule; is_order = is_rule.is_order },
        at_output (in_byte_order w.0.env) o.0 refl
            (Reached-at il 0 n g number (listed_behind rule.variables heads ordered_premises) heads g.inputs ordered_premises (in_byte_order w.0.env) (partial_reached il n g number rule can order ordered_premises [] (sym (append-nil ordered_premises)) w.0 w.2)) o.1
            (Gives-agree (syntaxes il) (CallAt il n) o.2 (in_byte_order w.0.env) (λ x i. sym (in_order_value w.0.env x))),
      ) is_rule.is_rule typed
  output_ends left ends right (stop.Asks chain) h = absurd h
  output_ends left ends right stop.Memory h = tt

  -- at a premise
  module _ (before : List IlPrem) (p : IlPrem) (after : List IlPrem) (split : ordered_premises ≡ before ++ p ∷ after) (known : GoalIsBound il (bound_behind (inputs_of_rule il rule) before) p) (premise : ℕ) (numbered : slice_get order (length before) ≡ Some premise) where
    abbrev run_from : Partial → Sought Partial Env
    run_from = next_seeks il n (root_at g number) (bound_behind (inputs_of_rule il rule) before) rule.variables p

    pub premise_ends : (left : ℕ) (ends : List Partial) → AllByRecursion (IsPartial il n g number rule before) ends → (s : Stop) → Stops il n left (sought_from run_from ends) s → EndsBehind il n left g (fault_by (full_name rule) premise s)
    premise_ends left ends right stop.Meets deep = λ typed.
        let w = one_of (λ (end : Partial). (run_from end).Deep) (IsPartial il n g number rule before) ends deep right in
        ends_met il n left g rule number premise (
          record { rule = rule; order = order; is_rule = is_rule.is_rule; is_order = is_rule.is_order },
          at_premise (record {
            before = before;
            premise = p;
            after = after;
            split = split;
            env = in_byte_order w.0.env;
            reached = Reached-at il 0 n g number (listed_behind rule.variables heads before) heads g.inputs before (in_byte_order w.0.env) (partial_reached il n g number rule can order before (p ∷ after) split w.0 w.2);
            deep = Meets-agree (at_goal il n g number) (value-local il) w.1 known (in_byte_order w.0.env) (λ x i. sym (in_order_value w.0.env x));
          }) numbered,
        ) is_rule.is_rule typed
    premise_ends left ends right (stop.Asks chain) asks = λ typed.
        let w = one_of (λ (end : Partial). (run_from end).Asked asks.0) (IsPartial il n g number rule before) ends asks.1 right in
        ends_asked il n left g asks.0 chain (among_follows il g asks.0 number (record { rule = rule; order = order; is_rule = is_rule.is_rule; is_order = is_rule.is_order }) (record {
          before = before;
          premise = p;
          after = after;
          split = split;
          env = in_byte_order w.0.env;
          reached = partial_reached il n g number rule can order before (p ∷ after) split w.0 w.2;
          asks = AsksGoal-agree (at_goal il 0 g number) (value-local il) (bound_behind heads before) rule.variables w.0.env (in_byte_order w.0.env) p asks.0 known (λ x i. sym (in_order_value w.0.env x)) w.1;
        })) typed asks.3
    premise_ends left ends right stop.Memory h = tt
