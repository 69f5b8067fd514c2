-- The run of a rule goes on by one premise, from each of its ends.
use Rattle.std.proofs.Common.{◌≡◌, sym, ◌∙◌, ap₂, subst, ℕ, ◌≤◌, true, List, [], ◌∷◌, ◌++◌, ◌⊎◌, inl, inr}
use Rattle.std.specs.List.{AllByRecursion}
use Rattle.st_il.specs.declared.definition.Il.{Il}
use Rattle.st_il.specs.declared.definition.Listed.{Listed}
use Rattle.st_il.specs.declared.definition.RuleDef.{RuleDef}
use Rattle.st_il.specs.declared.expression.IlExp.{IlExp}
use Rattle.st_il.specs.declared.expression.IlPrem.{IlPrem}
use Rattle.st_il.specs.declared.tree.Child.{Child}
use Rattle.st_il.specs.declared.value.Env.{Env}
use Rattle.st_il.specs.declared.value.Value.{Value}
use Rattle.st_il.specs.Names.{Name, has_name, without}
use Rattle.st_il.specs.Definitions.{syntaxes}
use Rattle.st_semantics.specs.Environments.{AgreeOn, EnvOk}
use Rattle.st_semantics.specs.Variables.{vars_of, prem_vars, prems_vars}
use Rattle.st_semantics.specs.Holding as h
use Rattle.st_semantics.specs.Holding.{Meaning, Derives, Holds, HoldAll, instances}
use Rattle.st_semantics.specs.Calls.{has_value}
use Rattle.st_semantics.specs.Derivation.{Root, derived, excluded}
use Rattle.st_semantics.specs.Depth.{Meets}
use Rattle.st_semantics.specs.Reaching.{Reached, MeetsAmong, bound_behind, listed_behind}
use Rattle.st_semantics.specs.Orders.{inputs_of_rule, in_order}
use Rattle.st_semantics.specs.Goals.{Goal}
use Rattle.st_semantics.specs.RuleDepth.{root_at}
use Rattle.st_semantics.specs.Chains.{at_goal}
use Rattle.st_semantics.proofs.Names.{Within, within-left, within-right}
use Rattle.st_semantics.proofs.Agree.{HaveValues-agree, HoldAll-agree, instances-agree}
use Rattle.st_semantics.proofs.Clauses.{hold_first}
use Rattle.st_semantics.proofs.Premises.{without-parts}
use Rattle.st_semantics.proofs.Restrict.{restricted, agree_picked, ok_restricted, listed_twice}
use Rattle.st_eval.proofs.InByteOrder.{in_byte_order, in_order_value}
use Rattle.st_eval.proofs.Trying.{typed_some}
use Rattle.st_search.specs.Searchable.{CanBeRun}
use Rattle.st_search.specs.declared.found.Partial.{Partial}
use Rattle.st_search.specs.declared.stop.Stop.{Stop}
use Rattle.st_search.specs.declared.stop.Stop.TheVariants as stop
use Rattle.st_search.specs.inner.Asking.{AsksGoal, AsksAmong}
use Rattle.st_search.specs.inner.Lists.{Exists}
use Rattle.st_search.specs.inner.Sought.{Sought, Finds, sought_from, Stops}
use Rattle.st_search.specs.inner.Steps.{IsSought}
use Rattle.st_search.specs.inner.Rules.{IsPartial, run_seeks}
use Rattle.st_search.specs.inner.Running.{IsLonger, next_seeks}
use Rattle.st_search.proofs.Values.{value-local}
use Rattle.st_search.proofs.Finds.{Exists-weaken, Each-weaken, IsCalm-wider}
use Rattle.st_search.proofs.Asked.{GoalIsBound, Meets-agree, AsksGoal-agree, asked_next, asked_here, met_next, met_here}
use Rattle.st_search.proofs.MeetsAgain.{Reached-at}
use Rattle.st_search.proofs.Partials.{behind_next, partial_next, partial_reached}

-- ---- one premise less

-- premises and the one behind them
hold_split : {V : Meaning} {O : Type 0} {D : Derives} (env : Env) (before : List IlPrem) (p : IlPrem) → HoldAll V O D (instances env (before ++ p ∷ [])) → HoldAll V O D (instances env before) × Holds V O D env p
hold_split env [] p all = (h.done, (hold_first (env, p) [] all).0)
hold_split env (q ∷ before) p all =
    let first = hold_first (env, q) (instances env (before ++ p ∷ [])) all in
    let rest = hold_split env before p first.1 in
    (h.more first.0 rest.0, rest.1)

-- what is sought of a premise is so where what is bound is the same
pub sought_agrees : (il : Il) (root : Root) (bound : List Name) (ls : List Listed) (a b : Env) (p : IlPrem) (more : Env) → AgreeOn bound a b → IsSought il root bound ls a p more → IsSought il root bound ls b p more
sought_agrees il root bound ls a b p more g s = record { agrees = λ x i. sym (g x i) ∙ s.agrees x i; typed = s.typed; holds = s.holds }

module _ (il : Il) (n : ℕ) (g : Goal) (number : ℕ) (ls : List Listed) (heads : List IlExp) (vs : List Value) (before : List IlPrem) (p : IlPrem) (env : Env)
    (r : Reached (at_goal il n g number) (listed_behind ls heads (before ++ p ∷ [])) heads vs (before ++ p ∷ []) env) where
  abbrev pub bound : List Name
  bound = bound_behind heads before

  abbrev pub earlier : Env
  earlier = restricted bound env

  behind_within : Within (bound ++ prem_vars p) (bound_behind heads (before ++ p ∷ []))
  behind_within x i = subst (λ z. has_name z x ≡ true) (behind_next heads before p) i

  -- with what was bound before it the premises before it are met
  pub reached_before : Reached (at_goal il n g number) (listed_behind ls heads before) heads vs before earlier
  reached_before = record {
    typed = subst (λ z. EnvOk (syntaxes il) z earlier) (listed_twice bound (bound_behind heads (before ++ p ∷ [])) ls (λ x i. behind_within x (within-left bound (prem_vars p) x i)))
        (ok_restricted (syntaxes il) bound (listed_behind ls heads (before ++ p ∷ [])) env r.typed);
    heads_are = HaveValues-agree (has_value il) (value-local il) heads vs env earlier (λ x i. sym (agree_picked bound env x (within-left (vars_of heads) (prems_vars before) x i))) r.heads_are;
    hold = HoldAll-agree (has_value il) (value-local il) (excluded il (root_at g number)) (derived il) (hold_split env before p r.hold).0 (instances earlier before)
        (instances-agree before env earlier (λ x i. sym (agree_picked bound env x (within-right (vars_of heads) (prems_vars before) x i))));
  }

  -- and the environment is sought of the premise
  pub sought_last : IsSought il (root_at g number) bound ls earlier p env
  sought_last = record {
    agrees = agree_picked bound env;
    typed = typed_some (syntaxes il) (bound_behind heads (before ++ p ∷ [])) ls env r.typed (without bound (prem_vars p))
        (λ x i. behind_within x (within-right bound (prem_vars p) x (without-parts bound (prem_vars p) x i).1));
    holds = (hold_split env before p r.hold).1;
  }

-- ---- one of some

-- one of which both hold
pub one_of : {A : Type 0} (P Q : A → Type 0) (xs : List A) → Exists P xs → AllByRecursion Q xs → (x : A) × P x × Q x
one_of P Q [] one all = absurd one
one_of P Q (x ∷ xs) (inl here) all = (x, here, all.0)
one_of P Q (x ∷ xs) (inr later) all = one_of P Q xs later all.1

pub always : {A : Type 0} {P : Type 0} (xs : List A) → Exists (λ (x : A). P) xs → P
always [] one = absurd one
always (x ∷ xs) (inl here) = here
always (x ∷ xs) (inr later) = always xs later

same_partial : (a : Partial) (env : Env) (children : List (List Child)) → a.env ≡ env → a.children ≡ children → record { env = env; children = children } ≡ a
same_partial a env children e c = sym (ap₂ (λ (y : Env) (z : List (List Child)). record { env = y; children = z }) e c)

module _ (il : Il) (n : ℕ) (g : Goal) (number : ℕ) (rule : RuleDef) (can : CanBeRun il rule) (order : List ℕ) (before : List IlPrem) (p : IlPrem) (after : List IlPrem) (split : in_order rule.premises order ≡ before ++ p ∷ after)
    (known : GoalIsBound il (bound_behind (inputs_of_rule il rule) before) p) where
  abbrev heads_of : List IlExp
  heads_of = inputs_of_rule il rule

  abbrev bound_of : List Name
  bound_of = bound_behind (inputs_of_rule il rule) before

  abbrev pub run_from : Partial → Sought Partial Env
  run_from = next_seeks il n (root_at g number) (bound_behind (inputs_of_rule il rule) before) rule.variables p

  longer_right : (end x : Partial) → IsPartial il n g number rule before end → IsLonger il n (root_at g number) bound_of rule.variables p end x → IsPartial il n g number rule (before ++ p ∷ []) x
  longer_right end x partial longer =
      subst (IsPartial il n g number rule (before ++ p ∷ [])) (same_partial x _ _ longer.env_is longer.children_are)
      (partial_next il n g number rule before p end longer.solution partial longer.right)

  module _ (l m k : ℕ) (ends more : List Partial) (first : Finds il n l (run_seeks il n g number rule before) ends) (second : Finds il n m (sought_from run_from ends) more) (few : l ≤ k) (fewer : m ≤ k) where
    all_right : AllByRecursion (IsPartial il n g number rule (before ++ p ∷ [])) more
    all_right = Each-weaken (λ x. Exists (λ (end : Partial). IsLonger il n (root_at g number) bound_of rule.variables p end x) ends) (IsPartial il n g number rule (before ++ p ∷ []))
        (λ x one.
        let w = one_of (λ (end : Partial). IsLonger il n (root_at g number) bound_of rule.variables p end x) (IsPartial il n g number rule before) ends one first.sound in
        longer_right w.0 x w.2 w.1)
        more second.sound

    -- one of the ends has what was bound
    end_like : (env : Env) → Reached (at_goal il 0 g number) (listed_behind rule.variables heads_of before) heads_of g.inputs before env → Exists (λ (end : Partial). AgreeOn bound_of end.env env) ends
    end_like env reached = first.complete env reached

    all_found : (env : Env) → Reached (at_goal il 0 g number) (listed_behind rule.variables heads_of (before ++ p ∷ [])) heads_of g.inputs (before ++ p ∷ []) env
        → Exists (λ (x : Partial). AgreeOn (bound_behind heads_of (before ++ p ∷ [])) x.env env) more
    all_found env reached =
        let wanted : Exists (λ (end : Partial). IsSought il (root_at g number) bound_of rule.variables end.env p env) ends =
        Exists-weaken (λ (end : Partial). AgreeOn bound_of end.env (earlier il 0 g number rule.variables heads_of g.inputs before p env reached)) (λ (end : Partial). IsSought il (root_at g number) bound_of rule.variables end.env p env)
        (λ (end : Partial) same. sought_agrees il (root_at g number) bound_of rule.variables (earlier il 0 g number rule.variables heads_of g.inputs before p env reached) end.env p env (λ x i. sym (same x i))
        (sought_last il 0 g number rule.variables heads_of g.inputs before p env reached)) ends
        (end_like (earlier il 0 g number rule.variables heads_of g.inputs before p env reached) (reached_before il 0 g number rule.variables heads_of g.inputs before p env reached)) in
        Exists-weaken (λ (x : Partial). (sought_from run_from ends).Is x env) (λ (x : Partial). AgreeOn (bound_behind heads_of (before ++ p ∷ [])) x.env env)
        (λ (x : Partial) is. subst (λ z. AgreeOn z x.env env) (behind_next heads_of before p)
        (always ends (Exists-weaken (λ (z : Partial). (run_from z).Wanted env × (run_from z).Is x env) (λ (z : Partial). AgreeOn (bound_of ++ prem_vars p) x.env env) (λ (z : Partial) both. both.1) ends is))) more
        (second.complete env wanted)

    calm_asked : (next : Goal) → AsksAmong (at_goal il 0 g number) rule.variables heads_of g.inputs before next ⊎ ((env : Env) × Reached (at_goal il 0 g number) (listed_behind rule.variables heads_of before) heads_of g.inputs before env
        × AsksGoal (at_goal il 0 g number) bound_of rule.variables env p next) → (sought_from run_from ends).Asked next ⊎ (run_seeks il n g number rule before).Asked next
    calm_asked next (inl before_it) = inr before_it
    calm_asked next (inr here) = inl (Exists-weaken (λ (end : Partial). AgreeOn bound_of end.env here.0) (λ (end : Partial). (run_from end).Asked next)
        (λ (end : Partial) same. AsksGoal-agree (at_goal il 0 g number) (value-local il) bound_of rule.variables here.0 end.env p next known (λ x i. sym (same x i)) here.2) ends (end_like here.0 here.1))

    meets_so : MeetsAmong (at_goal il n g number) rule.variables heads_of g.inputs before ⊎ ((env : Env) × Reached (at_goal il n g number) (listed_behind rule.variables heads_of before) heads_of g.inputs before env
        × Meets (at_goal il n g number) bound_of rule.variables env p) → ⊥
    meets_so (inl before_it) = first.shallow before_it
    meets_so (inr here) = second.shallow (Exists-weaken (λ (end : Partial). AgreeOn bound_of end.env here.0) (λ (end : Partial). (run_from end).Deep)
        (λ (end : Partial) same. Meets-agree (at_goal il n g number) (value-local il) here.2 known end.env (λ x i. sym (same x i))) ends
        (end_like here.0 (Reached-at il n 0 g number (listed_behind rule.variables heads_of before) heads_of g.inputs before here.0 here.1)))

    -- what is found of the premise from all ends is what is sought behind it
    pub run_next : Finds il n k (run_seeks il n g number rule (before ++ p ∷ [])) more
    run_next = record {
      sound = all_right;
      complete = all_found;
      calm = λ next asked. elim (calm_asked next (asked_next (at_goal il 0 g number) rule.variables heads_of g.inputs before p next asked)) [
        | inl now ↦ IsCalm-wider il n m k next fewer (second.calm next now)
        | inr before_it ↦ IsCalm-wider il n l k next few (first.calm next before_it)
      ];
      shallow = λ deep. meets_so (met_next (at_goal il n g number) rule.variables heads_of g.inputs before p deep);
    }

  -- where the premise stops from one of the ends, the rule does
  pub stops_next : (left : ℕ) (ends : List Partial) → AllByRecursion (IsPartial il n g number rule before) ends → (s : Stop) → Stops il n left (sought_from run_from ends) s → Stops il n left (run_seeks il n g number rule (before ++ p ∷ after)) s
  stops_next left ends right stop.Meets deep =
      let w = one_of (λ (end : Partial). (run_from end).Deep) (IsPartial il n g number rule before) ends deep right in
      met_here (at_goal il n g number) rule.variables heads_of g.inputs before p after (
        in_byte_order w.0.env,
        Reached-at il 0 n g number (listed_behind rule.variables heads_of before) heads_of g.inputs before (in_byte_order w.0.env) (partial_reached il n g number rule can order before (p ∷ after) split w.0 w.2),
        Meets-agree (at_goal il n g number) (value-local il) w.1 known (in_byte_order w.0.env) (λ x i. sym (in_order_value w.0.env x)),
      )
  stops_next left ends right (stop.Asks chain) asks =
      let w = one_of (λ (end : Partial). (run_from end).Asked asks.0) (IsPartial il n g number rule before) ends asks.1 right in (
        asks.0,
        asked_here (at_goal il 0 g number) rule.variables heads_of g.inputs before p after asks.0 (
          in_byte_order w.0.env,
          partial_reached il n g number rule can order before (p ∷ after) split w.0 w.2,
          AsksGoal-agree (at_goal il 0 g number) (value-local il) bound_of rule.variables w.0.env (in_byte_order w.0.env) p asks.0 known (λ x i. sym (in_order_value w.0.env x)) w.1,
        ),
        asks.2,
        asks.3,
      )
  stops_next left ends right stop.Memory h = tt
