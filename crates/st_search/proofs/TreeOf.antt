-- The tree of a rule that was run to its end is valid, and has the outputs.
use Rattle.std.proofs.Common.{arith, ◌≡◌, refl, sym, ◌∙◌, ap, subst, ℕ, suc, ◌+◌, ◌<◌, true, ◌&&◌, nat_eq, List, [], ◌∷◌, ◌++◌, length, inl, inr, ◌⊎◌, Some, Ok, slice_get, All, append-nil}
use Rattle.std.specs.List.{list_all, list_any, slice_index_or}
use Rattle.std.proofs.lemmas.Bool.{eqb-true}
use Rattle.st_il.specs.declared.definition.Il.{Il}
use Rattle.st_il.specs.declared.definition.RuleDef.{RuleDef}
use Rattle.st_il.specs.declared.expression.IlPrem.{IlPrem}
use Rattle.st_il.specs.declared.tree.Tree.{Tree}
use Rattle.st_il.specs.declared.value.Env.{Env}
use Rattle.st_il.specs.declared.value.Value.{Value}
use Rattle.st_il.specs.Names.{Name, has_name, all_known}
use Rattle.st_il.specs.Definitions.{syntaxes, rules_in}
use Rattle.st_semantics.specs.Directions.{mask, inputs_by, outputs_by, inputs_of, outputs_of}
use Rattle.st_semantics.specs.Environments.{EnvOk, IsOrdered, IsSomeTyped, names_of, value_in, type_of, listed_names}
use Rattle.st_semantics.specs.Evaluation.{tasks}
use Rattle.st_semantics.specs.Parts.{option_list}
use Rattle.st_semantics.specs.Variables.{vars_of, prem_vars, prems_vars}
use Rattle.st_semantics.specs.Holding.{HaveValues, instances}
use Rattle.st_semantics.specs.Calls.{CallAt, has_value_at}
use Rattle.st_semantics.specs.Derivation.{Proved, node}
use Rattle.st_semantics.specs.Reaching.{bound_behind}
use Rattle.st_semantics.specs.Orders.{inputs_of_rule, outputs_of_rule, in_order, premise_at, numbers_from, are_all, are_inputs, run_on}
use Rattle.st_semantics.specs.OrderOf.{order_of}
use Rattle.st_semantics.specs.Goals.{Goal}
use Rattle.st_semantics.specs.RuleDepth.{root_at}
use Rattle.st_semantics.specs.Chains.{excluded_at}
use Rattle.st_semantics.proofs.Names.{Within, within-cases, within-left, within-right, known-within, and-both, or-cases}
use Rattle.st_semantics.proofs.Agree.{HaveValues-agree, value_by-local}
use Rattle.st_semantics.proofs.Clauses.{prems_vars-append}
use Rattle.st_semantics.proofs.Low.{name_there}
use Rattle.st_semantics.proofs.Selections.{law_of_orders}
use Rattle.st_semantics.proofs.Trials.{run_end}
use Rattle.st_eval.specs.Steps.{HasOnly}
use Rattle.st_eval.proofs.InByteOrder.{in_byte_order, in_order_value, name_has_value}
use Rattle.st_eval.proofs.Trying.{known_all, all_ok}
use Rattle.st_search.specs.Searchable.{CanBeRun}
use Rattle.st_search.specs.Answers.{IsOutput}
use Rattle.st_search.specs.declared.found.Partial.{Partial}
use Rattle.st_search.specs.declared.tree.Place.{Place}
use Rattle.st_search.specs.inner.Trees.{merged, arranged}
use Rattle.st_search.specs.inner.Rules.{IsPartial}
use Rattle.st_search.specs.inner.Running.{IsPlace}
use Rattle.st_search.proofs.Masks.{conclusion_long, rule_can, values_merged}
use Rattle.st_search.proofs.GoalParts.{vars_split}
use Rattle.st_search.proofs.Partials.{behind_listed, AllStandFor-agree}
use Rattle.st_search.proofs.Arranged.{number_in, arranged_all}

-- ---- variables of premises in order

-- a variable of some premises is one of a premise of some number
named_premise : (ps : List IlPrem) (x : Name) → has_name (prems_vars ps) x ≡ true → (k : ℕ) × (p : IlPrem) × (k < length ps) × (slice_get ps k ≡ Some p) × (has_name (prem_vars p) x ≡ true)
named_premise [] x h = cc
named_premise (p ∷ ps) x h = at (within-cases (prem_vars p) (prems_vars ps) x h) (named_premise ps x)
  where
    at : (has_name (prem_vars p) x ≡ true) ⊎ (has_name (prems_vars ps) x ≡ true)
        → (has_name (prems_vars ps) x ≡ true → (k : ℕ) × (q : IlPrem) × (k < length ps) × (slice_get ps k ≡ Some q) × (has_name (prem_vars q) x ≡ true))
        → (k : ℕ) × (q : IlPrem) × (k < length (p ∷ ps)) × (slice_get (p ∷ ps) k ≡ Some q) × (has_name (prem_vars q) x ≡ true)
    at (inl here) later = (0, p, omega arith, refl, here)
    at (inr there) later = let w = later there in let less = w.2 in (suc w.0, w.1, omega (arith, less), w.3, w.4)

-- the variables of a premise whose number stands in the order
number_vars : (ps : List IlPrem) (order : List ℕ) (k : ℕ) (p : IlPrem) → list_any (nat_eq k) order ≡ true → premise_at ps k ≡ Some p → Within (prem_vars p) (prems_vars (in_order ps order))
number_vars ps [] k p h e x i = cc
number_vars ps (j ∷ js) k p h e x i = at (or-cases (nat_eq k j) (list_any (nat_eq k) js) h) (λ later. number_vars ps js k p later e x i)
  where
    at : (nat_eq k j ≡ true) ⊎ (list_any (nat_eq k) js ≡ true) → (list_any (nat_eq k) js ≡ true → has_name (prems_vars (in_order ps js)) x ≡ true) → has_name (prems_vars (in_order ps (j ∷ js))) x ≡ true
    at (inl same) later =
        subst (λ z. has_name (prems_vars (option_list z ++ in_order ps js)) x ≡ true) (sym (ap (premise_at ps) (sym (eqb-true k j same)) ∙ e)) (within-left (prem_vars p) (prems_vars (in_order ps js)) x i)
    at (inr there) later =
        subst (λ z. has_name z x ≡ true) (sym (prems_vars-append (option_list (premise_at ps j)) (in_order ps js)))
        (within-right (prems_vars (option_list (premise_at ps j))) (prems_vars (in_order ps js)) x (later there))

-- an order has all variables of the premises
all_vars : (ps : List IlPrem) (order : List ℕ) → are_all ps order ≡ true → Within (prems_vars ps) (prems_vars (in_order ps order))
all_vars ps order all x i =
    let w = named_premise ps x i in
    let same : 1 + w.0 ≡ suc w.0 = omega arith in
    let numbered : list_any (nat_eq (1 + w.0)) order ≡ true = number_in (λ (k : ℕ). list_any (nat_eq k) order) 1 (length ps) w.0 (and-both (nat_eq (length order) (length ps)) (list_all (λ (k : ℕ). list_any (nat_eq k) order) (numbers_from 1 (length ps))) all).1 w.2 in
    number_vars ps order (suc w.0) w.1 (subst (λ z. list_any (nat_eq z) order ≡ true) same numbered) w.3 x w.4

module _ (il : Il) (rule : RuleDef) (can : CanBeRun il rule) (order : List ℕ) (is_order_of : order_of il rule ≡ Ok order) where
  -- what an order says
  pub order_parts : (are_all rule.premises order ≡ true) × (are_inputs (inputs_of_rule il rule) ≡ true) × (run_on il (vars_of (inputs_of_rule il rule)) (in_order rule.premises order) (vars_of (outputs_of_rule il rule)) ≡ true)
  order_parts =
      let one = and-both (are_all rule.premises order && are_inputs (inputs_of_rule il rule)) (run_on il (vars_of (inputs_of_rule il rule)) (in_order rule.premises order) (vars_of (outputs_of_rule il rule))) ((law_of_orders il rule).0 order is_order_of) in
      let two = and-both (are_all rule.premises order) (are_inputs (inputs_of_rule il rule)) one.0 in
      (two.0, two.1, one.1)

  -- at the end of the run the outputs are bound
  pub outputs_bound : all_known (bound_behind (inputs_of_rule il rule) (in_order rule.premises order)) (vars_of (outputs_of_rule il rule)) ≡ true
  outputs_bound = run_end il (vars_of (outputs_of_rule il rule)) (in_order rule.premises order) (vars_of (inputs_of_rule il rule)) order_parts.2

  -- and so are all listed variables
  pub listed_bound : Within (listed_names rule.variables) (bound_behind (inputs_of_rule il rule) (in_order rule.premises order))
  listed_bound x i = elim (within-cases (vars_of rule.conclusion) (prems_vars rule.premises) x (known-within (vars_of rule.conclusion ++ prems_vars rule.premises) (listed_names rule.variables) can.occurring x i)) [
    | inl j ↦ elim (vars_split (mask il rule.relation) rule.conclusion can.long x j) [
      | inl k ↦ within-left (vars_of (inputs_of_rule il rule)) (prems_vars (in_order rule.premises order)) x k
      | inr k ↦ known-within (bound_behind (inputs_of_rule il rule) (in_order rule.premises order)) (vars_of (outputs_of_rule il rule)) outputs_bound x k
    ]
    | inr j ↦ within-right (vars_of (inputs_of_rule il rule)) (prems_vars (in_order rule.premises order)) x (all_vars rule.premises order order_parts.0 x j)
  ]

  -- an environment of these variables in byte order fits the rule
  pub end_ok : (end env : Env) → HasOnly il rule.variables (bound_behind (inputs_of_rule il rule) (in_order rule.premises order)) end → IsOrdered env → ((x : Name) → value_in env x ≡ value_in end x) → EnvOk (syntaxes il) rule.variables env
  end_ok end env only ordered same = record {
    ordered = ordered;
    no_other = known_all (listed_names rule.variables) (names_of env) (λ x i.
        let w = name_has_value x env.entries i in
        known-within (listed_names rule.variables) (bound_behind (inputs_of_rule il rule) (in_order rule.premises order)) known x (sym (only.names_are x) ∙ name_there x w.0 end.entries (sym (same x) ∙ w.1)));
    typed = λ k d less. subst (IsSomeTyped (syntaxes il) (type_of (slice_index_or rule.variables k d)))
        (in_order_value end (slice_index_or rule.variables k d).name ∙ sym (same (slice_index_or rule.variables k d).name)) (ok.typed k d less);
  }
    where
      nothing_after : in_order rule.premises order ≡ in_order rule.premises order ++ []
      nothing_after = sym (append-nil (in_order rule.premises order))

      known : all_known (listed_names rule.variables) (bound_behind (inputs_of_rule il rule) (in_order rule.premises order)) ≡ true
      known = behind_listed il rule can order (in_order rule.premises order) [] nothing_after

      ok : EnvOk (syntaxes il) rule.variables (in_byte_order end)
      ok = all_ok il rule.variables (bound_behind (inputs_of_rule il rule) (in_order rule.premises order)) end can.once known listed_bound only

module _ (il : Il) (rules : All (CanBeRun il) (rules_in il.defs)) (n : ℕ) (g : Goal) (place : Place) (is : IsPlace il g.relation place) (end : Partial)
    (partial : IsPartial il n g place.number place.rule.now (in_order place.rule.now.premises place.order.now) end)
    (vs : List Value) (have : HaveValues (has_value_at il n) (tasks end.env (outputs_of_rule il place.rule.now)) vs) (env : Env) (ordered : IsOrdered env) (same : (x : Name) → value_in env x ≡ value_in end.env x) where
  abbrev rule : RuleDef
  rule = place.rule.now

  abbrev pub tree_there : Tree
  tree_there = record { relation = place.relation; rule = place.number; env = env; values = merged place.holes.now g.inputs vs; children = arranged place.order.now end.children (length place.rule.now.premises) }

  can : CanBeRun il place.rule.now
  can = rule_can il rules g.relation place.number place.rule.now is.rule.is_rule

  named : g.relation ≡ place.rule.now.relation
  named = (conclusion_long il rules g.relation place.number place.rule.now is.rule.is_rule).0

  back : (x : Name) → value_in end.env x ≡ value_in env x
  back x = sym (same x)

  inputs_there : HaveValues (has_value_at il n) (tasks env (inputs_by (mask il g.relation) place.rule.now.conclusion)) g.inputs
  inputs_there = subst (λ z. HaveValues (has_value_at il n) (tasks env (inputs_by (mask il z) place.rule.now.conclusion)) g.inputs) (sym named)
      (HaveValues-agree (has_value_at il n) (value_by-local (syntaxes il) (CallAt il n)) (inputs_of_rule il place.rule.now) g.inputs end.env env (λ x i. back x) partial.inputs_are)

  outputs_there : HaveValues (has_value_at il n) (tasks env (outputs_by (mask il g.relation) place.rule.now.conclusion)) vs
  outputs_there = subst (λ z. HaveValues (has_value_at il n) (tasks env (outputs_by (mask il z) place.rule.now.conclusion)) vs) (sym named)
      (HaveValues-agree (has_value_at il n) (value_by-local (syntaxes il) (CallAt il n)) (outputs_of_rule il place.rule.now) vs end.env env (λ x i. back x) have)

  abbrev IsMergedBy : List Value → Type 0
  IsMergedBy values = HaveValues (has_value_at il n) (tasks env place.rule.now.conclusion) values × (inputs_of il g.relation values ≡ g.inputs) × (outputs_of il g.relation values ≡ vs)

  merged_there : IsMergedBy (merged place.holes.now g.inputs vs)
  merged_there = subst (λ z. IsMergedBy (merged z g.inputs vs)) (sym is.holes)
      (values_merged (has_value_at il n) env (mask il g.relation) place.rule.now.conclusion g.inputs vs (conclusion_long il rules g.relation place.number place.rule.now is.rule.is_rule).1 inputs_there outputs_there)

  premises_there : Proved il (has_value_at il n) (excluded_at il n) (root_at g place.number) (instances env place.rule.now.premises) (arranged place.order.now end.children (length place.rule.now.premises))
  premises_there = arranged_all il n (root_at g place.number) env place.rule.now.premises place.order.now end.children (order_parts il place.rule.now can place.order.now is.rule.is_order).0
      (AllStandFor-agree il n (root_at g place.number) (in_order place.rule.now.premises place.order.now) end.children end.env env (λ x i. back x) partial.stand)

  -- the tree has the outputs of the goal
  pub output_of : IsOutput il n g (record { values = vs; tree = tree_there })
  output_of = record {
    valid = node g.relation place.rule.now is.is_relation is.rule.is_rule (end_ok il place.rule.now can place.order.now is.rule.is_order end.env env partial.variables ordered same) merged_there.0
        (subst (λ z. Proved il (has_value_at il n) (excluded_at il n) (record { relation = g.relation; rule = place.number; inputs = z }) (instances env place.rule.now.premises) (arranged place.order.now end.children (length place.rule.now.premises)))
        (sym merged_there.1) premises_there);
    relation_is = is.is_relation;
    inputs_are = merged_there.1;
    outputs_are = merged_there.2;
  }
