-- What is derivable is derived by a rule in its order.
use Rattle.std.proofs.Common.{◌≡◌, refl, sym, ◌∙◌, ap, subst, ℕ, zero, suc, true, false, Bool, if◌then◌else◌, List, [], ◌∷◌, inl, Option, Some, None, Ok, slice_get, All, map, not, bytes_eq, arith}
use Rattle.std.proofs.lemmas.List.Elements.{All-contains}
use Rattle.std.specs.Prelude.{Contains}
use Rattle.st_il.specs.declared.definition.Il.{Il}
use Rattle.st_il.specs.declared.definition.Listed.{Listed}
use Rattle.st_il.specs.declared.definition.RuleDef.{RuleDef}
use Rattle.st_il.specs.declared.expression.IlPrem.{IlPrem}
use Rattle.st_il.specs.declared.tree.Child.{Child}
use Rattle.st_il.specs.declared.tree.Tree.{Tree}
use Rattle.st_il.specs.declared.value.Env.{Env}
use Rattle.st_il.specs.declared.value.Value.{Value}
use Rattle.st_il.specs.Names.{Name, has_name}
use Rattle.st_il.specs.Definitions.{syntaxes, rules_in, rules_of, IsRelation}
use Rattle.st_semantics.specs.Directions.{mask, inputs_by, outputs_by, inputs_of, outputs_of}
use Rattle.st_semantics.specs.Environments.{EnvOk, listed_in, listed_names}
use Rattle.st_semantics.specs.Evaluation.{tasks}
use Rattle.st_semantics.specs.Parts.{option_list}
use Rattle.st_semantics.specs.Holding as h
use Rattle.st_semantics.specs.Holding.{Meaning, Derives, Holds, HoldAll, HaveValues, Instance, instances}
use Rattle.st_semantics.specs.Calls.{has_value, no_goal}
use Rattle.st_semantics.specs.Derivation.{Root, root_of, Proved, node, done, plain, goal, each, derived, excluded, IsValid, Derivable}
use Rattle.st_semantics.specs.Reaching.{bound_behind}
use Rattle.st_semantics.specs.Orders.{inputs_of_rule, in_order, premise_at}
use Rattle.st_semantics.specs.OrderOf.{order_of}
use Rattle.st_semantics.specs.Goals.{Goal}
use Rattle.st_semantics.specs.RuleDepth.{root_at}
use Rattle.st_semantics.proofs.Names.{Within, within-left, within-right, or-left, bytes-same}
use Rattle.st_semantics.proofs.Clauses.{append_hold, hold_first}
use Rattle.st_semantics.proofs.Holding.{Holds-map}
use Rattle.st_semantics.proofs.Nodes.{relation_single}
use Rattle.st_search.specs.Searchable.{CanBeRun}
use Rattle.st_search.specs.inner.Rules as rules
use Rattle.st_search.specs.inner.Rules.{CanBeSearched}
use Rattle.st_search.specs.inner.Running.{IsRuleOf}
use Rattle.st_search.proofs.Masks.{conclusion_long, rule_can, values_at_inputs}
use Rattle.st_search.proofs.TreeOf.{listed_bound}

-- ---- premises for which children stand

module _ (il : Il) where
  -- the premises of a valid tree hold
  pub proved_hold : {root : Root} {as' : List Instance} {cs : List Child} → Proved il (has_value il) (excluded il) root as' cs → HoldAll (has_value il) (excluded il root) (derived il) as'
  proved_hold done = h.done
  proved_hold (plain c x rest) = h.more (Holds-map (has_value il) (has_value il) (λ env e v gives. gives) no_goal (derived il) (λ r vs d. absurd d) (λ o. o) x) (proved_hold rest)
  proved_hold (goal {at = at} name es below is one valid relation have rest) =
      h.more (h.goal name es below.values is have (record { tree = below; valid = valid; relation_is = relation; values_are = refl })) (proved_hold rest)
  proved_hold (each how xs body envs inner c is many are all rest) = h.more (h.each how xs body envs is are (proved_hold all)) (proved_hold rest)

-- ---- premises in an order

module _ {V : Meaning} {O : Type 0} {D : Derives} (env : Env) where
  hold_at : (ps : List IlPrem) (k : ℕ) (p : IlPrem) → HoldAll V O D (instances env ps) → slice_get ps k ≡ Some p → Holds V O D env p
  hold_at [] k p all e = cc
  hold_at (q ∷ ps) zero p all e = let same : q ≡ p = cc in subst (Holds V O D env) same (hold_first (env, q) (instances env ps) all).0
  hold_at (q ∷ ps) (suc k) p all e = hold_at ps k p (hold_first (env, q) (instances env ps) all).1 e

  hold_number : (ps : List IlPrem) (k : ℕ) (o : Option IlPrem) → HoldAll V O D (instances env ps) → premise_at ps k ≡ o → HoldAll V O D (instances env (option_list o))
  hold_number ps k None all e = h.done
  hold_number ps zero (Some p) all e = cc
  hold_number ps (suc k) (Some p) all e = h.more (hold_at ps k p all e) h.done

  pub hold_in_order : (ps : List IlPrem) (order : List ℕ) → HoldAll V O D (instances env ps) → HoldAll V O D (instances env (in_order ps order))
  hold_in_order ps [] all = h.done
  hold_in_order ps (k ∷ ks) all = append_hold env (option_list (premise_at ps k)) (in_order ps ks) (hold_number ps k (premise_at ps k) all refl) (hold_in_order ps ks all)

-- ---- listed variables

-- where all are bound, those that are bound are all
listed_all : (names : List Name) (ls : List Listed) → Within (listed_names ls) names → listed_in names ls ≡ ls
listed_all names [] w = refl
listed_all names (l ∷ ls) w = at (has_name names l.name) (w l.name (within-left (l.name ∷ []) (listed_names ls) l.name (or-left (bytes_eq l.name l.name) false (bytes-same l.name)))) (listed_all names ls (λ x i. w x (within-right (l.name ∷ []) (listed_names ls) x i)))
  where
    at : (b : Bool) → b ≡ true → listed_in names ls ≡ ls → (if b then l ∷ listed_in names ls else listed_in names ls) ≡ l ∷ ls
    at true k rest = ap (λ z. l ∷ z) rest
    at false k rest = cc

-- ---- a rule that derives

-- what has a number among some is one of them
pub contains_got : {A : Type 0} (xs : List A) (k : ℕ) (x : A) → slice_get xs k ≡ Some x → Contains xs x
contains_got [] k x e = cc
contains_got (y ∷ ys) zero x e = let same : y ≡ x = cc in (0, omega arith, same)
contains_got (y ∷ ys) (suc k) x e = let w = contains_got ys k x e in let less = w.1 in (suc w.0, omega (arith, less), w.2)

module _ (il : Il) (all_can : All (CanBeRun il) (rules_in il.defs)) (g : Goal) (search : CanBeSearched il g.relation) (outputs : List Value) where
  abbrev pub IsDerived : Type 0
  IsDerived = (number : ℕ) × (rule : RuleDef) × (order : List ℕ) × IsRuleOf il g.relation number rule order × rules.Derives il g number rule order outputs

  ordered_rule : (number : ℕ) (rule : RuleDef) → slice_get (rules_of il g.relation) number ≡ Some rule → (order : List ℕ) × (order_of il rule ≡ Ok order)
  ordered_rule number rule at = All-contains (λ (r : RuleDef). (order : List ℕ) × (order_of il r ≡ Ok order)) (rules_of il g.relation) rule (search g.relation (inl refl)).ordered (contains_got (rules_of il g.relation) number rule at)

  by_node : (tree : Tree) (rule : RuleDef) → slice_get (rules_of il g.relation) tree.rule ≡ Some rule → EnvOk (syntaxes il) rule.variables tree.env → HaveValues (has_value il) (tasks tree.env rule.conclusion) tree.values
      → HoldAll (has_value il) (excluded il (root_at g tree.rule)) (derived il) (instances tree.env rule.premises) → inputs_of il g.relation tree.values ≡ g.inputs → outputs_of il g.relation tree.values ≡ outputs → IsDerived
  by_node tree rule at ok gives hold inputs_are outputs_are =
      let order = ordered_rule tree.rule rule at in
      let named : g.relation ≡ rule.relation = (conclusion_long il all_can g.relation tree.rule rule at).0 in (
        tree.rule,
        rule,
        order.0,
        record { is_rule = at; is_order = order.1 },
        record {
          env = tree.env;
          reached = record {
            typed = subst (λ z. EnvOk (syntaxes il) z tree.env) (sym (listed_all (bound_behind (inputs_of_rule il rule) (in_order rule.premises order.0)) rule.variables
                (listed_bound il rule (rule_can il all_can g.relation tree.rule rule at) order.0 order.1))) ok;
            heads_are = subst (λ z. HaveValues (has_value il) (tasks tree.env (inputs_by (mask il z) rule.conclusion)) g.inputs) named
                (subst (HaveValues (has_value il) (tasks tree.env (inputs_by (mask il g.relation) rule.conclusion))) inputs_are (values_at_inputs (has_value il) tree.env (mask il g.relation) rule.conclusion tree.values gives));
            hold = hold_in_order tree.env rule.premises order.0 hold;
          };
          outputs_are = subst (λ z. HaveValues (has_value il) (tasks tree.env (outputs_by (mask il z) rule.conclusion)) outputs) named
              (subst (HaveValues (has_value il) (tasks tree.env (outputs_by (mask il g.relation) rule.conclusion))) outputs_are (values_at_inputs (has_value il) tree.env (map not (mask il g.relation)) rule.conclusion tree.values gives));
        },
      )

  by_tree : (tree : Tree) → IsValid il tree → IsRelation il tree.relation g.relation → inputs_of il g.relation tree.values ≡ g.inputs → outputs_of il g.relation tree.values ≡ outputs → IsDerived
  by_tree tree (node name rule is at ok gives proved) found inputs_are outputs_are =
      let same : name ≡ g.relation = relation_single il tree.relation name g.relation is found in
      let root_is : root_of il name tree ≡ root_at g tree.rule = ap (λ z. root_of il z tree) same ∙ ap (λ (z : List Value). let root : Root = record { relation = g.relation; rule = tree.rule; inputs = z } in root) inputs_are in
      by_node tree rule (subst (λ z. slice_get (rules_of il z) tree.rule ≡ Some rule) same at) ok gives
      (subst (λ z. HoldAll (has_value il) (excluded il z) (derived il) (instances tree.env rule.premises)) root_is (proved_hold il proved)) inputs_are outputs_are

  -- what is derivable is derived so
  pub derives_all : Derivable il g.relation g.inputs outputs → IsDerived
  derives_all d = by_tree d.is_derived.tree d.is_derived.valid d.is_derived.relation_is (ap (λ z. inputs_of il g.relation z) d.is_derived.values_are ∙ d.inputs_are) (ap (λ z. outputs_of il g.relation z) d.is_derived.values_are ∙ d.outputs_are)
