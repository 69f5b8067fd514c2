-- How far a rule is run: one premise further, and so far as the definitions say.
use Rattle.std.proofs.Common.{◌≡◌, refl, sym, ◌∙◌, ap, subst, ℕ, zero, suc, true, List, [], ◌∷◌, ◌++◌, inl, inr, Option, Some, None, slice_get, append_assoc, append-nil}
use Rattle.st_il.specs.declared.definition.Il.{Il}
use Rattle.st_il.specs.declared.definition.RuleDef.{RuleDef}
use Rattle.st_il.specs.declared.expression.IlExp.{IlExp}
use Rattle.st_il.specs.declared.expression.IlPrem.{IlPrem}
use Rattle.st_il.specs.declared.tree.Child.{Child}
use Rattle.st_il.specs.declared.value.Env.{Env}
use Rattle.st_il.specs.Names.{has_name, all_known}
use Rattle.st_il.specs.Definitions.{syntaxes}
use Rattle.st_semantics.specs.Directions.{mask}
use Rattle.st_semantics.specs.Environments.{AgreeOn, listed_names}
use Rattle.st_semantics.specs.Evaluation.{tasks}
use Rattle.st_semantics.specs.Parts.{option_list}
use Rattle.st_semantics.specs.Variables.{vars_of, prem_vars, prems_vars}
use Rattle.st_semantics.specs.Holding as h
use Rattle.st_semantics.specs.Holding.{HaveValues, HoldAll, instances}
use Rattle.st_semantics.specs.Calls.{CallAt, has_value, has_value_at}
use Rattle.st_semantics.specs.Derivation.{Root, derived, excluded}
use Rattle.st_semantics.specs.Reaching.{Reached, bound_behind, listed_behind}
use Rattle.st_semantics.specs.Orders.{inputs_of_rule, in_order, premise_at}
use Rattle.st_semantics.specs.Goals.{Goal}
use Rattle.st_semantics.specs.RuleDepth.{root_at}
use Rattle.st_semantics.specs.Chains.{at_goal, excluded_at}
use Rattle.st_semantics.proofs.Names.{Within, within-cases, within-left, within-right, agree-left, agree-right, known-within}
use Rattle.st_semantics.proofs.Agree.{HaveValues-agree, value_by-local}
use Rattle.st_semantics.proofs.Clauses.{hold_first, prems_vars-append}
use Rattle.st_eval.specs.Steps.{HasOnly}
use Rattle.st_eval.specs.inner.Beside.{beside}
use Rattle.st_eval.proofs.InByteOrder.{in_byte_order, in_order_value}
use Rattle.st_eval.proofs.Trying.{known_all, some_ok}
use Rattle.st_search.specs.Searchable.{CanBeRun}
use Rattle.st_search.specs.declared.found.Partial.{Partial}
use Rattle.st_search.specs.declared.found.Solution.{Solution}
use Rattle.st_search.specs.inner.Steps.{IsSolution, StandFor}
use Rattle.st_search.specs.inner.Rules.{AllStandFor, IsPartial}
use Rattle.st_search.proofs.Values.{values_up}
use Rattle.st_search.proofs.StandIns.{Proved-agree, Proved-holds}
use Rattle.st_search.proofs.GoalParts.{vars_by}

-- ---- what is bound

-- what is bound behind one premise more
pub behind_next : (heads : List IlExp) (before : List IlPrem) (p : IlPrem) → bound_behind heads before ++ prem_vars p ≡ bound_behind heads (before ++ p ∷ [])
behind_next heads before p =
    append_assoc (vars_of heads) (prems_vars before) (prem_vars p)
    ∙ ap (λ z. vars_of heads ++ z) (ap (λ z. prems_vars before ++ z) (sym (append-nil (prem_vars p))) ∙ sym (prems_vars-append before (p ∷ [])))

got_within : (ps : List IlPrem) (k : ℕ) (p : IlPrem) → slice_get ps k ≡ Some p → Within (prem_vars p) (prems_vars ps)
got_within [] k p e x i = cc
got_within (q ∷ ps) zero p e x i = let same : q ≡ p = cc in subst (λ z. Within (prem_vars z) (prems_vars (q ∷ ps))) same (within-left (prem_vars q) (prems_vars ps)) x i
got_within (q ∷ ps) (suc k) p e x i = within-right (prem_vars q) (prems_vars ps) x (got_within ps k p e x i)

number_within : (ps : List IlPrem) (k : ℕ) (o : Option IlPrem) → premise_at ps k ≡ o → Within (prems_vars (option_list o)) (prems_vars ps)
number_within ps k None e x i = cc
number_within ps zero (Some p) e x i = cc
number_within ps (suc k) (Some p) e x i = elim (within-cases (prem_vars p) [] x i) [ inl j ↦ got_within ps k p e x j | inr j ↦ cc ]

-- premises in an order have no other variables
pub order_within : (ps : List IlPrem) (order : List ℕ) → Within (prems_vars (in_order ps order)) (prems_vars ps)
order_within ps [] x i = cc
order_within ps (k ∷ ks) x i =
    elim (within-cases (prems_vars (option_list (premise_at ps k))) (prems_vars (in_order ps ks)) x (subst (λ z. has_name z x ≡ true) (prems_vars-append (option_list (premise_at ps k)) (in_order ps ks)) i)) [
      | inl j ↦ number_within ps k (premise_at ps k) refl x j
      | inr j ↦ order_within ps ks x j
    ]

-- what is bound behind some premises of a rule is listed
pub behind_listed : (il : Il) (rule : RuleDef) → CanBeRun il rule → (order : List ℕ) (before after : List IlPrem) → in_order rule.premises order ≡ before ++ after → all_known (listed_names rule.variables) (bound_behind (inputs_of_rule il rule) before) ≡ true
behind_listed il rule can order before after split =
    known_all (listed_names rule.variables) (bound_behind (inputs_of_rule il rule) before) (λ x i. known-within (listed_names rule.variables) (vars_of rule.conclusion ++ prems_vars rule.premises) can.listed x
    (elim (within-cases (vars_of (inputs_of_rule il rule)) (prems_vars before) x i) [
      | inl j ↦ within-left (vars_of rule.conclusion) (prems_vars rule.premises) x (vars_by (mask il rule.relation) rule.conclusion x j)
      | inr j ↦ within-right (vars_of rule.conclusion) (prems_vars rule.premises) x (order_within rule.premises order x
          (subst (λ z. has_name (prems_vars z) x ≡ true) (sym split) (subst (λ z. has_name z x ≡ true) (sym (prems_vars-append before after)) (within-left (prems_vars before) (prems_vars after) x j))))
    ]))

-- ---- children that stand for premises

module _ (il : Il) (n : ℕ) (root : Root) where
  stand_agree : (p : IlPrem) (cs : List Child) (a b : Env) → AgreeOn (prem_vars p) a b → StandFor il n root a p cs → StandFor il n root b p cs
  stand_agree p cs a b g stand = Proved-agree il (has_value_at il n) (value_by-local (syntaxes il) (CallAt il n)) (excluded_at il n) stand ((b, p) ∷ []) (refl, g, tt)

  pub AllStandFor-agree : (ps : List IlPrem) (css : List (List Child)) (a b : Env) → AgreeOn (prems_vars ps) a b → AllStandFor il n root a ps css → AllStandFor il n root b ps css
  AllStandFor-agree [] [] a b g all = tt
  AllStandFor-agree [] (cs ∷ css) a b g all = absurd all
  AllStandFor-agree (p ∷ ps) [] a b g all = absurd all
  AllStandFor-agree (p ∷ ps) (cs ∷ css) a b g all =
      (stand_agree p cs a b (agree-left (prem_vars p) (prems_vars ps) a b g) all.0, AllStandFor-agree ps css a b (agree-right (prem_vars p) (prems_vars ps) a b g) all.1)

  AllStandFor-last : (ps : List IlPrem) (css : List (List Child)) (env : Env) (p : IlPrem) (cs : List Child) → AllStandFor il n root env ps css → StandFor il n root env p cs → AllStandFor il n root env (ps ++ p ∷ []) (css ++ cs ∷ [])
  AllStandFor-last [] [] env p cs all one = (one, tt)
  AllStandFor-last [] (ds ∷ css) env p cs all one = absurd all
  AllStandFor-last (q ∷ ps) [] env p cs all one = absurd all
  AllStandFor-last (q ∷ ps) (ds ∷ css) env p cs all one = (all.0, AllStandFor-last ps css env p cs all.1 one)

  -- the premises hold
  pub all_hold : (ps : List IlPrem) (css : List (List Child)) (env : Env) → AllStandFor il n root env ps css → HoldAll (has_value il) (excluded il root) (derived il) (instances env ps)
  all_hold [] [] env all = h.done
  all_hold [] (cs ∷ css) env all = absurd all
  all_hold (p ∷ ps) [] env all = absurd all
  all_hold (p ∷ ps) (cs ∷ css) env all = h.more (hold_first (env, p) [] (Proved-holds il n all.0)).0 (all_hold ps css env all.1)

module _ (il : Il) (n : ℕ) (g : Goal) (number : ℕ) (rule : RuleDef) where
  -- one premise further
  pub partial_next : (before : List IlPrem) (p : IlPrem) (end : Partial) (x : Solution) → IsPartial il n g number rule before end
      → IsSolution il n (root_at g number) (bound_behind (inputs_of_rule il rule) before) rule.variables end.env p x
      → IsPartial il n g number rule (before ++ p ∷ []) (record { env = beside end.env x.env; children = end.children ++ x.children ∷ [] })
  partial_next before p end x partial s = record {
    variables = subst (λ z. HasOnly il rule.variables z (beside end.env x.env)) (behind_next (inputs_of_rule il rule) before p) s.variables;
    inputs_are = HaveValues-agree (has_value_at il n) (value_by-local (syntaxes il) (CallAt il n)) (inputs_of_rule il rule) g.inputs end.env (beside end.env x.env)
        (agree-left (vars_of (inputs_of_rule il rule)) (prems_vars before) end.env (beside end.env x.env) s.agrees) partial.inputs_are;
    stand = AllStandFor-last il n (root_at g number) before end.children (beside end.env x.env) p x.children
        (AllStandFor-agree il n (root_at g number) before end.children end.env (beside end.env x.env)
        (agree-right (vars_of (inputs_of_rule il rule)) (prems_vars before) end.env (beside end.env x.env) s.agrees) partial.stand) s.proved;
  }

  -- so far as the definitions say, in byte order
  pub partial_reached : CanBeRun il rule → (order : List ℕ) (before after : List IlPrem) → in_order rule.premises order ≡ before ++ after → (end : Partial) → IsPartial il n g number rule before end
      → Reached (at_goal il 0 g number) (listed_behind rule.variables (inputs_of_rule il rule) before) (inputs_of_rule il rule) g.inputs before (in_byte_order end.env)
  partial_reached can order before after split end partial = record {
    typed = some_ok il rule.variables (bound_behind (inputs_of_rule il rule) before) end.env can.once (behind_listed il rule can order before after split) partial.variables;
    heads_are = values_up il n (tasks (in_byte_order end.env) (inputs_of_rule il rule)) g.inputs
        (HaveValues-agree (has_value_at il n) (value_by-local (syntaxes il) (CallAt il n)) (inputs_of_rule il rule) g.inputs end.env (in_byte_order end.env) (λ x i. sym (in_order_value end.env x)) partial.inputs_are);
    hold = all_hold il n (root_at g number) before end.children (in_byte_order end.env)
        (AllStandFor-agree il n (root_at g number) before end.children end.env (in_byte_order end.env) (λ x i. sym (in_order_value end.env x)) partial.stand);
  }
