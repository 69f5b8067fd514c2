-- The steps of premises that can be run one after another can be taken so.
use Rattle.std.proofs.Common.{◌≡◌, refl, sym, ◌∙◌, ap, ap₂, subst, ℕ, zero, suc, List, [], ◌∷◌, ◌++◌, append_assoc, append-nil, Bool, true, false, not, ◌&&◌, Option, Some, None, is_some, slice_get}
use Rattle.std.specs.List.{list_all}
use Rattle.std.proofs.lemmas.List.Folds.{list_all-append}
use Rattle.st_il.specs.declared.definition.ClauseDef.{ClauseDef}
use Rattle.st_il.specs.declared.definition.Il.{Il}
use Rattle.st_il.specs.declared.expression.IlExp.{IlExp}
use Rattle.st_il.specs.declared.expression.IlPrem.{IlPrem}
use Rattle.st_il.specs.Names.{Name, has_name, all_known}
use Rattle.st_semantics.specs.Parts.{option_list}
use Rattle.st_semantics.specs.Variables.{vars, vars_of, prem_vars, prems_vars}
use Rattle.st_semantics.specs.Patterns.{is_pattern, bound_by}
use Rattle.st_semantics.specs.OpenParts.{is_doubly_open}
use Rattle.st_semantics.specs.Executable.{class_of}
use Rattle.st_semantics.specs.ModeRules.{keeps_m4, patterns_have_one_open}
use Rattle.st_semantics.specs.Orders.{is_input, are_inputs, are_all, inputs_of_rule, outputs_of_rule, premise_at, in_order, run_on}
use Rattle.st_semantics.proofs.Names.{Within, within-left, within-right, within-both, and-both, or-left}
use Rattle.st_semantics.proofs.CanRun.{known-wider}
use Rattle.st_semantics.proofs.Wider.{all-wider}
use Rattle.st_algo.specs.declared.algorithm.AlgoStep.{AlgoStep}
use Rattle.st_algo.specs.declared.algorithm.AlgoStep.TheOpen.{AlgoStep-F}
use Rattle.st_algo.specs.declared.algorithm.AlgoStep.TheVariants as step
use Rattle.st_algo.specs.Lowered.{step_of, steps_of, algorithm_of}
use Rattle.st_algo.specs.Taken.{Taking, taking_at, taking_of, step_vars, can_take_all}
use Rattle.st_algo.specs.Laws.{goal_fits, CanBeTaken, LawOfRules, LawOfClauses}
use Rattle.st_algo.proofs.Wider.{taking-level, can_wider}
use Rattle.st_algo.proofs.StepVariables.{Takes, prem_takes}

match_told : (ins : List IlExp) → taking_of (step.Match ins) ≡ taking_at (AlgoStep-F.Match ins)
match_told ins = taking-level (step.Match ins) (AlgoStep-F.Match ins) (step.outs-Match ins)

give_told : (outs : List IlExp) → taking_of (step.Give outs) ≡ taking_at (AlgoStep-F.Give outs)
give_told outs = taking-level (step.Give outs) (AlgoStep-F.Give outs) (step.outs-Give outs)

-- ---- premises that can be run

module _ (il : Il) (results : List IlExp) where
  runs_taken : (ps : List IlPrem) (bound now : List Name) → Within bound now → list_all (goal_fits il) ps ≡ true → run_on il bound ps (vars_of results) ≡ true
      → can_take_all now (steps_of il bound ps ++ step.Give results ∷ []) ≡ true
  runs_taken [] bound now w fits h =
      ap (λ z. z && true) (ap (λ (z : Taking). z.can now) (give_told results) ∙ known-wider bound now (vars_of results) w h)
  runs_taken (p ∷ ps) bound now w fits h =
      let fit = and-both (goal_fits il p) (list_all (goal_fits il) ps) fits in
      let runs = and-both (is_some (class_of il bound p)) (run_on il (bound ++ prem_vars p) ps (vars_of results)) h in
      let s : AlgoStep = step_of il bound p in
      let t : Takes bound (prem_vars p) (is_some (class_of il bound p)) s = prem_takes il p bound fit.0 in
      let wider : Within (bound ++ prem_vars p) (now ++ step_vars s) =
      within-both bound (prem_vars p) (now ++ step_vars s) (λ x k. within-left now (step_vars s) x (w x k)) (λ x k. within-right now (step_vars s) x (t.more x k)) in
      ap (λ z. z && can_take_all (now ++ step_vars s) (steps_of il (bound ++ prem_vars p) ps ++ step.Give results ∷ [])) (can_wider s bound now w (t.taken runs.0))
      ∙ runs_taken ps (bound ++ prem_vars p) (now ++ step_vars s) wider fit.1 runs.1

  pub algorithm_taken : (name : Name) (heads : List IlExp) (ps : List IlPrem) → are_inputs heads ≡ true → list_all (goal_fits il) ps ≡ true → run_on il (vars_of heads) ps (vars_of results) ≡ true
      → CanBeTaken (algorithm_of il name heads ps results)
  algorithm_taken name heads ps i fits h =
      ap (λ z. z && can_take_all (step_vars (step.Match heads)) (steps_of il (vars_of heads) ps ++ step.Give results ∷ [])) (ap (λ (z : Taking). z.can []) (match_told heads) ∙ i)
      ∙ runs_taken ps (vars_of heads) (step_vars (step.Match heads)) (λ x k. subst (λ z. has_name z x ≡ true) (sym (ap (λ (z : Taking). z.vars) (match_told heads))) k) fits h

-- ---- rules

all_get : {A : Type 0} (f : A → Bool) (xs : List A) (n : ℕ) (x : A) → list_all f xs ≡ true → slice_get xs n ≡ Some x → f x ≡ true
all_get f [] n x h e = cc
all_get f (y ∷ ys) zero x h e =
    let same : y ≡ x = cc in ap f (sym same) ∙ (and-both (f y) (list_all f ys) h).0
all_get f (y ∷ ys) (suc n) x h e = all_get f ys n x (and-both (f y) (list_all f ys) h).1 e

in_order_all : (f : IlPrem → Bool) (ps : List IlPrem) → list_all f ps ≡ true → (order : List ℕ) → list_all f (in_order ps order) ≡ true
in_order_all f ps h [] = refl
in_order_all f ps h (k ∷ ks) =
    list_all-append f (option_list (premise_at ps k)) (in_order ps ks) ∙ ap₂ (λ a b. a && b) (at k (premise_at ps k) refl) (in_order_all f ps h ks)
  where
    at : (k : ℕ) (o : Option IlPrem) → premise_at ps k ≡ o → list_all f (option_list o) ≡ true
    at k None e = refl
    at zero (Some p) e = cc
    at (suc n) (Some p) e = ap (λ z. z && true) (all_get f ps n p h e)

three : (a b c : Bool) → (a && b && c) ≡ true → (a ≡ true) × (b ≡ true) × (c ≡ true)
three true true true h = (refl, refl, refl)
three true true false h = cc
three true false c h = cc
three false b c h = cc

pub law_of_rules : LawOfRules
law_of_rules il rule order fits is =
    let parts = three (are_all rule.premises order) (are_inputs (inputs_of_rule il rule)) (run_on il (vars_of (inputs_of_rule il rule)) (in_order rule.premises order) (vars_of (outputs_of_rule il rule))) is in
    algorithm_taken il (outputs_of_rule il rule) rule.name (inputs_of_rule il rule) (in_order rule.premises order) parts.1 (in_order_all (goal_fits il) rule.premises fits order) parts.2

-- ---- clauses

-- what is known at the end may be asked for
asked_more : (il : Il) (ps : List IlPrem) (bound asked : List Name) → run_on il bound ps [] ≡ true → all_known (bound ++ prems_vars ps) asked ≡ true → run_on il bound ps asked ≡ true
asked_more il [] bound asked h k = ap (λ z. all_known z asked) (sym (append-nil bound)) ∙ k
asked_more il (p ∷ ps) bound asked h k =
    let runs = and-both (is_some (class_of il bound p)) (run_on il (bound ++ prem_vars p) ps []) h in
    ap₂ (λ a b. a && b) runs.0
    (asked_more il ps (bound ++ prem_vars p) asked runs.1 (ap (λ z. all_known z asked) (append_assoc bound (prem_vars p) (prems_vars ps)) ∙ k))

four : (a b c d : Bool) → (a && b && c && d) ≡ true → (a ≡ true) × (b ≡ true)
four true true c d h = (refl, refl)
four true false c d h = cc
four false b c d h = cc

args_are_inputs : (il : Il) (c : ClauseDef) → keeps_m4 il c ≡ true → are_inputs c.args ≡ true
args_are_inputs il c h =
    let parts = four (list_all is_pattern c.args) (all_known (bound_by c.args) (vars_of c.args)) (list_all (λ (e : IlExp). not (is_doubly_open e)) c.args) (patterns_have_one_open il (vars_of c.args) c.premises) h in
    ap₂ (λ a b. a && b) (all-wider is_pattern is_input (λ e k. or-left (is_pattern e) _ k) c.args parts.0) parts.1

pub law_of_clauses : LawOfClauses
law_of_clauses il c fits m3 m4 m6 =
    algorithm_taken il (c.result ∷ []) c.fun c.args c.premises (args_are_inputs il c m4) fits
    (asked_more il c.premises (vars_of c.args) (vars c.result ++ []) m3 (ap (all_known (vars_of c.args ++ prems_vars c.premises)) (append-nil (vars c.result)) ∙ m6))
