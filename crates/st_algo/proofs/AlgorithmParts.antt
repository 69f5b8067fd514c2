-- The steps of premises, one after another, and those of a whole algorithm.
use Rattle.std.proofs.Common.{◌≡◌, sym, ◌∙◌, ap, ap₂, ℕ, ◌+◌, ◌<◌, Bool, true, false, List, [], ◌∷◌, ◌++◌, append_assoc, length, get_or, drop}
use Rattle.std.specs.Borrow.{Bor}
use Rattle.st_il.specs.declared.definition.ClauseDef.{ClauseDef}
use Rattle.st_il.specs.declared.definition.Il.{Il}
use Rattle.st_il.specs.declared.definition.RuleDef.{RuleDef}
use Rattle.st_il.specs.declared.expression.IlExp.{IlExp}
use Rattle.st_il.specs.declared.expression.IlPrem.{IlPrem}
use Rattle.st_il.specs.Names.{Name}
use Rattle.st_semantics.specs.Directions.{mask, inputs_by, outputs_by}
use Rattle.st_semantics.specs.Orders.{inputs_of_rule, in_order}
use Rattle.st_semantics.specs.Variables.{vars_of, prem_vars}
use Rattle.st_order.specs.inner.HolesOf.{at_holes}
use Rattle.st_order.specs.inner.Index.{SameNames}
use Rattle.st_order.specs.inner.Parts.{exps_in}
use Rattle.st_order.specs.Known.{all_now}
use Rattle.st_semantics.proofs.HoleSums.{drop_there}
use Rattle.st_algo.specs.declared.algorithm.AlgoStep.{AlgoStep}
use Rattle.st_algo.specs.declared.algorithm.AlgoStep.TheVariants as step
use Rattle.st_algo.specs.declared.algorithm.Algorithm.{Algorithm}
use Rattle.st_algo.specs.Lowered.{step_of, steps_of, algorithm_of, rule_algorithm, clause_algorithm}
use Rattle.st_algo.proofs.SameSteps.{steps_same}

module _ (il : Il) where
  -- one more premise is lowered, and its variables are bound
  pub steps_next : (ps : List (Bor IlPrem)) (i : ℕ) (p : Bor IlPrem) (old now : List Name) (steps new whole : List AlgoStep) (s : AlgoStep) → i < length ps → p ≡ get_or ps i p
      → s ≡ step_of il old p.now → new ≡ steps ++ s ∷ [] → SameNames now (old ++ prem_vars p.now)
      → steps ++ steps_of il old (all_now (drop i ps)) ≡ whole → new ++ steps_of il now (all_now (drop (i + 1) ps)) ≡ whole
  steps_next ps i p old now steps new whole s h e s_is n same inv =
      let more : List AlgoStep = steps_of il (old ++ prem_vars p.now) (all_now (drop (i + 1) ps)) in
      ap₂ (λ a b. a ++ b) (n ∙ ap (λ z. steps ++ z ∷ []) s_is) (steps_same il (all_now (drop (i + 1) ps)) now (old ++ prem_vars p.now) same)
      ∙ append_assoc steps (step_of il old p.now ∷ []) more ∙ ap (λ z. steps ++ steps_of il old (all_now z)) (sym (drop_there ps i p h e)) ∙ inv

  -- the match of the heads, the steps of the premises, and what is given
  steps_made : (set : List Name) (heads h results r : List IlExp) (ps : List IlPrem) (none one more all : List AlgoStep) → SameNames set (vars_of heads) → h ≡ heads → r ≡ results → none ≡ []
      → one ≡ none ++ step.Match h ∷ [] → more ≡ one ++ steps_of il set ps → all ≡ more ++ step.Give r ∷ []
      → all ≡ step.Match heads ∷ (steps_of il (vars_of heads) ps ++ step.Give results ∷ [])
  steps_made set heads h results r ps none one more all same h_is r_is empty o m a =
      a ∙ ap₂ (λ x y. x ++ step.Give y ∷ [])
      (m ∙ ap₂ (λ x y. x ++ y) (o ∙ ap₂ (λ x y. x ++ step.Match y ∷ []) empty h_is) (steps_same il ps set (vars_of heads) same)) r_is

  abbrev pub with_steps : Name → List AlgoStep → Algorithm
  with_steps name steps = record { name = name; steps = steps }

  pub algorithm_made : (name n : Name) (set : List Name) (heads h results r : List IlExp) (ps : List IlPrem) (none one more all : List AlgoStep) → n ≡ name → SameNames set (vars_of heads) → h ≡ heads
      → r ≡ results → none ≡ [] → one ≡ none ++ step.Match h ∷ [] → more ≡ one ++ steps_of il set ps → all ≡ more ++ step.Give r ∷ []
      → with_steps n all ≡ algorithm_of il name heads ps results
  algorithm_made name n set heads h results r ps none one more all n_is same h_is r_is empty o m a =
      ap₂ with_steps n_is (steps_made set heads h results r ps none one more all same h_is r_is empty o m a)

-- ---- by what was read of a rule or a clause

module _ (il : Il) where
  pub rule_read : (rule : RuleDef) (order : List ℕ) (a : Algorithm) (inputs : List Bool) (conclusion heads results : List IlExp) (written ps : List IlPrem) → a ≡ algorithm_of il rule.name heads ps results
      → heads ≡ at_holes true inputs conclusion → results ≡ at_holes false inputs conclusion → ps ≡ in_order written order → inputs ≡ mask il rule.relation → conclusion ≡ rule.conclusion → written ≡ rule.premises
      → a ≡ rule_algorithm il rule order
  rule_read rule order a inputs conclusion heads results written ps is h r p i c w =
      is ∙ ap₂ (λ x y. algorithm_of il rule.name x y results) (h ∙ ap₂ (λ m z. inputs_by m z) i c) (p ∙ ap (λ z. in_order z order) w)
      ∙ ap (algorithm_of il rule.name (inputs_of_rule il rule) (in_order rule.premises order)) (r ∙ ap₂ (λ m z. outputs_by m z) i c)

  pub clause_read : (c : ClauseDef) (a : Algorithm) (args heads results : List IlExp) (written ps : List IlPrem) → a ≡ algorithm_of il c.fun heads ps results
      → heads ≡ args → args ≡ c.args → results ≡ c.result ∷ [] → ps ≡ written → written ≡ c.premises → a ≡ clause_algorithm il c
  clause_read c a args heads results written ps is h g r p w =
      is ∙ ap₂ (λ x y. algorithm_of il c.fun x y results) (h ∙ g) (p ∙ w) ∙ ap (algorithm_of il c.fun c.args c.premises) r

-- one expression that was added to none, read as a slice
pub one_pushed : (none row slice : List (Bor IlExp)) (e : Bor IlExp) → none ≡ [] → row ≡ none ++ e ∷ [] → slice ≡ row → exps_in slice ≡ e.now ∷ []
one_pushed none row slice e empty r s = ap exps_in (s ∙ r ∙ ap (λ z. z ++ e ∷ []) empty)
