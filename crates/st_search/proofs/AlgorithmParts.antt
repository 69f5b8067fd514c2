-- The parts of the algorithm of a rule.
use Rattle.std.proofs.Common.{◌≡◌, refl, sym, ◌∙◌, ap, ℕ, List, [], ◌∷◌, ◌++◌}
use Rattle.st_il.specs.declared.definition.Il.{Il}
use Rattle.st_il.specs.declared.definition.RuleDef.{RuleDef}
use Rattle.st_il.specs.declared.expression.IlExp.{IlExp}
use Rattle.st_il.specs.Names.{Name}
use Rattle.st_semantics.specs.Orders.{inputs_of_rule, outputs_of_rule, in_order}
use Rattle.st_semantics.specs.Variables.{vars_of}
use Rattle.st_algo.specs.declared.algorithm.AlgoStep.{AlgoStep, out-AlgoStep}
use Rattle.st_algo.specs.declared.algorithm.AlgoStep.TheOpen.{AlgoStep-F}
use Rattle.st_algo.specs.declared.algorithm.AlgoStep.TheVariants as step
use Rattle.st_algo.specs.declared.algorithm.Algorithm.{Algorithm}
use Rattle.st_algo.specs.Lowered.{steps_of}
use Rattle.st_search.specs.inner.Rules.{IsRuledBy}

-- ---- a last element

last_same : {A : Type 0} (xs ys : List A) (x y : A) → xs ++ x ∷ [] ≡ ys ++ y ∷ [] → (xs ≡ ys) × (x ≡ y)
last_same [] [] x y e = let same : x ≡ y = cc in (refl, same)
last_same [] (b ∷ []) x y e = cc
last_same [] (b ∷ d ∷ ys) x y e = cc
last_same (a ∷ []) [] x y e = cc
last_same (a ∷ d ∷ xs) [] x y e = cc
last_same (a ∷ xs) (b ∷ ys) x y e =
    let rest : xs ++ x ∷ [] ≡ ys ++ y ∷ [] = cc in
    let first : a ≡ b = cc in
    let w = last_same xs ys x y rest in
    (ap (λ z. z ∷ xs) first ∙ ap (λ z. b ∷ z) w.0, w.1)

match_same : (xs ys : List IlExp) → step.Match xs ≡ step.Match ys → xs ≡ ys
match_same xs ys e = let out : AlgoStep-F.Match xs ≡ AlgoStep-F.Match ys = sym (step.outs-Match xs) ∙ (ap out-AlgoStep e ∙ step.outs-Match ys) in cc

give_same : (xs ys : List IlExp) → step.Give xs ≡ step.Give ys → xs ≡ ys
give_same xs ys e = let out : AlgoStep-F.Give xs ≡ AlgoStep-F.Give ys = sym (step.outs-Give xs) ∙ (ap out-AlgoStep e ∙ step.outs-Give ys) in cc

-- one algorithm has the same parts
parts_same : (ins heads : List IlExp) (steps others : List AlgoStep) (outs results : List IlExp) → step.Match ins ∷ (steps ++ step.Give outs ∷ []) ≡ step.Match heads ∷ (others ++ step.Give results ∷ []) → (ins ≡ heads) × (steps ≡ others) × (outs ≡ results)
parts_same ins heads steps others outs results e =
    let first : step.Match ins ≡ step.Match heads = cc in
    let rest : steps ++ step.Give outs ∷ [] ≡ others ++ step.Give results ∷ [] = cc in
    let w = last_same steps others (step.Give outs) (step.Give results) rest in
    (match_same ins heads first, w.0, give_same outs results w.1)

module _ (il : Il) (relation : Name) (number : ℕ) (rule : RuleDef) (algorithm : Algorithm) (ruled : IsRuledBy il relation number rule algorithm) where
  steps_are : algorithm.steps ≡ step.Match (inputs_of_rule il rule) ∷ (steps_of il (vars_of (inputs_of_rule il rule)) (in_order rule.premises ruled.order) ++ step.Give (outputs_of_rule il rule) ∷ [])
  steps_are = ap (λ (z : Algorithm). z.steps) ruled.lowered

  -- it is one of a rule
  pub no_other : ((ins outs : List IlExp) (steps : List AlgoStep) → algorithm.steps ≡ step.Match ins ∷ (steps ++ step.Give outs ∷ []) → ⊥) → ⊥
  no_other never = never (inputs_of_rule il rule) (outputs_of_rule il rule) (steps_of il (vars_of (inputs_of_rule il rule)) (in_order rule.premises ruled.order)) steps_are

  -- its parts are those of the rule in its order
  pub parts_are : (ins outs : List IlExp) (steps : List AlgoStep) → algorithm.steps ≡ step.Match ins ∷ (steps ++ step.Give outs ∷ [])
      → (ins ≡ inputs_of_rule il rule) × (steps ≡ steps_of il (vars_of (inputs_of_rule il rule)) (in_order rule.premises ruled.order)) × (outs ≡ outputs_of_rule il rule)
  parts_are ins outs steps e = parts_same ins (inputs_of_rule il rule) steps (steps_of il (vars_of (inputs_of_rule il rule)) (in_order rule.premises ruled.order)) outs (outputs_of_rule il rule) (sym e ∙ steps_are)
