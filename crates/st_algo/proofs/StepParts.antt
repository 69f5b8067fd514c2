-- The step of a premise, by what the premise is.
use Rattle.std.proofs.Common.{◌≡◌, sym, ◌∙◌, ap, ap₂, true, false, if◌then◌else◌, List, rules}
use Rattle.st_il.specs.declared.definition.Il.{Il}
use Rattle.st_il.specs.declared.expression.IlExp.{IlExp, out-IlExp}
use Rattle.st_il.specs.declared.expression.IlExp.TheVariants as exp
use Rattle.st_il.specs.declared.expression.IlPrem.{IlPrem, the_lemmas}
use Rattle.st_il.specs.declared.expression.IlPrem.TheVariants as prem
use Rattle.st_il.specs.declared.expression.Iteration.{Iteration}
use Rattle.st_il.specs.Names.{Name, has_name, all_known, without}
use Rattle.st_semantics.specs.Directions.{inputs_of, outputs_of}
use Rattle.st_semantics.specs.Iterations.{index_of}
use Rattle.st_semantics.specs.Variables.{vars}
use Rattle.st_semantics.specs.Executable.{is_matched, bound_inside}
use Rattle.st_order.specs.inner.Classes.{others}
use Rattle.st_order.specs.inner.Index.{SameNames}
use Rattle.st_algo.specs.declared.algorithm.AlgoStep.{AlgoStep}
use Rattle.st_algo.specs.declared.algorithm.AlgoStep.TheVariants as step
use Rattle.st_algo.specs.Lowered.{step_of, step_of_sides, step_of_equation, step_of_condition, step_of_each}
use Rattle.st_algo.proofs.SameSteps.{lowering_of, lowering_vars, step_same}

module _ (il : Il) (bound : List Name) where
  if_level : (e : IlExp) → step_of il bound (prem.If e) ≡ step_of_condition bound e
  if_level e = search (rules, the_lemmas)

  goal_level : (relation : Name) (es : List IlExp) → step_of il bound (prem.Goal relation es) ≡ step.Goal relation (inputs_of il relation es) (outputs_of il relation es)
  goal_level relation es = search (rules, the_lemmas)

  otherwise_level : step_of il bound prem.Otherwise ≡ step.Otherwise
  otherwise_level = search (rules, the_lemmas)

  each_level : (how : Iteration) (xs : List Name) (body : IlPrem) → step_of il bound (prem.Each how xs body) ≡ step_of_each bound how xs (lowering_of il body)
  each_level how xs body = search (rules, the_lemmas)

  -- by what was read of a premise
  pub step_of_if : (p : IlPrem) (e : IlExp) (s : AlgoStep) → p ≡ prem.If e → s ≡ step_of_condition bound e → s ≡ step_of il bound p
  step_of_if p e s is k = k ∙ sym (ap (step_of il bound) is ∙ if_level e)

  pub step_of_goal : (p : IlPrem) (relation : Name) (es exps : List IlExp) (s : AlgoStep) → p ≡ prem.Goal relation es → exps ≡ es
      → s ≡ step.Goal relation (inputs_of il relation exps) (outputs_of il relation exps) → s ≡ step_of il bound p
  step_of_goal p relation es exps s is e k =
      k ∙ ap (λ z. step.Goal relation (inputs_of il relation z) (outputs_of il relation z)) e ∙ sym (ap (step_of il bound) is ∙ goal_level relation es)

  pub step_of_otherwise : (p : IlPrem) → p ≡ prem.Otherwise → step.Otherwise ≡ step_of il bound p
  step_of_otherwise p is = sym (ap (step_of il bound) is ∙ otherwise_level)

  -- a loop has the step of its inner premise, with what is bound inside
  each_parts : (how : Iteration) (xs : List Name) (body : IlPrem) → step_of il bound (prem.Each how xs body) ≡ step.Loop how xs (step_of il (bound_inside bound how xs (others how xs body)) body)
  each_parts how xs body =
      each_level how xs body
      ∙ ap (λ (vs : List Name). step.Loop how xs (step_of il (bound_inside bound how xs (without xs (without (index_of how) vs))) body)) (lowering_vars il body)

  pub step_of_loop : (p : IlPrem) (how : Iteration) (xs list : List Name) (body inner : IlPrem) (inside : List Name) (s whole : AlgoStep) → p ≡ prem.Each how xs body → list ≡ xs → inner ≡ body
      → SameNames inside (bound_inside bound how list (others how list inner)) → s ≡ step_of il inside inner → whole ≡ step.Loop how list s → whole ≡ step_of il bound p
  step_of_loop p how xs list body inner inside s whole is l b same k w =
      w ∙ ap (step.Loop how list) (k ∙ step_same il inner inside (bound_inside bound how list (others how list inner)) same)
      ∙ ap₂ (λ x y. step.Loop how x (step_of il (bound_inside bound how x (others how x y)) y)) l b ∙ sym (ap (step_of il bound) is ∙ each_parts how xs body)

-- ---- conditions

module _ (bound : List Name) where
  pub sides_left : (e left right : IlExp) → is_matched bound left right ≡ true → step.Let right left ≡ step_of_sides bound e left right
  sides_left e left right h = sym (ap (λ b. if b then step.Let right left else (if is_matched bound right left then step.Let left right else step.Test e)) h)

  pub sides_right : (e left right : IlExp) → is_matched bound left right ≡ false → is_matched bound right left ≡ true → step.Let left right ≡ step_of_sides bound e left right
  sides_right e left right h k =
      sym (ap₂ (λ a b. if a then step.Let right left else (if b then step.Let left right else step.Test e)) h k)

  pub sides_none : (e left right : IlExp) → is_matched bound left right ≡ false → is_matched bound right left ≡ false → step.Test e ≡ step_of_sides bound e left right
  sides_none e left right h k =
      sym (ap₂ (λ a b. if a then step.Let right left else (if b then step.Let left right else step.Test e)) h k)

  pub condition_bound : (e : IlExp) → all_known bound (vars e) ≡ true → step.Test e ≡ step_of_condition bound e
  condition_bound e h = sym (ap (λ b. if b then step.Test e else step_of_equation bound e (out-IlExp e)) h)

  condition_unbound : (e : IlExp) → all_known bound (vars e) ≡ false → step_of_condition bound e ≡ step_of_equation bound e (out-IlExp e)
  condition_unbound e h = ap (λ b. if b then step.Test e else step_of_equation bound e (out-IlExp e)) h

  pub condition_sides : (e left right x y : IlExp) (s : AlgoStep) → all_known bound (vars e) ≡ false → e ≡ exp.Eq left right → x ≡ left → y ≡ right → s ≡ step_of_sides bound e x y → s ≡ step_of_condition bound e
  condition_sides e left right x y s h is x_is y_is k =
      k ∙ ap₂ (step_of_sides bound e) x_is y_is
      ∙ sym (condition_unbound e h ∙ ap (step_of_equation bound e) (ap out-IlExp is ∙ exp.outs-Eq left right))

-- ---- what is bound inside, by what was read of an iteration

pub inside_read : (bound : List Name) (how : Iteration) (xs listed names : List Name) (body : IlPrem) (inside : List Name) → listed ≡ xs → names ≡ others how listed body
    → SameNames inside (bound_inside bound how listed names) → SameNames inside (bound_inside bound how xs (others how xs body))
inside_read bound how xs listed names body inside l n same q =
    same q ∙ ap₂ (λ x y. has_name (bound_inside bound how x y) q) l (n ∙ ap (λ z. others how z body) l)
