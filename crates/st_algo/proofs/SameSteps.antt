-- The step of a premise depends on which names are bound, and on no order of them.
use Rattle.std.proofs.Common.{◌≡◌, refl, sym, ◌∙◌, ap, ap₂, ◌&&◌, if◌then◌else◌, List, [], ◌∷◌, ◌++◌}
use Rattle.st_il.specs.declared.definition.Il.{Il}
use Rattle.st_il.specs.declared.expression.IlExp.{IlExp, out-IlExp}
use Rattle.st_il.specs.declared.expression.IlExp.TheOpen.{IlExp-F}
use Rattle.st_il.specs.declared.expression.IlPrem.{IlPrem, map-IlPrem, fold-IlPrem, out-IlPrem, fold_out-IlPrem, roll-IlPrem, out-roll-IlPrem}
use Rattle.st_il.specs.declared.expression.IlPrem.TheOpen.{IlPrem-F}
use Rattle.st_il.specs.declared.expression.Iteration.{Iteration}
use Rattle.st_il.specs.declared.expression.ListItem.{ListItem}
use Rattle.st_il.specs.declared.expression.PathSeg.{PathSeg}
use Rattle.st_il.specs.Names.{Name, has_name, without}
use Rattle.st_semantics.specs.Iterations.{count_of, index_of}
use Rattle.st_semantics.specs.Variables.{vars, vars_of, prem_vars, prem_vars_at}
use Rattle.st_semantics.specs.Patterns.{is_pattern, binds}
use Rattle.st_semantics.specs.Executable.{is_matched, bound_inside}
use Rattle.st_semantics.proofs.Names.{prem-level}
use Rattle.st_semantics.proofs.Wider.{Parts, prem-ind}
use Rattle.st_order.specs.inner.Index.{SameNames}
use Rattle.st_order.proofs.NamesIn.{SameNames-append}
use Rattle.st_order.proofs.SameNames.{known_same, among_same}
use Rattle.st_algo.specs.declared.algorithm.AlgoStep.TheVariants as step
use Rattle.st_algo.specs.Lowered.{Lowering, lowering_at, step_of, steps_of, step_of_sides, step_of_equation, step_of_condition}

-- ---- what is told of a premise, by its level

abbrev pub lowering_of : Il → IlPrem → Lowering
lowering_of il = fold-IlPrem Lowering (lowering_at il)

pub lowering-level : (il : Il) (p : IlPrem) (y : IlPrem-F IlPrem) → out-IlPrem p ≡ y → lowering_of il p ≡ lowering_at il (map-IlPrem IlPrem Lowering (lowering_of il) y)
lowering-level il p y is = fold_out-IlPrem Lowering (lowering_at il) p ∙ ap (λ z. lowering_at il (map-IlPrem IlPrem Lowering (lowering_of il) z)) is

pub step-level : (il : Il) (bound : List Name) (p : IlPrem) (y : IlPrem-F IlPrem) → out-IlPrem p ≡ y → step_of il bound p ≡ (lowering_at il (map-IlPrem IlPrem Lowering (lowering_of il) y)).lowered bound
step-level il bound p y is = ap (λ (z : Lowering). z.lowered bound) (lowering-level il p y is)

-- ---- the variables that are told with a step

abbrev HasVars : Il → IlPrem → Type 0
HasVars il p = (lowering_of il p).vars ≡ prem_vars p

level_vars : (il : Il) (y : IlPrem-F IlPrem) → Parts (HasVars il) y → (lowering_at il (map-IlPrem IlPrem Lowering (lowering_of il) y)).vars ≡ prem_vars_at (map-IlPrem IlPrem (List Name) prem_vars y)
level_vars il (IlPrem-F.If e) parts = refl
level_vars il (IlPrem-F.Goal relation es) parts = refl
level_vars il IlPrem-F.Otherwise parts = refl
level_vars il (IlPrem-F.Each how xs body) parts = ap (λ z. vars_of (count_of how) ++ xs ++ without (index_of how) z) parts

pub lowering_vars : (il : Il) (p : IlPrem) → (lowering_of il p).vars ≡ prem_vars p
lowering_vars il = prem-ind (HasVars il) (λ y parts.
    let is = out-roll-IlPrem y in
    ap (λ (z : Lowering). z.vars) (lowering-level il (roll-IlPrem y) y is) ∙ level_vars il y parts ∙ sym (prem-level (roll-IlPrem y) y is))

-- ---- the same names are bound

module _ (a b : List Name) (s : SameNames a b) where
  matched_same : (e g : IlExp) → is_matched a e g ≡ is_matched b e g
  matched_same e g =
      ap₂ (λ p q. p && is_pattern g && q) (known_same a b s (vars e)) (known_same (a ++ binds g) (b ++ binds g) (SameNames-append a b (binds g) s) (vars g))

  sides_same : (e left right : IlExp) → step_of_sides a e left right ≡ step_of_sides b e left right
  sides_same e left right =
      ap₂ (λ p q. if p then step.Let right left else (if q then step.Let left right else step.Test e)) (matched_same left right) (matched_same right left)

  equation_same : (e : IlExp) (y : IlExp-F IlExp Iteration ListItem PathSeg) → step_of_equation a e y ≡ step_of_equation b e y
  equation_same e (IlExp-F.Eq left right) = sides_same e left right
  equation_same e _ = refl

  condition_same : (e : IlExp) → step_of_condition a e ≡ step_of_condition b e
  condition_same e = ap₂ (λ p q. if p then step.Test e else q) (known_same a b s (vars e)) (equation_same e (out-IlExp e))

  inside_same : (how : Iteration) (xs others : List Name) → SameNames (bound_inside a how xs others) (bound_inside b how xs others)
  inside_same how xs others q = ap (λ z. has_name (z ++ others ++ index_of how) q) (among_same a b s xs)

abbrev IsSame : Il → IlPrem → Type 0
IsSame il p = (a b : List Name) → SameNames a b → step_of il a p ≡ step_of il b p

level_same : (il : Il) (y : IlPrem-F IlPrem) → Parts (IsSame il) y → (a b : List Name) → SameNames a b
    → (lowering_at il (map-IlPrem IlPrem Lowering (lowering_of il) y)).lowered a ≡ (lowering_at il (map-IlPrem IlPrem Lowering (lowering_of il) y)).lowered b
level_same il (IlPrem-F.If e) parts a b s = condition_same a b s e
level_same il (IlPrem-F.Goal relation es) parts a b s = refl
level_same il IlPrem-F.Otherwise parts a b s = refl
level_same il (IlPrem-F.Each how xs body) parts a b s =
    let others : List Name = without xs (without (index_of how) (lowering_of il body).vars) in
    ap (step.Loop how xs) (parts (bound_inside a how xs others) (bound_inside b how xs others) (inside_same a b s how xs others))

pub step_same : (il : Il) (p : IlPrem) (a b : List Name) → SameNames a b → step_of il a p ≡ step_of il b p
step_same il = prem-ind (IsSame il) (λ y parts a b s.
    let is = out-roll-IlPrem y in
    step-level il a (roll-IlPrem y) y is ∙ level_same il y parts a b s ∙ sym (step-level il b (roll-IlPrem y) y is))

pub steps_same : (il : Il) (ps : List IlPrem) (a b : List Name) → SameNames a b → steps_of il a ps ≡ steps_of il b ps
steps_same il [] a b s = refl
steps_same il (p ∷ ps) a b s =
    ap₂ (λ x y. x ∷ y) (step_same il p a b s) (steps_same il ps (a ++ prem_vars p) (b ++ prem_vars p) (SameNames-append a b (prem_vars p) s))
