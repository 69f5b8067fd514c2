-- The class of a premise depends on which names are bound, and on no order of them.
use Rattle.std.proofs.Common.{◌≡◌, refl, sym, ◌∙◌, ap, ap₂, ◌&&◌, ◌||◌, if◌then◌else◌, List, ◌++◌, Some, None}
use Rattle.std.specs.List.{list_all}
use Rattle.st_il.specs.declared.definition.Il.{Il}
use Rattle.st_il.specs.declared.expression.IlExp.{IlExp, out-IlExp}
use Rattle.st_il.specs.declared.expression.IlExp.TheOpen.{IlExp-F}
use Rattle.st_il.specs.declared.expression.IlPrem.{IlPrem, map-IlPrem, roll-IlPrem, out-roll-IlPrem}
use Rattle.st_il.specs.declared.expression.IlPrem.TheOpen.{IlPrem-F}
use Rattle.st_il.specs.declared.expression.Iteration.{Iteration}
use Rattle.st_il.specs.declared.expression.ListItem.{ListItem}
use Rattle.st_il.specs.declared.expression.PathSeg.{PathSeg}
use Rattle.st_il.specs.Names.{Name, has_name, all_known, without}
use Rattle.st_semantics.specs.Directions.{inputs_by, outputs_by, mask}
use Rattle.st_semantics.specs.Iterations.{count_of, index_of}
use Rattle.st_semantics.specs.Variables.{vars, vars_of, prem_vars, prem_vars_at}
use Rattle.st_semantics.specs.Patterns.{is_pattern, binds, bound_by}
use Rattle.st_semantics.specs.Executable as run
use Rattle.st_semantics.specs.Executable.{Class, Test, Equation, Judgement, class_of, class_of_condition, class_of_equation, class_of_sides, is_matched, is_met, class_of_goal, class_of_each, is_anchored, is_countable, is_variable_at, bound_inside, runs_at}
use Rattle.st_semantics.proofs.Names.{prem-level}
use Rattle.st_semantics.proofs.CanRun.{runs_of, runs-level, class-level}
use Rattle.st_semantics.proofs.Wider.{Parts, prem-ind}
use Rattle.st_order.specs.inner.Index.{SameNames}
use Rattle.st_order.proofs.NamesIn.{SameNames-append}
use Rattle.st_order.proofs.SameNames.{SameNames-behind, known_same, among_same, all_same, any_same}

module _ (a b : List Name) (s : SameNames a b) where
  known : (xs : List Name) → all_known a xs ≡ all_known b xs
  known = known_same a b s

  known_with : (more xs : List Name) → all_known (a ++ more) xs ≡ all_known (b ++ more) xs
  known_with more = known_same (a ++ more) (b ++ more) (SameNames-append a b more s)

  matched_same : (e g : IlExp) → is_matched a e g ≡ is_matched b e g
  matched_same e g = ap₂ (λ p q. p && is_pattern g && q) (known (vars e)) (known_with (binds g) (vars g))

  sides_same : (e g : IlExp) → class_of_sides a e g ≡ class_of_sides b e g
  sides_same e g = ap₂ (λ p q. if p then Some (Equation g) else if q then Some (Equation e) else None) (matched_same e g) (matched_same g e)

  equation_same : (y : IlExp-F IlExp Iteration ListItem PathSeg) → class_of_equation a y ≡ class_of_equation b y
  equation_same (IlExp-F.Eq e g) = sides_same e g
  equation_same _ = refl

  condition_same : (e : IlExp) → class_of_condition a e ≡ class_of_condition b e
  condition_same e = ap₂ (λ p q. if p then Some Test else q) (known (vars e)) (equation_same (out-IlExp e))

  met_same : (more : List Name) (e : IlExp) → is_met a (a ++ more) e ≡ is_met b (b ++ more) e
  met_same more e = ap₂ (λ p q. p || is_pattern e && q) (known (vars e)) (known_with more (vars e))

  goal_same : (ins outs : List IlExp) → class_of_goal a ins outs ≡ class_of_goal b ins outs
  goal_same ins outs =
      ap₂ (λ p q. if p && q then Some Judgement else None) (known (vars_of ins))
      (all_same (is_met a (a ++ bound_by outs)) (is_met b (b ++ bound_by outs)) (met_same (bound_by outs)) outs)

  countable_same : (e : IlExp) → is_countable a e ≡ is_countable b e
  countable_same e = ap (λ p. p || is_variable_at (out-IlExp e)) (known (vars e))

  anchored_same : (how : Iteration) (xs : List Name) → is_anchored a how xs ≡ is_anchored b how xs
  anchored_same how xs =
      ap₂ (λ p q. p || q) (any_same (has_name a) (has_name b) s xs)
      (any_same (λ (e : IlExp). all_known a (vars e)) (λ (e : IlExp). all_known b (vars e)) (λ e. known (vars e)) (count_of how))

  inside_same : (how : Iteration) (xs others : List Name) → SameNames (bound_inside a how xs others) (bound_inside b how xs others)
  inside_same how xs others q = ap (λ z. has_name (z ++ others ++ index_of how) q) (among_same a b s xs)

-- the class is the same where the same names are bound
abbrev IsSame : Il → IlPrem → Type 0
IsSame il p = (a b : List Name) → SameNames a b → class_of il a p ≡ class_of il b p

level_same : (il : Il) (y : IlPrem-F IlPrem) → Parts (IsSame il) y → (a b : List Name) → SameNames a b
    → (runs_at il (map-IlPrem IlPrem run.Runs (runs_of il) y)).class a ≡ (runs_at il (map-IlPrem IlPrem run.Runs (runs_of il) y)).class b
level_same il (IlPrem-F.If e) parts a b s = condition_same a b s e
level_same il (IlPrem-F.Goal relation es) parts a b s = goal_same a b s (inputs_by (mask il relation) es) (outputs_by (mask il relation) es)
level_same il IlPrem-F.Otherwise parts a b s = refl
level_same il (IlPrem-F.Each how xs body) parts a b s =
    let others : List Name = without xs (without (index_of how) (runs_of il body).vars) in
    ap₂ (λ p q. if p then q else None)
    (ap₂ (λ p q. p && q) (ap₂ (λ p q. p && q) (anchored_same a b s how xs) (all_same (is_countable a) (is_countable b) (countable_same a b s) (count_of how))) (known_same a b s others))
    (parts (bound_inside a how xs others) (bound_inside b how xs others) (inside_same a b s how xs others))

pub class_same : (il : Il) (p : IlPrem) (a b : List Name) → SameNames a b → class_of il a p ≡ class_of il b p
class_same il = prem-ind (IsSame il) (λ y parts a b s.
    let is = out-roll-IlPrem y in
    class-level il a (roll-IlPrem y) y is ∙ level_same il y parts a b s ∙ sym (class-level il b (roll-IlPrem y) y is))

-- ---- the variables that are told with a class

abbrev HasVars : Il → IlPrem → Type 0
HasVars il p = (runs_of il p).vars ≡ prem_vars p

level_vars : (il : Il) (y : IlPrem-F IlPrem) → Parts (HasVars il) y → (runs_at il (map-IlPrem IlPrem run.Runs (runs_of il) y)).vars ≡ prem_vars_at (map-IlPrem IlPrem (List Name) prem_vars y)
level_vars il (IlPrem-F.If e) parts = refl
level_vars il (IlPrem-F.Goal relation es) parts = refl
level_vars il IlPrem-F.Otherwise parts = refl
level_vars il (IlPrem-F.Each how xs body) parts = ap (λ z. vars_of (count_of how) ++ xs ++ without (index_of how) z) parts

pub runs_vars : (il : Il) (p : IlPrem) → (runs_of il p).vars ≡ prem_vars p
runs_vars il = prem-ind (HasVars il) (λ y parts.
    let is = out-roll-IlPrem y in
    ap (λ (z : run.Runs). z.vars) (runs-level il (roll-IlPrem y) y is) ∙ level_vars il y parts ∙ sym (prem-level (roll-IlPrem y) y is))

-- ---- outputs, where the same names are bound by them

met_with : (bound more others : List Name) → SameNames more others → (e : IlExp) → is_met bound (bound ++ more) e ≡ is_met bound (bound ++ others) e
met_with bound more others s e =
    ap (λ q. all_known bound (vars e) || is_pattern e && q) (known_same (bound ++ more) (bound ++ others) (SameNames-behind bound more others s) (vars e))

pub outputs_same : (bound more others : List Name) → SameNames more others → (outs : List IlExp)
    → list_all (is_met bound (bound ++ more)) outs ≡ list_all (is_met bound (bound ++ others)) outs
outputs_same bound more others s outs = all_same (is_met bound (bound ++ more)) (is_met bound (bound ++ others)) (met_with bound more others s) outs
