-- The step of a premise has the variables of the premise, and can be taken where the premise can be
-- run.
use Rattle.std.proofs.Common.{◌≡◌, refl, sym, ◌∙◌, ap, ap₂, subst, List, [], ◌∷◌, ◌++◌, length, map, ◌⊎◌, inl, inr, Bool, true, false, not, ◌&&◌, if◌then◌else◌, Option, Some, None, is_some, nat_eq, bytes_eq, arith}
use Rattle.std.specs.List.{list_all}
use Rattle.std.proofs.lemmas.Bool.{eqb-true}
use Rattle.st_il.specs.declared.definition.Il.{Il}
use Rattle.st_il.specs.declared.expression.IlExp.{IlExp, out-IlExp, fold_out-IlExp, map-IlExp}
use Rattle.st_il.specs.declared.expression.IlExp.TheOpen.{IlExp-F}
use Rattle.st_il.specs.declared.expression.IlPrem.{IlPrem, map-IlPrem, fold_out-IlPrem, out-IlPrem, roll-IlPrem, out-roll-IlPrem}
use Rattle.st_il.specs.declared.expression.IlPrem.TheOpen.{IlPrem-F}
use Rattle.st_il.specs.declared.expression.Iteration.{Iteration}
use Rattle.st_il.specs.declared.expression.ListItem.{ListItem}
use Rattle.st_il.specs.declared.expression.PathSeg.{PathSeg}
use Rattle.st_il.specs.Names.{Name, has_name, all_known, without}
use Rattle.st_semantics.specs.Directions.{mask, inputs_by, outputs_by}
use Rattle.st_semantics.specs.Iterations.{count_of, index_of}
use Rattle.st_semantics.specs.Operands.{item_at, segment_at}
use Rattle.st_semantics.specs.Variables.{Counted, counted_at, vars_at, vars, vars_of, prem_vars, prem_vars_at}
use Rattle.st_semantics.specs.Patterns.{bound_by}
use Rattle.st_semantics.specs.Executable as run
use Rattle.st_semantics.specs.Executable.{Class, Test, Equation, Judgement, class_of, class_of_condition, class_of_equation, class_of_goal, is_matched, is_met, is_anchored, is_countable, bound_inside, runs_at}
use Rattle.st_semantics.proofs.Names.{Within, within-left, within-right, within-cases, within-both, no_names, bytes-same, bytes-path, or-left, or-right, or-cases, known-within, without-other, prem-level}
use Rattle.st_semantics.proofs.CanRun.{runs_of, class-level, inside-within}
use Rattle.st_semantics.proofs.Wider.{Parts, prem-ind}
use Rattle.st_order.specs.inner.Parts.{counted, item_vars, segment_vars}
use Rattle.st_order.proofs.SameClass.{runs_vars}
use Rattle.st_algo.specs.declared.algorithm.AlgoStep.{AlgoStep}
use Rattle.st_algo.specs.declared.algorithm.AlgoStep.TheOpen.{AlgoStep-F}
use Rattle.st_algo.specs.declared.algorithm.AlgoStep.TheVariants as step
use Rattle.st_algo.specs.Lowered.{Lowering, lowering_at, step_of, step_of_equation, step_of_condition}
use Rattle.st_algo.specs.Taken.{Taking, taking_at, taking_of, step_vars, can_take}
use Rattle.st_algo.specs.Laws.{goal_fits, goal_fits_at}
use Rattle.st_algo.proofs.SameSteps.{lowering_of, lowering_vars, step-level}
use Rattle.st_algo.proofs.Wider.{taking-level, can_wider}

-- ---- names that are within others

not_true : (a : Bool) → not a ≡ true → a ≡ false
not_true true e = cc
not_true false e = refl

kept_name : (x y : Name) (rest : List Name) (c : Bool) → has_name (if c then y ∷ rest else rest) x ≡ true → ((bytes_eq x y ≡ true) × (c ≡ true)) ⊎ (has_name rest x ≡ true)
kept_name x y rest true h = elim (or-cases (bytes_eq x y) (has_name rest x) h) [ inl e ↦ inl (e, refl) | inr later ↦ inr later ]
kept_name x y rest false h = inr h

without_parts : (some xs : List Name) (x : Name) → has_name (without some xs) x ≡ true → (has_name some x ≡ false) × (has_name xs x ≡ true)
without_parts some [] x h = cc
without_parts some (y ∷ ys) x h = elim (kept_name x y (without some ys) (not (has_name some y)) h) [
  | inl k ↦ (not_true (has_name some x) (subst (λ z. not (has_name some z) ≡ true) (sym (bytes-path x y k.0)) k.1), or-left (bytes_eq x y) (has_name ys x) k.0)
  | inr later ↦ (let b = without_parts some ys x later in (b.0, or-right (bytes_eq x y) (has_name ys x) b.1))
]

without_within : (some xs ys : List Name) → Within xs ys → Within (without some xs) (without some ys)
without_within some xs ys w x h = let b = without_parts some xs x h in without-other some ys x b.0 (w x b.1)

-- what is within known names is known
known_less : (bound xs ys : List Name) → Within xs ys → all_known bound ys ≡ true → all_known bound xs ≡ true
known_less bound [] ys w k = refl
known_less bound (x ∷ xs) ys w k =
    ap₂ (λ a b. a && b) (known-within bound ys k x (w x (or-left (bytes_eq x x) (has_name xs x) (bytes-same x))))
    (known_less bound xs ys (λ z h. w z (or-right (bytes_eq z x) (has_name xs z) h)) k)

last_within : (front xs ys bs : List Name) → Within ys bs → Within (front ++ xs ++ ys) (front ++ xs ++ bs)
last_within front xs ys bs w =
    within-both (front ++ xs) ys (front ++ xs ++ bs) (within-left (front ++ xs) bs) (λ x h. within-right (front ++ xs) bs x (w x h))

same_within : (xs ys : List Name) → xs ≡ ys → Within xs ys
same_within xs ys e x h = subst (λ z. has_name z x ≡ true) e h

-- ---- the inputs and outputs of a goal

inputs_within : (inputs : List Bool) (es : List IlExp) → Within (vars_of (inputs_by inputs es)) (vars_of es)
inputs_within [] es x h = cc
inputs_within (b ∷ bs) [] x h = cc
inputs_within (true ∷ bs) (e ∷ es) x h = elim (within-cases (vars e) (vars_of (inputs_by bs es)) x h) [
  | inl a ↦ within-left (vars e) (vars_of es) x a
  | inr a ↦ within-right (vars e) (vars_of es) x (inputs_within bs es x a)
]
inputs_within (false ∷ bs) (e ∷ es) x h = within-right (vars e) (vars_of es) x (inputs_within bs es x h)

all_within : (inputs : List Bool) (es : List IlExp) → length es ≡ length inputs → Within (vars_of es) (vars_of (inputs_by inputs es) ++ vars_of (outputs_by inputs es))
all_within [] [] l x h = cc
all_within [] (e ∷ es) l x h = absurd (omega (arith, l))
all_within (b ∷ bs) [] l x h = cc
all_within (true ∷ bs) (e ∷ es) l x h =
    let ins : List Name = vars_of (inputs_by bs es) in
    let outs : List Name = vars_of (outputs_by bs es) in
    elim (within-cases (vars e) (vars_of es) x h) [
      | inl a ↦ within-left (vars e ++ ins) outs x (within-left (vars e) ins x a)
      | inr a ↦ elim (within-cases ins outs x (all_within bs es (omega (arith, l)) x a)) [
        | inl i ↦ within-left (vars e ++ ins) outs x (within-right (vars e) ins x i)
        | inr o ↦ within-right (vars e ++ ins) outs x o
      ]
    ]
all_within (false ∷ bs) (e ∷ es) l x h =
    let ins : List Name = vars_of (inputs_by bs es) in
    let outs : List Name = vars_of (outputs_by bs es) in
    elim (within-cases (vars e) (vars_of es) x h) [
      | inl a ↦ within-right ins (vars e ++ outs) x (within-left (vars e) outs x a)
      | inr a ↦ elim (within-cases ins outs x (all_within bs es (omega (arith, l)) x a)) [
        | inl i ↦ within-left ins (vars e ++ outs) x i
        | inr o ↦ within-right ins (vars e ++ outs) x (within-right (vars e) outs x o)
      ]
    ]

-- ---- a step has these variables, and can be taken where this holds

pub record Takes (bound vs : List Name) (runs : Bool) (s : AlgoStep) : Type 0 where
  pub fewer : Within (step_vars s) vs
  pub more : Within vs (step_vars s)
  pub taken : runs ≡ true → can_take bound s ≡ true

takes_as : (bound vs ws : List Name) (r t : Bool) (s u : AlgoStep) → vs ≡ ws → r ≡ t → s ≡ u → Takes bound ws t u → Takes bound vs r s
takes_as bound vs ws r t s u v_is r_is s_is h =
    subst (λ z. Takes bound z r s) (sym v_is) (subst (λ z. Takes bound ws z s) (sym r_is) (subst (λ z. Takes bound ws t z) (sym s_is) h))

test_told : (e : IlExp) → taking_of (step.Test e) ≡ taking_at (AlgoStep-F.Test e)
test_told e = taking-level (step.Test e) (AlgoStep-F.Test e) (step.outs-Test e)

let_told : (p e : IlExp) → taking_of (step.Let p e) ≡ taking_at (AlgoStep-F.Let p e)
let_told p e = taking-level (step.Let p e) (AlgoStep-F.Let p e) (step.outs-Let p e)

goal_told : (relation : Name) (ins outs : List IlExp) → taking_of (step.Goal relation ins outs) ≡ taking_at (AlgoStep-F.Goal relation ins outs)
goal_told relation ins outs = taking-level (step.Goal relation ins outs) (AlgoStep-F.Goal relation ins outs) (step.outs-Goal relation ins outs)

loop_told : (how : Iteration) (xs : List Name) (s : AlgoStep) → taking_of (step.Loop how xs s) ≡ taking_at (AlgoStep-F.Loop how xs (taking_of s))
loop_told how xs s = taking-level (step.Loop how xs s) (AlgoStep-F.Loop how xs s) (step.outs-Loop how xs s)

otherwise_told : taking_of step.Otherwise ≡ taking_at AlgoStep-F.Otherwise
otherwise_told = taking-level step.Otherwise AlgoStep-F.Otherwise step.outs-Otherwise

vars_told : (s : AlgoStep) (t : Taking) → taking_of s ≡ t → step_vars s ≡ t.vars
vars_told s t is = ap (λ (z : Taking). z.vars) is

can_told : (bound : List Name) (s : AlgoStep) (t : Taking) → taking_of s ≡ t → can_take bound s ≡ t.can bound
can_told bound s t is = ap (λ (z : Taking). z.can bound) is

-- ---- conditions

module _ (bound : List Name) (e : IlExp) where
  test_takes : (runs : Bool) → (runs ≡ true → all_known bound (vars e) ≡ true) → Takes bound (vars e) runs (step.Test e)
  test_takes runs h = record {
    fewer = same_within (step_vars (step.Test e)) (vars e) (vars_told (step.Test e) (taking_at (AlgoStep-F.Test e)) (test_told e));
    more = same_within (vars e) (step_vars (step.Test e)) (sym (vars_told (step.Test e) (taking_at (AlgoStep-F.Test e)) (test_told e)));
    taken = λ r. can_told bound (step.Test e) (taking_at (AlgoStep-F.Test e)) (test_told e) ∙ h r;
  }

  sides_vars : (left right : IlExp) → out-IlExp e ≡ IlExp-F.Eq left right → vars e ≡ vars left ++ (vars right ++ [])
  sides_vars left right is =
      fold_out-IlExp (List Name) Counted (List Name) (List (List Name)) vars_at counted_at item_at segment_at e
      ∙ ap (λ z. vars_at (map-IlExp IlExp Iteration ListItem PathSeg (List Name) Counted (List Name) (List (List Name)) vars counted item_vars segment_vars z)) is

  -- the sides are within the names of the equation, and these within those of the sides
  let_takes : (pattern other : IlExp) → Within (vars pattern) (vars e) → Within (vars other) (vars e) → Within (vars e) (vars pattern ++ vars other) → is_matched bound other pattern ≡ true
      → Takes bound (vars e) true (step.Let pattern other)
  let_takes pattern other p o w m =
      let told : step_vars (step.Let pattern other) ≡ vars pattern ++ vars other = vars_told (step.Let pattern other) (taking_at (AlgoStep-F.Let pattern other)) (let_told pattern other) in
      record {
        fewer = λ x h. within-both (vars pattern) (vars other) (vars e) p o x (subst (λ z. has_name z x ≡ true) told h);
        more = λ x h. subst (λ z. has_name z x ≡ true) (sym told) (w x h);
        taken = λ r. can_told bound (step.Let pattern other) (taking_at (AlgoStep-F.Let pattern other)) (let_told pattern other) ∙ m;
      }

  module _ (left right : IlExp) (is : out-IlExp e ≡ IlExp-F.Eq left right) where
    left_within : Within (vars left) (vars e)
    left_within x h = subst (λ z. has_name z x ≡ true) (sym (sides_vars left right is)) (within-left (vars left) (vars right ++ []) x h)

    right_within : Within (vars right) (vars e)
    right_within x h =
        subst (λ z. has_name z x ≡ true) (sym (sides_vars left right is)) (within-right (vars left) (vars right ++ []) x (within-left (vars right) [] x h))

    both_within : (top : List Name) → Within (vars left) top → Within (vars right) top → Within (vars e) top
    both_within top l r x h =
        within-both (vars left) (vars right ++ []) top l (within-both (vars right) [] top r (no_names top)) x (subst (λ z. has_name z x ≡ true) (sides_vars left right is) h)

    sides_take : (m n : Bool) → is_matched bound left right ≡ m → is_matched bound right left ≡ n
        → Takes bound (vars e) (is_some (if m then Some (Equation right) else (if n then Some (Equation left) else None))) (if m then step.Let right left else (if n then step.Let left right else step.Test e))
    sides_take true n a b =
        let_takes right left right_within left_within (both_within (vars right ++ vars left) (within-right (vars right) (vars left)) (within-left (vars right) (vars left))) a
    sides_take false true a b =
        let_takes left right left_within right_within (both_within (vars left ++ vars right) (within-left (vars left) (vars right)) (within-right (vars left) (vars right))) b
    sides_take false false a b = test_takes false (λ h. cc)

  equation_takes : (y : IlExp-F IlExp Iteration ListItem PathSeg) → out-IlExp e ≡ y → Takes bound (vars e) (is_some (class_of_equation bound y)) (step_of_equation bound e y)
  equation_takes (IlExp-F.Eq left right) is = sides_take left right is (is_matched bound left right) (is_matched bound right left) refl refl
  equation_takes _ is = test_takes false (λ h. cc)

  condition_takes : Takes bound (vars e) (is_some (class_of_condition bound e)) (step_of_condition bound e)
  condition_takes = at (all_known bound (vars e)) refl
    where
      at : (k : Bool) → all_known bound (vars e) ≡ k
          → Takes bound (vars e) (is_some (if k then Some Test else class_of_equation bound (out-IlExp e))) (if k then step.Test e else step_of_equation bound e (out-IlExp e))
      at true k = test_takes true (λ h. k)
      at false k = equation_takes (out-IlExp e) refl

-- ---- goals

some_if : (b : Bool) (c : Class) → is_some (if b then Some c else None) ≡ true → b ≡ true
some_if true c h = refl
some_if false c h = cc

goal_takes : (bound : List Name) (relation : Name) (inputs : List Bool) (es : List IlExp) → nat_eq (length es) (length inputs) ≡ true
    → Takes bound (vars_of es) (is_some (class_of_goal bound (inputs_by inputs es) (outputs_by inputs es))) (step.Goal relation (inputs_by inputs es) (outputs_by inputs es))
goal_takes bound relation inputs es fits =
    let ins : List IlExp = inputs_by inputs es in
    let outs : List IlExp = outputs_by inputs es in
    let told : step_vars (step.Goal relation ins outs) ≡ vars_of ins ++ vars_of outs = vars_told (step.Goal relation ins outs) (taking_at (AlgoStep-F.Goal relation ins outs)) (goal_told relation ins outs) in
    record {
      fewer = λ x h. within-both (vars_of ins) (vars_of outs) (vars_of es) (inputs_within inputs es) (inputs_within (map not inputs) es) x (subst (λ z. has_name z x ≡ true) told h);
      more = λ x h. subst (λ z. has_name z x ≡ true) (sym told) (all_within inputs es (eqb-true (length es) (length inputs) fits) x h);
      taken = λ r.
          can_told bound (step.Goal relation ins outs) (taking_at (AlgoStep-F.Goal relation ins outs)) (goal_told relation ins outs)
          ∙ some_if (all_known bound (vars_of ins) && list_all (is_met bound (bound ++ bound_by outs)) outs) Judgement r;
    }

-- ---- iterated premises

-- where all its goals fit, the step of a premise has its variables and can be taken where it is run
abbrev IsTaken : Il → IlPrem → Type 0
IsTaken il p = (bound : List Name) → goal_fits il p ≡ true → Takes bound (prem_vars p) (is_some (class_of il bound p)) (step_of il bound p)

three_and : (a b c : Bool) (o : Option Class) → is_some (if a && b && c then o else None) ≡ true → (a ≡ true) × (b ≡ true) × (c ≡ true) × (is_some o ≡ true)
three_and true true true o h = (refl, refl, refl, h)
three_and true true false o h = cc
three_and true false c o h = cc
three_and false b c o h = cc

four_true : (a b c d : Bool) → a ≡ true → b ≡ true → c ≡ true → d ≡ true → (a && b && c && d) ≡ true
four_true true true true d p q r s = s
four_true true true false d p q r s = cc
four_true true false c d p q r s = cc
four_true false b c d p q r s = cc

module _ (il : Il) (how : Iteration) (xs : List Name) (body : IlPrem) (ih : IsTaken il body) (fits : goal_fits il body ≡ true) (bound : List Name) where
  -- the variables inside that are not iterated, of these
  abbrev rest_of : List Name → List Name
  rest_of vs = without xs (without (index_of how) vs)

  abbrev inside : List Name
  inside = bound_inside bound how xs (without xs (without (index_of how) (prem_vars body)))

  loop_takes : Takes bound (vars_of (count_of how) ++ xs ++ without (index_of how) (prem_vars body))
      (is_some (if is_anchored bound how xs && list_all (is_countable bound) (count_of how) && all_known bound (rest_of (prem_vars body)) then class_of il inside body else None))
      (step.Loop how xs (step_of il inside body))
  loop_takes =
      let s : AlgoStep = step_of il inside body in
      let t : Takes inside (prem_vars body) (is_some (class_of il inside body)) s = ih inside fits in
      let told : step_vars (step.Loop how xs s) ≡ vars_of (count_of how) ++ xs ++ without (index_of how) (step_vars s) = vars_told (step.Loop how xs s) (taking_at (AlgoStep-F.Loop how xs (taking_of s))) (loop_told how xs s) in
      record {
        fewer = λ x h.
            last_within (vars_of (count_of how)) xs (without (index_of how) (step_vars s)) (without (index_of how) (prem_vars body)) (without_within (index_of how) (step_vars s) (prem_vars body) t.fewer) x
            (subst (λ z. has_name z x ≡ true) told h);
        more = λ x h. subst (λ z. has_name z x ≡ true) (sym told)
            (last_within (vars_of (count_of how)) xs (without (index_of how) (prem_vars body)) (without (index_of how) (step_vars s)) (without_within (index_of how) (prem_vars body) (step_vars s) t.more) x h);
        taken = λ r.
            let parts = three_and (is_anchored bound how xs) (list_all (is_countable bound) (count_of how)) (all_known bound (rest_of (prem_vars body))) (class_of il inside body) r in
            can_told bound (step.Loop how xs s) (taking_at (AlgoStep-F.Loop how xs (taking_of s))) (loop_told how xs s)
            ∙ four_true (is_anchored bound how xs) (list_all (is_countable bound) (count_of how)) (all_known bound (rest_of (step_vars s))) (can_take (index_of how ++ bound) s) parts.0 parts.1
            (known_less bound (rest_of (step_vars s)) (rest_of (prem_vars body))
            (without_within xs (without (index_of how) (step_vars s)) (without (index_of how) (prem_vars body)) (without_within (index_of how) (step_vars s) (prem_vars body) t.fewer)) parts.2)
            (can_wider s inside (index_of how ++ bound) (inside-within bound how xs (rest_of (prem_vars body)) parts.2) (t.taken parts.3));
      }

  each_takes : Takes bound (vars_of (count_of how) ++ xs ++ without (index_of how) (prem_vars body))
      (is_some (run.class_of_each bound how xs (runs_of il body))) (step.Loop how xs ((lowering_of il body).lowered (bound_inside bound how xs (rest_of (lowering_of il body).vars))))
  each_takes =
      takes_as bound (vars_of (count_of how) ++ xs ++ without (index_of how) (prem_vars body)) (vars_of (count_of how) ++ xs ++ without (index_of how) (prem_vars body))
      (is_some (run.class_of_each bound how xs (runs_of il body)))
      (is_some (if is_anchored bound how xs && list_all (is_countable bound) (count_of how) && all_known bound (rest_of (prem_vars body)) then class_of il inside body else None))
      (step.Loop how xs ((lowering_of il body).lowered (bound_inside bound how xs (rest_of (lowering_of il body).vars)))) (step.Loop how xs (step_of il inside body)) refl
      (ap (λ (vs : List Name). is_some (if is_anchored bound how xs && list_all (is_countable bound) (count_of how) && all_known bound (rest_of vs) then class_of il (bound_inside bound how xs (rest_of vs)) body else None)) (runs_vars il body))
      (ap (λ (vs : List Name). step.Loop how xs (step_of il (bound_inside bound how xs (rest_of vs)) body)) (lowering_vars il body)) loop_takes

-- ---- every premise

fits-level : (il : Il) (p : IlPrem) (y : IlPrem-F IlPrem) → out-IlPrem p ≡ y → goal_fits il p ≡ goal_fits_at il (map-IlPrem IlPrem Bool (goal_fits il) y)
fits-level il p y is = fold_out-IlPrem Bool (goal_fits_at il) p ∙ ap (λ z. goal_fits_at il (map-IlPrem IlPrem Bool (goal_fits il) z)) is

level_takes : (il : Il) (y : IlPrem-F IlPrem) → Parts (IsTaken il) y → (bound : List Name) → goal_fits_at il (map-IlPrem IlPrem Bool (goal_fits il) y) ≡ true
    → Takes bound (prem_vars_at (map-IlPrem IlPrem (List Name) prem_vars y)) (is_some ((runs_at il (map-IlPrem IlPrem run.Runs (runs_of il) y)).class bound))
    ((lowering_at il (map-IlPrem IlPrem Lowering (lowering_of il) y)).lowered bound)
level_takes il (IlPrem-F.If e) parts bound fits = condition_takes bound e
level_takes il (IlPrem-F.Goal relation es) parts bound fits = goal_takes bound relation (mask il relation) es fits
level_takes il IlPrem-F.Otherwise parts bound fits = record {
  fewer = same_within (step_vars step.Otherwise) [] (vars_told step.Otherwise (taking_at AlgoStep-F.Otherwise) otherwise_told);
  more = no_names (step_vars step.Otherwise);
  taken = λ r. can_told bound step.Otherwise (taking_at AlgoStep-F.Otherwise) otherwise_told;
}
level_takes il (IlPrem-F.Each how xs body) parts bound fits = each_takes il how xs body parts fits bound

pub prem_takes : (il : Il) (p : IlPrem) → IsTaken il p
prem_takes il = prem-ind (IsTaken il) (λ y parts bound fits.
    let is = out-roll-IlPrem y in
    let p : IlPrem = roll-IlPrem y in
    takes_as bound (prem_vars p) (prem_vars_at (map-IlPrem IlPrem (List Name) prem_vars y)) (is_some (class_of il bound p)) (is_some ((runs_at il (map-IlPrem IlPrem run.Runs (runs_of il) y)).class bound))
    (step_of il bound p) ((lowering_at il (map-IlPrem IlPrem Lowering (lowering_of il) y)).lowered bound)
    (prem-level p y is) (ap (λ z. is_some z) (class-level il bound p y is)) (step-level il bound p y is)
    (level_takes il y parts bound (sym (fits-level il p y is) ∙ fits)))
