-- A step that can be taken where some variables are bound can be taken where more are.
use Rattle.std.proofs.Common.{◌≡◌, refl, sym, ◌∙◌, ap, subst, List, [], ◌∷◌, ◌++◌, Bool, true, false, ◌&&◌, ◌||◌}
use Rattle.std.specs.List.{list_all, list_any}
use Rattle.st_il.specs.declared.expression.IlExp.{IlExp}
use Rattle.st_il.specs.declared.expression.Iteration.{Iteration}
use Rattle.st_il.specs.Names.{Name, has_name, all_known, without}
use Rattle.st_semantics.specs.Iterations.{count_of, index_of}
use Rattle.st_semantics.specs.Variables.{vars, vars_of}
use Rattle.st_semantics.specs.Patterns.{is_pattern, binds, bound_by}
use Rattle.st_semantics.specs.Executable.{is_matched, is_met, is_anchored, is_countable}
use Rattle.st_semantics.proofs.Names.{Within, or-left, or-right}
use Rattle.st_semantics.proofs.CanRun.{known-wider, within-index}
use Rattle.st_semantics.proofs.Wider.{all-wider, append-wider, countable-wider}
use Rattle.st_algo.specs.declared.algorithm.AlgoStep.{AlgoStep, map-AlgoStep, ind-AlgoStep, out-AlgoStep, fold_out-AlgoStep, roll-AlgoStep, out-roll-AlgoStep}
use Rattle.st_algo.specs.declared.algorithm.AlgoStep.TheOpen.{AlgoStep-F}
use Rattle.st_algo.specs.Taken.{Taking, taking_at, taking_of, can_take}

-- ---- induction over steps

-- P holds of the parts of a level
abbrev StepParts : (AlgoStep → Type 0) → AlgoStep-F AlgoStep → Type 0
StepParts P (AlgoStep-F.Match ins) = Unit {0}
StepParts P (AlgoStep-F.Test e) = Unit {0}
StepParts P (AlgoStep-F.Let pattern e) = Unit {0}
StepParts P (AlgoStep-F.Goal relation ins outs) = Unit {0}
StepParts P (AlgoStep-F.Loop how xs body) = P body
StepParts P AlgoStep-F.Otherwise = Unit {0}
StepParts P (AlgoStep-F.Give outs) = Unit {0}

-- a step of which P holds
abbrev Such : (AlgoStep → Type 0) → Type 0
Such P = (x : AlgoStep) × P x

parts_of : (P : AlgoStep → Type 0) (y : AlgoStep-F (Such P)) → StepParts P (map-AlgoStep (Such P) AlgoStep (λ e. e.0) y)
parts_of P (AlgoStep-F.Match ins) = tt
parts_of P (AlgoStep-F.Test e) = tt
parts_of P (AlgoStep-F.Let pattern e) = tt
parts_of P (AlgoStep-F.Goal relation ins outs) = tt
parts_of P (AlgoStep-F.Loop how xs body) = body.1
parts_of P AlgoStep-F.Otherwise = tt
parts_of P (AlgoStep-F.Give outs) = tt

step-ind : (P : AlgoStep → Type 0) → ((x : AlgoStep-F AlgoStep) → StepParts P x → P (roll-AlgoStep x)) → (x : AlgoStep) → P x
step-ind P step = ind-AlgoStep P (λ x y e. step x (subst (StepParts P) e (parts_of P y)))

-- what is told of a step, by its level
pub taking-level : (s : AlgoStep) (y : AlgoStep-F AlgoStep) → out-AlgoStep s ≡ y → taking_of s ≡ taking_at (map-AlgoStep AlgoStep Taking taking_of y)
taking-level s y is = fold_out-AlgoStep Taking taking_at s ∙ ap (λ z. taking_at (map-AlgoStep AlgoStep Taking taking_of z)) is

-- ---- tests that hold where more is bound

and_wider : (a b c d : Bool) → (a ≡ true → c ≡ true) → (b ≡ true → d ≡ true) → (a && b) ≡ true → (c && d) ≡ true
and_wider true b c d f g h = ap (λ z. z && d) (f refl) ∙ g h
and_wider false b c d f g h = cc

or_wider : (a b c d : Bool) → (a ≡ true → c ≡ true) → (b ≡ true → d ≡ true) → (a || b) ≡ true → (c || d) ≡ true
or_wider true b c d f g h = or-left c d (f refl)
or_wider false b c d f g h = or-right c d (g h)

any_wider : {A : Type 0} (few many : A → Bool) → ((x : A) → few x ≡ true → many x ≡ true) → (xs : List A) → list_any few xs ≡ true → list_any many xs ≡ true
any_wider few many f [] h = h
any_wider few many f (x ∷ xs) h = or_wider (few x) (list_any few xs) (many x) (list_any many xs) (f x) (any_wider few many f xs) h

module _ (few many : List Name) (w : Within few many) where
  matched_wider : (e g : IlExp) → is_matched few e g ≡ true → is_matched many e g ≡ true
  matched_wider e g h =
      and_wider (all_known few (vars e) && is_pattern g) (all_known (few ++ binds g) (vars g)) (all_known many (vars e) && is_pattern g) (all_known (many ++ binds g) (vars g))
      (and_wider (all_known few (vars e)) (is_pattern g) (all_known many (vars e)) (is_pattern g) (known-wider few many (vars e) w) (λ k. k))
      (known-wider (few ++ binds g) (many ++ binds g) (vars g) (append-wider few many (binds g) w)) h

  met_wider : (more : List Name) (e : IlExp) → is_met few (few ++ more) e ≡ true → is_met many (many ++ more) e ≡ true
  met_wider more e h =
      or_wider (all_known few (vars e)) (is_pattern e && all_known (few ++ more) (vars e)) (all_known many (vars e)) (is_pattern e && all_known (many ++ more) (vars e))
      (known-wider few many (vars e) w)
      (and_wider (is_pattern e) (all_known (few ++ more) (vars e)) (is_pattern e) (all_known (many ++ more) (vars e)) (λ k. k) (known-wider (few ++ more) (many ++ more) (vars e) (append-wider few many more w))) h

  goal_wider : (ins outs : List IlExp) → (all_known few (vars_of ins) && list_all (is_met few (few ++ bound_by outs)) outs) ≡ true → (all_known many (vars_of ins) && list_all (is_met many (many ++ bound_by outs)) outs) ≡ true
  goal_wider ins outs h =
      and_wider (all_known few (vars_of ins)) (list_all (is_met few (few ++ bound_by outs)) outs) (all_known many (vars_of ins)) (list_all (is_met many (many ++ bound_by outs)) outs)
      (known-wider few many (vars_of ins) w) (all-wider (is_met few (few ++ bound_by outs)) (is_met many (many ++ bound_by outs)) (met_wider (bound_by outs)) outs) h

  anchored_wider : (how : Iteration) (xs : List Name) → is_anchored few how xs ≡ true → is_anchored many how xs ≡ true
  anchored_wider how xs h =
      or_wider (list_any (has_name few) xs) (list_any (λ (e : IlExp). all_known few (vars e)) (count_of how)) (list_any (has_name many) xs) (list_any (λ (e : IlExp). all_known many (vars e)) (count_of how))
      (any_wider (has_name few) (has_name many) w xs)
      (any_wider (λ (e : IlExp). all_known few (vars e)) (λ (e : IlExp). all_known many (vars e)) (λ e k. known-wider few many (vars e) w k) (count_of how)) h

-- it can be taken with more
abbrev Widens : AlgoStep → Type 0
Widens s = (few many : List Name) → Within few many → can_take few s ≡ true → can_take many s ≡ true

level_wider : (y : AlgoStep-F AlgoStep) → StepParts Widens y → (few many : List Name) → Within few many → (taking_at (map-AlgoStep AlgoStep Taking taking_of y)).can few ≡ true
    → (taking_at (map-AlgoStep AlgoStep Taking taking_of y)).can many ≡ true
level_wider (AlgoStep-F.Match ins) parts few many w h = h
level_wider (AlgoStep-F.Test e) parts few many w h = known-wider few many (vars e) w h
level_wider (AlgoStep-F.Let pattern e) parts few many w h = matched_wider few many w e pattern h
level_wider (AlgoStep-F.Goal relation ins outs) parts few many w h = goal_wider few many w ins outs h
level_wider (AlgoStep-F.Loop how xs body) parts few many w h =
    let others : List Name = without xs (without (index_of how) (taking_of body).vars) in
    and_wider
    (is_anchored few how xs && list_all (is_countable few) (count_of how) && all_known few others) (can_take (index_of how ++ few) body)
    (is_anchored many how xs && list_all (is_countable many) (count_of how) && all_known many others) (can_take (index_of how ++ many) body)
    (and_wider (is_anchored few how xs && list_all (is_countable few) (count_of how)) (all_known few others) (is_anchored many how xs && list_all (is_countable many) (count_of how)) (all_known many others)
    (and_wider (is_anchored few how xs) (list_all (is_countable few) (count_of how)) (is_anchored many how xs) (list_all (is_countable many) (count_of how))
    (anchored_wider few many w how xs) (all-wider (is_countable few) (is_countable many) (countable-wider few many w) (count_of how)))
    (known-wider few many others w))
    (parts (index_of how ++ few) (index_of how ++ many) (within-index (index_of how) few many w)) h
level_wider AlgoStep-F.Otherwise parts few many w h = refl
level_wider (AlgoStep-F.Give outs) parts few many w h = known-wider few many (vars_of outs) w h

pub can_wider : (s : AlgoStep) → Widens s
can_wider = step-ind Widens (λ y parts few many w h.
    let is = taking-level (roll-AlgoStep y) y (out-roll-AlgoStep y) in
    ap (λ (z : Taking). z.can many) is ∙ level_wider y parts few many w (sym (ap (λ (z : Taking). z.can few) is) ∙ h))
