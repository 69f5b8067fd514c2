-- A premise that can be run where some variables are bound can be run where more are.
use Rattle.std.proofs.Common.{◌≡◌, refl, sym, ◌∙◌, ap, subst, List, [], ◌∷◌, ◌++◌, ◌⊎◌, inl, inr, Bool, true, false, ◌&&◌, ◌||◌, if◌then◌else◌, Option, Some, None, is_some, bytes_eq}
use Rattle.std.specs.List.{list_all, list_any}
use Rattle.st_il.specs.declared.definition.Il.{Il}
use Rattle.st_il.specs.declared.expression.IlExp.{IlExp, out-IlExp}
use Rattle.st_il.specs.declared.expression.IlExp.TheOpen.{IlExp-F}
use Rattle.st_il.specs.declared.expression.IlPrem.{IlPrem, map-IlPrem, ind-IlPrem, roll-IlPrem, out-roll-IlPrem}
use Rattle.st_il.specs.declared.expression.IlPrem.TheOpen.{IlPrem-F}
use Rattle.st_il.specs.declared.expression.Iteration.{Iteration}
use Rattle.st_il.specs.declared.expression.ListItem.{ListItem}
use Rattle.st_il.specs.declared.expression.PathSeg.{PathSeg}
use Rattle.st_il.specs.Names.{Name, has_name, all_known, among, without}
use Rattle.st_semantics.specs.Directions.{inputs_by, outputs_by, mask}
use Rattle.st_semantics.specs.Iterations.{count_of, index_of}
use Rattle.st_semantics.specs.Variables.{vars, vars_of}
use Rattle.st_semantics.specs.Patterns.{is_pattern, binds, bound_by}
use Rattle.st_semantics.specs.Executable as run
use Rattle.st_semantics.specs.Executable.{Class, Test, Equation, Judgement, class_of, class_of_condition, class_of_equation, class_of_sides, is_matched, is_met, class_of_goal, class_of_each, is_anchored, is_countable, is_variable_at, bound_inside, runs_at}
use Rattle.st_semantics.proofs.Names.{Within, within-left, within-right, within-both, or-cases, or-left, or-right, bytes-path, true_false}
use Rattle.st_semantics.proofs.CanRun.{known-wider, runs_of, class-level}

-- ---- induction over premises

-- P holds of the parts of a level
abbrev pub Parts : (IlPrem → Type 0) → IlPrem-F IlPrem → Type 0
Parts P (IlPrem-F.If e) = Unit {0}
Parts P (IlPrem-F.Goal relation es) = Unit {0}
Parts P IlPrem-F.Otherwise = Unit {0}
Parts P (IlPrem-F.Each how xs body) = P body

-- a premise of which P holds
abbrev Such : (IlPrem → Type 0) → Type 0
Such P = (x : IlPrem) × P x

parts_of : (P : IlPrem → Type 0) (y : IlPrem-F (Such P)) → Parts P (map-IlPrem (Such P) IlPrem (λ e. e.0) y)
parts_of P (IlPrem-F.If e) = tt
parts_of P (IlPrem-F.Goal relation es) = tt
parts_of P IlPrem-F.Otherwise = tt
parts_of P (IlPrem-F.Each how xs body) = body.1

pub prem-ind : (P : IlPrem → Type 0) → ((x : IlPrem-F IlPrem) → Parts P x → P (roll-IlPrem x)) → (x : IlPrem) → P x
prem-ind P step = ind-IlPrem P (λ x y e. step x (subst (Parts P) e (parts_of P y)))

-- ---- tests that hold where more is bound

and-wider : (a b c d : Bool) → (a ≡ true → c ≡ true) → (b ≡ true → d ≡ true) → (a && b) ≡ true → (c && d) ≡ true
and-wider true b c d f g h = ap (λ z. z && d) (f refl) ∙ g h
and-wider false b c d f g h = cc

or-wider : (a b c d : Bool) → (a ≡ true → c ≡ true) → (b ≡ true → d ≡ true) → (a || b) ≡ true → (c || d) ≡ true
or-wider true b c d f g h = or-left c d (f refl)
or-wider false b c d f g h = or-right c d (g h)

pub all-wider : {A : Type 0} (few many : A → Bool) → ((x : A) → few x ≡ true → many x ≡ true) → (xs : List A) → list_all few xs ≡ true → list_all many xs ≡ true
all-wider few many f [] h = refl
all-wider few many f (x ∷ xs) h = and-wider (few x) (list_all few xs) (many x) (list_all many xs) (f x) (all-wider few many f xs) h

any-wider : {A : Type 0} (few many : A → Bool) → ((x : A) → few x ≡ true → many x ≡ true) → (xs : List A) → list_any few xs ≡ true → list_any many xs ≡ true
any-wider few many f [] h = h
any-wider few many f (x ∷ xs) h = or-wider (few x) (list_any few xs) (many x) (list_any many xs) (f x) (any-wider few many f xs) h

-- a choice between two classes
choice-wider : (c d : Class) (a b : Bool) (x y : Option Class) → (a ≡ true → b ≡ true) → (is_some x ≡ true → is_some y ≡ true)
    → is_some (if a then Some c else x) ≡ true → is_some (if b then Some d else y) ≡ true
choice-wider c d a true x y f g h = refl
choice-wider c d true false x y f g h = absurd (true_false (sym (f refl)))
choice-wider c d false false x y f g h = g h

-- a class under a condition
guard-wider : (a b : Bool) (x y : Option Class) → (a ≡ true → b ≡ true) → (is_some x ≡ true → is_some y ≡ true) → is_some (if a then x else None) ≡ true → is_some (if b then y else None) ≡ true
guard-wider false b x y f g h = cc
guard-wider true true x y f g h = g h
guard-wider true false x y f g h = absurd (true_false (sym (f refl)))

pub append-wider : (few many more : List Name) → Within few many → Within (few ++ more) (many ++ more)
append-wider few many more w = within-both few more (many ++ more) (λ x h. within-left many more x (w x h)) (within-right many more)

-- ---- names that are among some

among_step : (x y : Name) (rest : List Name) (c : Bool) → has_name (if c then y ∷ rest else rest) x ≡ true → ((bytes_eq x y ≡ true) × (c ≡ true)) ⊎ (has_name rest x ≡ true)
among_step x y rest true h = elim (or-cases (bytes_eq x y) (has_name rest x) h) [ inl e ↦ inl (e, refl) | inr later ↦ inr later ]
among_step x y rest false h = inr h

among_more : (x y : Name) (rest : List Name) (c : Bool) → has_name rest x ≡ true → has_name (if c then y ∷ rest else rest) x ≡ true
among_more x y rest true h = or-right (bytes_eq x y) (has_name rest x) h
among_more x y rest false h = h

among_here : (x y : Name) (rest : List Name) (c : Bool) → bytes_eq x y ≡ true → c ≡ true → has_name (if c then y ∷ rest else rest) x ≡ true
among_here x y rest true e k = or-left (bytes_eq x y) (has_name rest x) e
among_here x y rest false e k = absurd (true_false (sym k))

pub among-parts : (some xs : List Name) (x : Name) → has_name (among some xs) x ≡ true → (has_name some x ≡ true) × (has_name xs x ≡ true)
among-parts some [] x h = cc
among-parts some (y ∷ ys) x h = elim (among_step x y (among some ys) (has_name some y) h) [
  | inl k ↦ (subst (λ z. has_name some z ≡ true) (sym (bytes-path x y k.0)) k.1, or-left (bytes_eq x y) (has_name ys x) k.0)
  | inr later ↦ (let b = among-parts some ys x later in (b.0, or-right (bytes_eq x y) (has_name ys x) b.1))
]

pub among-both : (some xs : List Name) (x : Name) → has_name some x ≡ true → has_name xs x ≡ true → has_name (among some xs) x ≡ true
among-both some [] x s h = h
among-both some (y ∷ ys) x s h = elim (or-cases (bytes_eq x y) (has_name ys x) h) [
  | inl e ↦ among_here x y (among some ys) (has_name some y) e (subst (λ z. has_name some z ≡ true) (bytes-path x y e) s)
  | inr later ↦ among_more x y (among some ys) (has_name some y) (among-both some ys x s later)
]

among-wider : (few many xs : List Name) → Within few many → Within (among few xs) (among many xs)
among-wider few many xs w x h = let b = among-parts few xs x h in among-both many xs x (w x b.0) b.1

-- ---- the classes of premises

module _ (few many : List Name) (w : Within few many) where
  matched-wider : (e g : IlExp) → is_matched few e g ≡ true → is_matched many e g ≡ true
  matched-wider e g h =
      and-wider (all_known few (vars e) && is_pattern g) (all_known (few ++ binds g) (vars g)) (all_known many (vars e) && is_pattern g) (all_known (many ++ binds g) (vars g))
      (and-wider (all_known few (vars e)) (is_pattern g) (all_known many (vars e)) (is_pattern g) (known-wider few many (vars e) w) (λ k. k))
      (known-wider (few ++ binds g) (many ++ binds g) (vars g) (append-wider few many (binds g) w)) h

  sides-wider : (e g : IlExp) → is_some (class_of_sides few e g) ≡ true → is_some (class_of_sides many e g) ≡ true
  sides-wider e g h =
      choice-wider (Equation g) (Equation g) (is_matched few e g) (is_matched many e g) (if is_matched few g e then Some (Equation e) else None) (if is_matched many g e then Some (Equation e) else None)
      (matched-wider e g) (choice-wider (Equation e) (Equation e) (is_matched few g e) (is_matched many g e) None None (matched-wider g e) (λ k. k)) h

  equation-wider : (y : IlExp-F IlExp Iteration ListItem PathSeg) → is_some (class_of_equation few y) ≡ true → is_some (class_of_equation many y) ≡ true
  equation-wider (IlExp-F.Eq e g) h = sides-wider e g h
  equation-wider _ h = cc

  condition-wider : (e : IlExp) → is_some (class_of_condition few e) ≡ true → is_some (class_of_condition many e) ≡ true
  condition-wider e h =
      choice-wider Test Test (all_known few (vars e)) (all_known many (vars e)) (class_of_equation few (out-IlExp e)) (class_of_equation many (out-IlExp e))
      (known-wider few many (vars e) w) (equation-wider (out-IlExp e)) h

  met-wider : (more : List Name) (e : IlExp) → is_met few (few ++ more) e ≡ true → is_met many (many ++ more) e ≡ true
  met-wider more e h =
      or-wider (all_known few (vars e)) (is_pattern e && all_known (few ++ more) (vars e)) (all_known many (vars e)) (is_pattern e && all_known (many ++ more) (vars e))
      (known-wider few many (vars e) w)
      (and-wider (is_pattern e) (all_known (few ++ more) (vars e)) (is_pattern e) (all_known (many ++ more) (vars e)) (λ k. k) (known-wider (few ++ more) (many ++ more) (vars e) (append-wider few many more w))) h

  goal-wider : (ins outs : List IlExp) → is_some (class_of_goal few ins outs) ≡ true → is_some (class_of_goal many ins outs) ≡ true
  goal-wider ins outs h =
      guard-wider (all_known few (vars_of ins) && list_all (is_met few (few ++ bound_by outs)) outs) (all_known many (vars_of ins) && list_all (is_met many (many ++ bound_by outs)) outs) (Some Judgement) (Some Judgement)
      (and-wider (all_known few (vars_of ins)) (list_all (is_met few (few ++ bound_by outs)) outs) (all_known many (vars_of ins)) (list_all (is_met many (many ++ bound_by outs)) outs)
      (known-wider few many (vars_of ins) w) (all-wider (is_met few (few ++ bound_by outs)) (is_met many (many ++ bound_by outs)) (met-wider (bound_by outs)) outs))
      (λ k. k) h

  pub countable-wider : (e : IlExp) → is_countable few e ≡ true → is_countable many e ≡ true
  countable-wider e h =
      or-wider (all_known few (vars e)) (is_variable_at (out-IlExp e)) (all_known many (vars e)) (is_variable_at (out-IlExp e)) (known-wider few many (vars e) w) (λ k. k) h

  anchored-wider : (how : Iteration) (xs : List Name) → is_anchored few how xs ≡ true → is_anchored many how xs ≡ true
  anchored-wider how xs h =
      or-wider (list_any (has_name few) xs) (list_any (λ (e : IlExp). all_known few (vars e)) (count_of how)) (list_any (has_name many) xs) (list_any (λ (e : IlExp). all_known many (vars e)) (count_of how))
      (any-wider (has_name few) (has_name many) w xs)
      (any-wider (λ (e : IlExp). all_known few (vars e)) (λ (e : IlExp). all_known many (vars e)) (λ e k. known-wider few many (vars e) w k) (count_of how)) h

  inside-wider : (how : Iteration) (xs others : List Name) → Within (bound_inside few how xs others) (bound_inside many how xs others)
  inside-wider how xs others = append-wider (among few xs ++ others) (among many xs ++ others) (index_of how) (append-wider (among few xs) (among many xs) others (among-wider few many xs w))

-- it can be run with more
abbrev Widens : Il → IlPrem → Type 0
Widens il p = (few many : List Name) → Within few many → is_some (class_of il few p) ≡ true → is_some (class_of il many p) ≡ true

level-wider : (il : Il) (y : IlPrem-F IlPrem) → Parts (Widens il) y → (few many : List Name) → Within few many → is_some ((runs_at il (map-IlPrem IlPrem run.Runs (runs_of il) y)).class few) ≡ true
    → is_some ((runs_at il (map-IlPrem IlPrem run.Runs (runs_of il) y)).class many) ≡ true
level-wider il (IlPrem-F.If e) parts few many w h = condition-wider few many w e h
level-wider il (IlPrem-F.Goal relation es) parts few many w h = goal-wider few many w (inputs_by (mask il relation) es) (outputs_by (mask il relation) es) h
level-wider il IlPrem-F.Otherwise parts few many w h = refl
level-wider il (IlPrem-F.Each how xs body) parts few many w h =
    let others : List Name = without xs (without (index_of how) (runs_of il body).vars) in
    guard-wider
    (is_anchored few how xs && list_all (is_countable few) (count_of how) && all_known few others)
    (is_anchored many how xs && list_all (is_countable many) (count_of how) && all_known many others)
    ((runs_of il body).class (bound_inside few how xs others)) ((runs_of il body).class (bound_inside many how xs others))
    (and-wider (is_anchored few how xs && list_all (is_countable few) (count_of how)) (all_known few others) (is_anchored many how xs && list_all (is_countable many) (count_of how)) (all_known many others)
    (and-wider (is_anchored few how xs) (list_all (is_countable few) (count_of how)) (is_anchored many how xs) (list_all (is_countable many) (count_of how))
    (anchored-wider few many w how xs) (all-wider (is_countable few) (is_countable many) (countable-wider few many w) (count_of how)))
    (known-wider few many others w))
    (parts (bound_inside few how xs others) (bound_inside many how xs others) (inside-wider few many w how xs others)) h

-- A premise that can be run where some variables are bound can be run where more are.
pub class-wider : (il : Il) (p : IlPrem) → Widens il p
class-wider il = prem-ind (Widens il) (λ y parts few many w h.
    let is = out-roll-IlPrem y in
    subst (λ z. is_some z ≡ true) (sym (class-level il many (roll-IlPrem y) y is))
    (level-wider il y parts few many w (subst (λ z. is_some z ≡ true) (class-level il few (roll-IlPrem y) y is) h)))
