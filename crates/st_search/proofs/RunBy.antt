-- A premise that is executable can be run by its step.
use Rattle.std.proofs.Common.{◌≡◌, refl, sym, ◌∙◌, ap, ap₂, subst, ℕ, zero, suc, List, [], ◌∷◌, ◌++◌, map, length, ◌⊎◌, inl, inr, Bool, true, false, not, ◌&&◌, ◌||◌, if◌then◌else◌, Option, Some, None, Ok, bytes_eq, slice_get, append_assoc, append-nil, All}
use Rattle.std.specs.List.{list_all, list_any, AllByRecursion}
use Rattle.std.proofs.lemmas.List.Elements.{All-contains}
use Rattle.st_il.specs.declared.definition.Il.{Il}
use Rattle.st_il.specs.declared.definition.Listed.{Listed}
use Rattle.st_il.specs.declared.definition.RuleDef.{RuleDef}
use Rattle.st_il.specs.declared.definition.SyntaxDef.{SyntaxDef}
use Rattle.st_il.specs.declared.expression.IlExp.{IlExp, out-IlExp}
use Rattle.st_il.specs.declared.expression.IlExp.TheOpen.{IlExp-F}
use Rattle.st_il.specs.declared.expression.Iteration.{Iteration}
use Rattle.st_il.specs.declared.expression.ListItem.{ListItem}
use Rattle.st_il.specs.declared.expression.PathSeg.{PathSeg}
use Rattle.st_il.specs.declared.expression.IlPrem.{IlPrem, out-IlPrem, map-IlPrem, fold-IlPrem, fold_out-IlPrem}
use Rattle.st_il.specs.declared.expression.IlPrem.TheOpen.{IlPrem-F}
use Rattle.st_il.specs.Names.{Name, has_name, all_known, without, among}
use Rattle.st_il.specs.Definitions.{syntaxes}
use Rattle.st_semantics.specs.Directions.{mask, inputs_of, outputs_of}
use Rattle.st_semantics.specs.Environments.{listed_names}
use Rattle.st_semantics.specs.Parts.{binary, option_list}
use Rattle.st_semantics.specs.Operators.{equality}
use Rattle.st_semantics.specs.Forms.{Strict}
use Rattle.st_semantics.specs.Formed as formed
use Rattle.st_semantics.specs.Formed.{IsFormed, AreFormed, PremIsFormed}
use Rattle.st_semantics.specs.Iterations.{count_of, index_of}
use Rattle.st_semantics.specs.Scopes.{stepped_all, indices, listed_inside}
use Rattle.st_semantics.specs.Variables.{vars, vars_of, prem_vars, prem_vars_at, prems_vars}
use Rattle.st_semantics.specs.Patterns.{is_pattern, binds, bound_by}
use Rattle.st_semantics.specs.Executable as exec
use Rattle.st_semantics.specs.Executable.{Class, Test, Equation, Judgement, class_of, class_of_condition, class_of_equation, is_matched, is_met, is_anchored, is_countable, is_variable_at, bound_inside, runs_at}
use Rattle.st_semantics.specs.Kinds as kinds
use Rattle.st_semantics.specs.Kinds.{AreOfItsKind, AreOfItsBody, IsKinded, NamesOccurring}
use Rattle.st_semantics.specs.Reaching.{bound_behind}
use Rattle.st_semantics.specs.Orders.{inputs_of_rule, outputs_of_rule, in_order, premise_at, run_on}
use Rattle.st_semantics.specs.OrderOf.{order_of}
use Rattle.st_semantics.proofs.Names.{Within, within-cases, within-left, within-right, or-left, or-right, or-cases, bytes-same, bytes-path, and-both, known-within, true_false, vars-form, prem-level, without-other}
use Rattle.st_semantics.proofs.Singles.{HasForm-single}
use Rattle.st_semantics.proofs.Premises.{without-parts}
use Rattle.st_semantics.proofs.CanRun.{runs_of, runs-level, class-level, run_split}
use Rattle.st_semantics.proofs.Values.{equation_form}
use Rattle.st_algo.specs.declared.algorithm.AlgoStep.TheVariants as step
use Rattle.st_algo.specs.Lowered.{Lowering, lowering_at, step_of, steps_of, step_of_condition, step_of_equation}
use Rattle.st_eval.specs.CanBeMet as met
use Rattle.st_eval.specs.CanBeMet.{CountsAreApart}
use Rattle.st_eval.specs.Meeting.{IsEquation}
use Rattle.st_eval.proofs.Conditions.{same_truth}
use Rattle.st_eval.proofs.Trying.{known_all}
use Rattle.st_search.specs.Searchable as searchable
use Rattle.st_search.specs.Searchable.{IsTypedGoal, GoalsAreTyped, CanBeRun}
use Rattle.st_search.specs.inner.RunBy as run
use Rattle.st_search.specs.inner.RunBy.{IsJudged, IsIterated, IsRunBy}
use Rattle.st_search.proofs.Derived.{contains_got}
use Rattle.st_search.proofs.Finds.{Each-append}
use Rattle.st_search.proofs.GoalParts.{vars_by}
use Rattle.st_search.proofs.Partials.{behind_next, behind_listed}
use Rattle.st_search.proofs.TreeOf.{order_parts}

-- ---- premises by their level

formed_condition : (defs : List SyntaxDef) (p : IlPrem) (e : IlExp) → PremIsFormed defs p → out-IlPrem p ≡ IlPrem-F.If e → IsFormed defs e
formed_condition defs p e (formed.condition g eq f) is =
    let both : IlPrem-F.If g ≡ IlPrem-F.If e = sym eq ∙ is in
    let same : g ≡ e = cc in
    subst (IsFormed defs) same f
formed_condition defs p e (formed.goal relation es eq f) is = let bad : IlPrem-F.Goal relation es ≡ IlPrem-F.If e = sym eq ∙ is in cc
formed_condition defs p e (formed.otherwise eq) is = let bad : IlPrem-F.Otherwise ≡ IlPrem-F.If e = sym eq ∙ is in cc
formed_condition defs p e (formed.each k ys b eq f g) is = let bad : IlPrem-F.Each k ys b ≡ IlPrem-F.If e = sym eq ∙ is in cc

formed_goal : (defs : List SyntaxDef) (p : IlPrem) (relation : Name) (es : List IlExp) → PremIsFormed defs p → out-IlPrem p ≡ IlPrem-F.Goal relation es → AreFormed defs es
formed_goal defs p relation es (formed.condition g eq f) is = let bad : IlPrem-F.If g ≡ IlPrem-F.Goal relation es = sym eq ∙ is in cc
formed_goal defs p relation es (formed.goal other gs eq f) is =
    let both : IlPrem-F.Goal other gs ≡ IlPrem-F.Goal relation es = sym eq ∙ is in
    let same : gs ≡ es = cc in
    subst (AreFormed defs) same f
formed_goal defs p relation es (formed.otherwise eq) is = let bad : IlPrem-F.Otherwise ≡ IlPrem-F.Goal relation es = sym eq ∙ is in cc
formed_goal defs p relation es (formed.each k ys b eq f g) is = let bad : IlPrem-F.Each k ys b ≡ IlPrem-F.Goal relation es = sym eq ∙ is in cc

formed_each : (defs : List SyntaxDef) (p : IlPrem) (how : Iteration) (xs : List Name) (body : IlPrem) → PremIsFormed defs p → out-IlPrem p ≡ IlPrem-F.Each how xs body → AreFormed defs (count_of how) × PremIsFormed defs body
formed_each defs p how xs body (formed.condition g eq f) is = let bad : IlPrem-F.If g ≡ IlPrem-F.Each how xs body = sym eq ∙ is in cc
formed_each defs p how xs body (formed.goal relation es eq f) is = let bad : IlPrem-F.Goal relation es ≡ IlPrem-F.Each how xs body = sym eq ∙ is in cc
formed_each defs p how xs body (formed.otherwise eq) is = let bad : IlPrem-F.Otherwise ≡ IlPrem-F.Each how xs body = sym eq ∙ is in cc
formed_each defs p how xs body (formed.each k ys b eq f g) is =
    let both : IlPrem-F.Each k ys b ≡ IlPrem-F.Each how xs body = sym eq ∙ is in
    let kk : k ≡ how = cc in
    let bb : b ≡ body = cc in
    (subst (λ z. AreFormed defs (count_of z)) kk f, subst (PremIsFormed defs) bb g)

abbrev EachKinded : List Listed → Iteration → List Name → IlPrem → Type 0
EachKinded ls how xs body = AreOfItsKind how xs ls × IsKinded (listed_inside how xs ls) body

kinded_each : (ls : List Listed) (p : IlPrem) (how : Iteration) (xs : List Name) (body : IlPrem) → IsKinded ls p → out-IlPrem p ≡ IlPrem-F.Each how xs body → EachKinded ls how xs body
kinded_each ls p how xs body (kinds.condition g eq) is = let bad : IlPrem-F.If g ≡ IlPrem-F.Each how xs body = sym eq ∙ is in cc
kinded_each ls p how xs body (kinds.goal relation es eq) is = let bad : IlPrem-F.Goal relation es ≡ IlPrem-F.Each how xs body = sym eq ∙ is in cc
kinded_each ls p how xs body (kinds.otherwise eq) is = let bad : IlPrem-F.Otherwise ≡ IlPrem-F.Each how xs body = sym eq ∙ is in cc
kinded_each ls p how xs body (kinds.each k ys b eq f g) is =
    let both : IlPrem-F.Each k ys b ≡ IlPrem-F.Each how xs body = sym eq ∙ is in
    let kk : k ≡ how = cc in
    let yy : ys ≡ xs = cc in
    let bb : b ≡ body = cc in
    subst (EachKinded ls how xs) bb (subst (λ z. EachKinded ls how z b) yy (subst (λ z. EachKinded ls z ys b) kk (f, g)))

abbrev EachApart : Iteration → List Name → IlPrem → Type 0
EachApart how xs body = ((e : IlExp) (c : Name) → count_of how ≡ e ∷ [] → out-IlExp e ≡ IlExp-F.Var c → has_name xs c ≡ false) × CountsAreApart body

apart_each : (p : IlPrem) (how : Iteration) (xs : List Name) (body : IlPrem) → CountsAreApart p → out-IlPrem p ≡ IlPrem-F.Each how xs body → EachApart how xs body
apart_each p how xs body (met.plain never) is = absurd (never how xs body is)
apart_each p how xs body (met.each k ys b eq f g) is =
    let both : IlPrem-F.Each k ys b ≡ IlPrem-F.Each how xs body = sym eq ∙ is in
    let kk : k ≡ how = cc in
    let yy : ys ≡ xs = cc in
    let bb : b ≡ body = cc in
    subst (EachApart how xs) bb (subst (λ z. EachApart how z b) yy (subst (λ z. EachApart z ys b) kk (f, g)))

module _ (il : Il) where
  pub typed_goal : (ls : List Listed) (p : IlPrem) (relation : Name) (es : List IlExp) → GoalsAreTyped il ls p → out-IlPrem p ≡ IlPrem-F.Goal relation es → IsTypedGoal il ls relation es
  typed_goal ls p relation es (searchable.condition g eq) is = let bad : IlPrem-F.If g ≡ IlPrem-F.Goal relation es = sym eq ∙ is in cc
  typed_goal ls p relation es (searchable.goal other gs eq t) is =
      let both : IlPrem-F.Goal other gs ≡ IlPrem-F.Goal relation es = sym eq ∙ is in
      let name : other ≡ relation = cc in
      let same : gs ≡ es = cc in
      subst (λ z. IsTypedGoal il ls z es) name (subst (IsTypedGoal il ls other) same t)
  typed_goal ls p relation es (searchable.otherwise eq) is = let bad : IlPrem-F.Otherwise ≡ IlPrem-F.Goal relation es = sym eq ∙ is in cc
  typed_goal ls p relation es (searchable.each k ys b eq g) is = let bad : IlPrem-F.Each k ys b ≡ IlPrem-F.Goal relation es = sym eq ∙ is in cc

  pub goals_each : (ls : List Listed) (p : IlPrem) (how : Iteration) (xs : List Name) (body : IlPrem) → GoalsAreTyped il ls p → out-IlPrem p ≡ IlPrem-F.Each how xs body → GoalsAreTyped il (listed_inside how xs ls) body
  goals_each ls p how xs body (searchable.condition g eq) is = let bad : IlPrem-F.If g ≡ IlPrem-F.Each how xs body = sym eq ∙ is in cc
  goals_each ls p how xs body (searchable.goal relation es eq t) is = let bad : IlPrem-F.Goal relation es ≡ IlPrem-F.Each how xs body = sym eq ∙ is in cc
  goals_each ls p how xs body (searchable.otherwise eq) is = let bad : IlPrem-F.Otherwise ≡ IlPrem-F.Each how xs body = sym eq ∙ is in cc
  goals_each ls p how xs body (searchable.each k ys b eq g) is =
      let both : IlPrem-F.Each k ys b ≡ IlPrem-F.Each how xs body = sym eq ∙ is in
      let kk : k ≡ how = cc in
      let yy : ys ≡ xs = cc in
      let bb : b ≡ body = cc in
      subst (GoalsAreTyped il (listed_inside how xs ls)) bb (subst (λ z. GoalsAreTyped il (listed_inside how z ls) b) yy (subst (λ z. GoalsAreTyped il (listed_inside z ys ls) b) kk g))

-- ---- what is told of a premise, by its level

abbrev lowering_of : Il → IlPrem → Lowering
lowering_of il = fold-IlPrem Lowering (lowering_at il)

lowering-level : (il : Il) (p : IlPrem) (y : IlPrem-F IlPrem) → out-IlPrem p ≡ y → lowering_of il p ≡ lowering_at il (map-IlPrem IlPrem Lowering (lowering_of il) y)
lowering-level il p y is = fold_out-IlPrem Lowering (lowering_at il) p ∙ ap (λ z. lowering_at il (map-IlPrem IlPrem Lowering (lowering_of il) z)) is

step-level : (il : Il) (bound : List Name) (p : IlPrem) (y : IlPrem-F IlPrem) → out-IlPrem p ≡ y → step_of il bound p ≡ (lowering_at il (map-IlPrem IlPrem Lowering (lowering_of il) y)).lowered bound
step-level il bound p y is = ap (λ (z : Lowering). z.lowered bound) (lowering-level il p y is)

lowering_vars : (il : Il) {p : IlPrem} → NamesOccurring p → (lowering_of il p).vars ≡ prem_vars p
lowering_vars il {p = p} (kinds.condition e is) = ap (λ (z : Lowering). z.vars) (lowering-level il p (IlPrem-F.If e) is) ∙ sym (prem-level p (IlPrem-F.If e) is)
lowering_vars il {p = p} (kinds.goal relation es is) = ap (λ (z : Lowering). z.vars) (lowering-level il p (IlPrem-F.Goal relation es) is) ∙ sym (prem-level p (IlPrem-F.Goal relation es) is)
lowering_vars il {p = p} (kinds.otherwise is) = ap (λ (z : Lowering). z.vars) (lowering-level il p IlPrem-F.Otherwise is) ∙ sym (prem-level p IlPrem-F.Otherwise is)
lowering_vars il {p = p} (kinds.each how xs body is own deeper) =
    ap (λ (z : Lowering). z.vars) (lowering-level il p (IlPrem-F.Each how xs body) is)
    ∙ (ap (λ z. prem_vars_at (IlPrem-F.Each how xs z)) (lowering_vars il deeper) ∙ sym (prem-level p (IlPrem-F.Each how xs body) is))

runs_vars : (il : Il) {p : IlPrem} → NamesOccurring p → (runs_of il p).vars ≡ prem_vars p
runs_vars il {p = p} (kinds.condition e is) = ap (λ (z : exec.Runs). z.vars) (runs-level il p (IlPrem-F.If e) is) ∙ sym (prem-level p (IlPrem-F.If e) is)
runs_vars il {p = p} (kinds.goal relation es is) = ap (λ (z : exec.Runs). z.vars) (runs-level il p (IlPrem-F.Goal relation es) is) ∙ sym (prem-level p (IlPrem-F.Goal relation es) is)
runs_vars il {p = p} (kinds.otherwise is) = ap (λ (z : exec.Runs). z.vars) (runs-level il p IlPrem-F.Otherwise is) ∙ sym (prem-level p IlPrem-F.Otherwise is)
runs_vars il {p = p} (kinds.each how xs body is own deeper) =
    ap (λ (z : exec.Runs). z.vars) (runs-level il p (IlPrem-F.Each how xs body) is)
    ∙ (ap (λ z. prem_vars_at (IlPrem-F.Each how xs z)) (runs_vars il deeper) ∙ sym (prem-level p (IlPrem-F.Each how xs body) is))

-- ---- the same of these names is bound

both_true : (a b : Bool) → a ≡ true → b ≡ true → (a && b) ≡ true
both_true true b p q = q
both_true false b p q = cc

module _ (few bound names : List Name) (alike : (x : Name) → has_name names x ≡ true → has_name few x ≡ has_name bound x) where
  known_alike : (xs : List Name) → Within xs names → all_known few xs ≡ all_known bound xs
  known_alike [] w = refl
  known_alike (x ∷ xs) w =
      ap₂ (λ y z. y && z) (alike x (w x (or-left (bytes_eq x x) (has_name xs x) (bytes-same x))))
      (known_alike xs (λ y k. w y (or-right (bytes_eq y x) (has_name xs y) k)))

  any_alike : (xs : List Name) → Within xs names → list_any (has_name few) xs ≡ list_any (has_name bound) xs
  any_alike [] w = refl
  any_alike (x ∷ xs) w =
      ap₂ (λ y z. y || z) (alike x (w x (or-left (bytes_eq x x) (has_name xs x) (bytes-same x))))
      (any_alike xs (λ y k. w y (or-right (bytes_eq y x) (has_name xs y) k)))

  one_known_alike : (es : List IlExp) → Within (vars_of es) names → list_any (λ (e : IlExp). all_known few (vars e)) es ≡ list_any (λ (e : IlExp). all_known bound (vars e)) es
  one_known_alike [] w = refl
  one_known_alike (e ∷ es) w =
      ap₂ (λ y z. y || z) (known_alike (vars e) (λ x k. w x (within-left (vars e) (vars_of es) x k))) (one_known_alike es (λ x k. w x (within-right (vars e) (vars_of es) x k)))

  countable_alike : (es : List IlExp) → Within (vars_of es) names → list_all (is_countable few) es ≡ list_all (is_countable bound) es
  countable_alike [] w = refl
  countable_alike (e ∷ es) w =
      ap₂ (λ y z. (y || is_variable_at (out-IlExp e)) && z) (known_alike (vars e) (λ x k. w x (within-left (vars e) (vars_of es) x k))) (countable_alike es (λ x k. w x (within-right (vars e) (vars_of es) x k)))

  behind_alike : (ys xs : List Name) → Within xs names → all_known (few ++ ys) xs ≡ true → all_known (bound ++ ys) xs ≡ true
  behind_alike ys xs w h = known_all (bound ++ ys) xs (λ x i. elim (within-cases few ys x (known-within (few ++ ys) xs h x i)) [
    | inl j ↦ within-left bound ys x (sym (alike x (w x i)) ∙ j)
    | inr j ↦ within-right bound ys x j
  ])

  met_alike : (ys : List Name) (es : List IlExp) → Within (vars_of es) names → list_all (is_met few (few ++ ys)) es ≡ true → list_all (is_met bound (bound ++ ys)) es ≡ true
  met_alike ys [] w h = refl
  met_alike ys (e ∷ es) w h =
      let both = and-both (is_met few (few ++ ys) e) (list_all (is_met few (few ++ ys)) es) h in
      both_true (is_met bound (bound ++ ys) e) (list_all (is_met bound (bound ++ ys)) es)
      (one (or-cases (all_known few (vars e)) (is_pattern e && all_known (few ++ ys) (vars e)) both.0))
      (met_alike ys es (λ x k. w x (within-right (vars e) (vars_of es) x k)) both.1)
    where
      own : Within (vars e) names
      own x k = w x (within-left (vars e) (vars_of es) x k)

      one : (all_known few (vars e) ≡ true) ⊎ ((is_pattern e && all_known (few ++ ys) (vars e)) ≡ true) → is_met bound (bound ++ ys) e ≡ true
      one (inl k) = or-left (all_known bound (vars e)) (is_pattern e && all_known (bound ++ ys) (vars e)) (sym (known_alike (vars e) own) ∙ k)
      one (inr k) =
          let pair = and-both (is_pattern e) (all_known (few ++ ys) (vars e)) k in
          or-right (all_known bound (vars e)) (is_pattern e && all_known (bound ++ ys) (vars e)) (both_true (is_pattern e) (all_known (bound ++ ys) (vars e)) pair.0 (behind_alike ys (vars e) own pair.1))

-- ---- conditions

two_formed : (defs : List SyntaxDef) (a b : IlExp) → AreFormed defs (a ∷ b ∷ []) → IsFormed defs a × IsFormed defs b
two_formed defs a b (formed.more f (formed.more g rest)) = (f, g)

sides_formed : (defs : List SyntaxDef) (e a b : IlExp) → out-IlExp e ≡ IlExp-F.Eq a b → IsFormed defs e → IsFormed defs a × IsFormed defs b
sides_formed defs e a b is (formed.strict es f h all) =
    let same = HasForm-single defs e _ _ h (equation_form defs e a b is) in
    let ee : es ≡ a ∷ b ∷ [] = cc in
    two_formed defs a b (subst (AreFormed defs) ee all)
sides_formed defs e a b is (formed.variable x h) = let same = HasForm-single defs e _ _ h (equation_form defs e a b is) in cc
sides_formed defs e a b is (formed.call fun args h all) = let same = HasForm-single defs e _ _ h (equation_form defs e a b is) in cc
sides_formed defs e a b is (formed.iteration how xs body h count g) = let same = HasForm-single defs e _ _ h (equation_form defs e a b is) in cc

module _ (il : Il) (few bound : List Name) (ls : List Listed) (p : IlPrem) (e : IlExp) (is : out-IlPrem p ≡ IlPrem-F.If e) (alike : (x : Name) → has_name (prem_vars p) x ≡ true → has_name few x ≡ has_name bound x)
    (form : IsFormed (syntaxes il) e) (listed : all_known (listed_names ls) (vars e) ≡ true) where
  own_vars : Within (vars e) (prem_vars p)
  own_vars x i = subst (λ z. has_name z x ≡ true) (sym (prem-level p (IlPrem-F.If e) is)) i

  sides_within : (a b : IlExp) → out-IlExp e ≡ IlExp-F.Eq a b → Within (vars a) (vars e) × Within (vars b) (vars e)
  sides_within a b o =
      let vars_are = vars-form (syntaxes il) e (Strict (a ∷ b ∷ []) (binary equality)) (equation_form (syntaxes il) e a b o) in (
        λ x i. subst (λ z. has_name z x ≡ true) (sym vars_are) (within-left (vars a) (vars b ++ []) x i),
        λ x i. subst (λ z. has_name z x ≡ true) (sym vars_are) (within-right (vars a) (vars b ++ []) x (within-left (vars b) [] x i)),
      )

  both_known : (a b : IlExp) → out-IlExp e ≡ IlExp-F.Eq a b → all_known bound (vars a) ≡ true → all_known bound (vars b) ≡ true → all_known bound (vars e) ≡ true
  both_known a b o ka kb =
      known_all bound (vars e) (λ x i.
      elim (within-cases (vars a) (vars b ++ []) x (subst (λ z. has_name z x ≡ true) (vars-form (syntaxes il) e (Strict (a ∷ b ∷ []) (binary equality)) (equation_form (syntaxes il) e a b o)) i)) [
        | inl j ↦ known-within bound (vars a) ka x j
        | inr j ↦ elim (within-cases (vars b) [] x j) [ inl k ↦ known-within bound (vars b) kb x k | inr k ↦ cc ]
      ])

  abbrev IsSided : IlExp → IlExp → Type 0
  IsSided side pattern = (out-IlExp e ≡ IlExp-F.Eq side pattern) ⊎ (out-IlExp e ≡ IlExp-F.Eq pattern side)

  side_parts : (side pattern : IlExp) → IsSided side pattern → Within (vars side) (vars e) × Within (vars pattern) (vars e)
  side_parts side pattern (inl o) = sides_within side pattern o
  side_parts side pattern (inr o) = let w = sides_within pattern side o in (w.1, w.0)

  side_forms : (side pattern : IlExp) → IsSided side pattern → IsFormed (syntaxes il) side × IsFormed (syntaxes il) pattern
  side_forms side pattern (inl o) = sides_formed (syntaxes il) e side pattern o form
  side_forms side pattern (inr o) = let w = sides_formed (syntaxes il) e pattern side o form in (w.1, w.0)

  not_both : (side pattern : IlExp) → IsSided side pattern → all_known bound (vars side) ≡ true → all_known bound (vars pattern) ≡ true → all_known bound (vars e) ≡ true
  not_both side pattern (inl o) ks kp = both_known side pattern o ks kp
  not_both side pattern (inr o) ks kp = both_known pattern side o kp ks

  equation_of : all_known bound (vars e) ≡ false → (side pattern : IlExp) → IsSided side pattern → is_matched few side pattern ≡ true → IsEquation il bound ls e side pattern
  equation_of unknown side pattern o m =
      let w = and-both (all_known few (vars side) && is_pattern pattern) (all_known (few ++ binds pattern) (vars pattern)) m in
      let v = and-both (all_known few (vars side)) (is_pattern pattern) w.0 in
      let parts = side_parts side pattern o in
      let known : all_known bound (vars side) ≡ true = sym (known_alike few bound (prem_vars p) alike (vars side) (λ x i. own_vars x (parts.0 x i))) ∙ v.0 in
      record {
        sides = (o, known, open_side (all_known bound (vars pattern)) refl (λ k. true_false (sym (not_both side pattern o known k) ∙ unknown)));
        side_formed = (side_forms side pattern o).0;
        pattern_formed = (side_forms side pattern o).1;
        matched = v.1;
        bound_too = behind_alike few bound (prem_vars p) alike (binds pattern) (vars pattern) (λ x i. own_vars x (parts.1 x i)) w.1;
        listed = listed;
      }
    where
      open_side : (b : Bool) → all_known bound (vars pattern) ≡ b → (all_known bound (vars pattern) ≡ true → ⊥) → all_known bound (vars pattern) ≡ false
      open_side true k never = absurd (never k)
      open_side false k never = k

  condition_by : (c : Class) → class_of_condition few e ≡ Some c → IsRunBy il bound ls p (step_of_condition few e)
  condition_by c h = at (all_known few (vars e)) refl h
    where
      by_form : all_known bound (vars e) ≡ false → (y : IlExp-F IlExp Iteration ListItem PathSeg) → out-IlExp e ≡ y → class_of_equation few y ≡ Some c → IsRunBy il bound ls p (step_of_equation few e y)
      by_form unknown (IlExp-F.Eq a b) eq h = first (is_matched few a b) refl (is_matched few b a) refl h
        where
          first : (m : Bool) → is_matched few a b ≡ m → (n : Bool) → is_matched few b a ≡ n → (if m then Some (Equation b) else if n then Some (Equation a) else None) ≡ Some c
              → IsRunBy il bound ls p (if m then step.Let b a else if n then step.Let a b else step.Test e)
          first true m n k h = run.binds e a b is (step.outs-Let b a) (equation_of unknown a b (inl eq) m)
          first false m true k h = run.binds e b a is (step.outs-Let a b) (equation_of unknown b a (inr eq) k)
          first false m false k h = cc
      by_form unknown _ eq h = cc

      at : (k : Bool) → all_known few (vars e) ≡ k → (if k then Some Test else class_of_equation few (out-IlExp e)) ≡ Some c → IsRunBy il bound ls p (if k then step.Test e else step_of_equation few e (out-IlExp e))
      at true k h = run.test e is (step.outs-Test e) (sym (known_alike few bound (prem_vars p) alike (vars e) own_vars) ∙ k) form
      at false k h = by_form (sym (known_alike few bound (prem_vars p) alike (vars e) own_vars) ∙ k) (out-IlExp e) refl h

-- ---- what is listed inside

names_both : (ls ms : List Listed) → listed_names (ls ++ ms) ≡ listed_names ls ++ listed_names ms
names_both [] ms = refl
names_both (l ∷ ls) ms = ap (λ z. l.name ∷ z) (names_both ls ms)

index_names : (index : List Name) → listed_names (indices index) ≡ index
index_names [] = refl
index_names (i ∷ is) = ap (λ z. i ∷ z) (index_names is)

stepped_names : (xs : List Name) (ls : List Listed) → listed_names (stepped_all xs ls) ≡ listed_names ls
stepped_names xs [] = refl
stepped_names xs (l ∷ ls) = ap (λ z. l.name ∷ z) (stepped_names xs ls)

inside_names : (how : Iteration) (xs : List Name) (ls : List Listed) → listed_names (listed_inside how xs ls) ≡ index_of how ++ listed_names ls
inside_names how xs ls = names_both (indices (index_of how)) (stepped_all xs ls) ∙ ap₂ (λ y z. y ++ z) (index_names (index_of how)) (stepped_names xs ls)

-- ---- names that are among others

among_keeps : (some xs : List Name) (x : Name) → has_name some x ≡ true → has_name xs x ≡ true → has_name (among some xs) x ≡ true
among_keeps some [] x k h = h
among_keeps some (y ∷ ys) x k h = at (has_name some y) refl (or-cases (bytes_eq x y) (has_name ys x) h) (among_keeps some ys x k)
  where
    at : (b : Bool) → has_name some y ≡ b → (bytes_eq x y ≡ true) ⊎ (has_name ys x ≡ true) → (has_name ys x ≡ true → has_name (among some ys) x ≡ true) → has_name (if b then y ∷ among some ys else among some ys) x ≡ true
    at true j (inl same) later = or-left (bytes_eq x y) (has_name (among some ys) x) same
    at true j (inr i) later = or-right (bytes_eq x y) (has_name (among some ys) x) (later i)
    at false j (inl same) later = absurd (true_false (sym k ∙ (ap (has_name some) (bytes-path x y same) ∙ j)))
    at false j (inr i) later = later i

among_of : (some xs : List Name) (x : Name) → has_name (among some xs) x ≡ true → has_name some x ≡ true
among_of some [] x h = cc
among_of some (y ∷ ys) x h = at (has_name some y) refl (among_of some ys x) h
  where
    at : (b : Bool) → has_name some y ≡ b → (has_name (among some ys) x ≡ true → has_name some x ≡ true) → has_name (if b then y ∷ among some ys else among some ys) x ≡ true → has_name some x ≡ true
    at true j ih h = elim (or-cases (bytes_eq x y) (has_name (among some ys) x) h) [ inl e ↦ subst (λ z. has_name some z ≡ true) (sym (bytes-path x y e)) j | inr later ↦ ih later ]
    at false j ih h = ih h

among_in : (some xs : List Name) (x : Name) → has_name (among some xs) x ≡ true → has_name xs x ≡ true
among_in some [] x h = h
among_in some (y ∷ ys) x h = at (has_name some y) (among_in some ys x) h
  where
    at : (b : Bool) → (has_name (among some ys) x ≡ true → has_name ys x ≡ true) → has_name (if b then y ∷ among some ys else among some ys) x ≡ true → has_name (y ∷ ys) x ≡ true
    at true ih h = elim (or-cases (bytes_eq x y) (has_name (among some ys) x) h) [ inl e ↦ or-left (bytes_eq x y) (has_name ys x) e | inr later ↦ or-right (bytes_eq x y) (has_name ys x) (ih later) ]
    at false ih h = or-right (bytes_eq x y) (has_name ys x) (ih h)

each_tests : (a b d : Bool) (class : Option Class) (c : Class) → (if a && b && d then class else None) ≡ Some c → (a ≡ true) × (b ≡ true) × (d ≡ true) × (class ≡ Some c)
each_tests true true true class c h = (refl, refl, refl, h)
each_tests true true false class c h = cc
each_tests true false d class c h = cc
each_tests false b d class c h = cc

goal_tests : (a b : Bool) (c : Class) → (if a && b then Some Judgement else None) ≡ Some c → (a ≡ true) × (b ≡ true)
goal_tests true true c h = (refl, refl)
goal_tests true false c h = cc
goal_tests false b c h = cc

-- ---- an iterated premise

module _ (il : Il) (few bound : List Name) (ls : List Listed) (p : IlPrem) (how : Iteration) (xs : List Name) (body : IlPrem) (is : out-IlPrem p ≡ IlPrem-F.Each how xs body)
    (alike : (x : Name) → has_name (prem_vars p) x ≡ true → has_name few x ≡ has_name bound x) (listed : all_known (listed_names ls) (bound ++ prem_vars p) ≡ true) where
  abbrev others : List Name
  others = without xs (without (index_of how) (prem_vars body))

  all_vars : prem_vars p ≡ vars_of (count_of how) ++ xs ++ without (index_of how) (prem_vars body)
  all_vars = prem-level p (IlPrem-F.Each how xs body) is

  count_within : Within (vars_of (count_of how)) (prem_vars p)
  count_within x i = subst (λ z. has_name z x ≡ true) (sym all_vars) (within-left (vars_of (count_of how) ++ xs) (without (index_of how) (prem_vars body)) x (within-left (vars_of (count_of how)) xs x i))

  xs_within : Within xs (prem_vars p)
  xs_within x i = subst (λ z. has_name z x ≡ true) (sym all_vars) (within-left (vars_of (count_of how) ++ xs) (without (index_of how) (prem_vars body)) x (within-right (vars_of (count_of how)) xs x i))

  body_within : (x : Name) → has_name (index_of how) x ≡ false → has_name (prem_vars body) x ≡ true → has_name (prem_vars p) x ≡ true
  body_within x k i = subst (λ z. has_name z x ≡ true) (sym all_vars) (within-right (vars_of (count_of how) ++ xs) (without (index_of how) (prem_vars body)) x (without-other (index_of how) (prem_vars body) x k i))

  others_within : Within others (prem_vars p)
  others_within x i =
      let w = without-parts xs (without (index_of how) (prem_vars body)) x i in
      let v = without-parts (index_of how) (prem_vars body) x w.1 in
      body_within x v.0 v.1

  -- inside the same is bound of the variables of the body
  inside_alike : all_known few others ≡ true → (x : Name) → has_name (prem_vars body) x ≡ true → has_name (bound_inside few how xs others) x ≡ has_name (index_of how ++ bound) x
  inside_alike known x i = same_truth (has_name (bound_inside few how xs others) x) (has_name (index_of how ++ bound) x)
      (λ k. elim (within-cases (among few xs ++ others) (index_of how) x k) [
        | inl j ↦ within-right (index_of how) bound x (elim (within-cases (among few xs) others x j) [
          | inl m ↦ sym (alike x (among_within m)) ∙ among_of few xs x m
          | inr m ↦ sym (alike x (others_within x m)) ∙ known-within few others known x m
        ])
        | inr j ↦ within-left (index_of how) bound x j
      ])
      (λ k. elim (within-cases (index_of how) bound x k) [
        | inl j ↦ within-right (among few xs ++ others) (index_of how) x j
        | inr j ↦ by_index (has_name (index_of how) x) refl j
      ])
    where
      among_within : has_name (among few xs) x ≡ true → has_name (prem_vars p) x ≡ true
      among_within m = xs_within x (among_in few xs x m)

      by_index : (b : Bool) → has_name (index_of how) x ≡ b → has_name bound x ≡ true → has_name (bound_inside few how xs others) x ≡ true
      by_index true k j = within-right (among few xs ++ others) (index_of how) x k
      by_index false k j = by_xs (has_name xs x) refl
        where
          by_xs : (c : Bool) → has_name xs x ≡ c → has_name (bound_inside few how xs others) x ≡ true
          by_xs true m = within-left (among few xs ++ others) (index_of how) x (within-left (among few xs) others x (among_keeps few xs x (alike x (xs_within x m) ∙ j) m))
          by_xs false m = within-left (among few xs ++ others) (index_of how) x (within-right (among few xs) others x (without-other xs (without (index_of how) (prem_vars body)) x m (without-other (index_of how) (prem_vars body) x k i)))

  bound_listed : Within bound (listed_names ls)
  bound_listed x i = known-within (listed_names ls) (bound ++ prem_vars p) listed x (within-left bound (prem_vars p) x i)

  inside_listed : all_known (listed_names (listed_inside how xs ls)) ((index_of how ++ bound) ++ prem_vars body) ≡ true
  inside_listed = known_all (listed_names (listed_inside how xs ls)) ((index_of how ++ bound) ++ prem_vars body) (λ x i. subst (λ z. has_name z x ≡ true) (sym (inside_names how xs ls))
      (elim (within-cases (index_of how ++ bound) (prem_vars body) x i) [
        | inl j ↦ elim (within-cases (index_of how) bound x j) [ inl k ↦ within-left (index_of how) (listed_names ls) x k | inr k ↦ within-right (index_of how) (listed_names ls) x (bound_listed x k) ]
        | inr j ↦ by_index x j (has_name (index_of how) x) refl
      ]))
    where
      by_index : (x : Name) → has_name (prem_vars body) x ≡ true → (b : Bool) → has_name (index_of how) x ≡ b → has_name (index_of how ++ listed_names ls) x ≡ true
      by_index x j true k = within-left (index_of how) (listed_names ls) x k
      by_index x j false k = within-right (index_of how) (listed_names ls) x (known-within (listed_names ls) (bound ++ prem_vars p) listed x (within-right bound (prem_vars p) x (body_within x k j)))

-- ---- premises

module _ (il : Il) where
  abbrev Alike : List Name → List Name → IlPrem → Type 0
  Alike few bound p = (x : Name) → has_name (prem_vars p) x ≡ true → has_name few x ≡ has_name bound x

  -- an executable premise can be run by its step
  pub run_by : {p : IlPrem} → NamesOccurring p → (few bound : List Name) (ls : List Listed) (c : Class) → Alike few bound p → class_of il few p ≡ Some c → PremIsFormed (syntaxes il) p → IsKinded ls p → CountsAreApart p → GoalsAreTyped il ls p
      → all_known (listed_names ls) (bound ++ prem_vars p) ≡ true → IsRunBy il bound ls p (step_of il few p)
  run_by {p = p} (kinds.condition e is) few bound ls c alike h form kinded apart goals listed =
      subst (IsRunBy il bound ls p) (sym (step-level il few p (IlPrem-F.If e) is))
      (condition_by il few bound ls p e is alike (formed_condition (syntaxes il) p e form is)
      (known_all (listed_names ls) (vars e) (λ x i. known-within (listed_names ls) (bound ++ prem_vars p) listed x (within-right bound (prem_vars p) x (subst (λ z. has_name z x ≡ true) (sym (prem-level p (IlPrem-F.If e) is)) i))))
      c (sym (class-level il few p (IlPrem-F.If e) is) ∙ h))
  run_by {p = p} (kinds.goal relation es is) few bound ls c alike h form kinded apart goals listed =
      let own : Within (vars_of es) (prem_vars p) = λ x i. subst (λ z. has_name z x ≡ true) (sym (prem-level p (IlPrem-F.Goal relation es) is)) i in
      let t = goal_tests (all_known few (vars_of (inputs_of il relation es))) (list_all (is_met few (few ++ bound_by (outputs_of il relation es))) (outputs_of il relation es)) c (sym (class-level il few p (IlPrem-F.Goal relation es) is) ∙ h) in
      subst (IsRunBy il bound ls p) (sym (step-level il few p (IlPrem-F.Goal relation es) is))
      (run.goal relation es is (step.outs-Goal relation (inputs_of il relation es) (outputs_of il relation es)) (record {
        known = sym (known_alike few bound (prem_vars p) alike (vars_of (inputs_of il relation es)) (λ x i. own x (vars_by (mask il relation) es x i))) ∙ t.0;
        met = met_alike few bound (prem_vars p) alike (bound_by (outputs_of il relation es)) (outputs_of il relation es) (λ x i. own x (vars_by (map not (mask il relation)) es x i)) t.1;
        formed = formed_goal (syntaxes il) p relation es form is;
        typed = typed_goal il ls p relation es goals is;
        listed = known_all (listed_names ls) (vars_of es) (λ x i. known-within (listed_names ls) (bound ++ prem_vars p) listed x (within-right bound (prem_vars p) x (own x i)));
      }))
  run_by {p = p} (kinds.otherwise is) few bound ls c alike h form kinded apart goals listed =
      subst (IsRunBy il bound ls p) (sym (step-level il few p IlPrem-F.Otherwise is)) (run.otherwise is step.outs-Otherwise)
  run_by {p = p} (kinds.each how xs body is own deeper) few bound ls c alike h form kinded apart goals listed =
      let rest : List Name = without xs (without (index_of how) (prem_vars body)) in
      let class = subst (λ z. (if is_anchored few how xs && list_all (is_countable few) (count_of how) && all_known few (without xs (without (index_of how) z)) then (runs_of il body).class (bound_inside few how xs (without xs (without (index_of how) z))) else None) ≡ Some c)
      (runs_vars il deeper) (sym (class-level il few p (IlPrem-F.Each how xs body) is) ∙ h) in
      let t = each_tests (is_anchored few how xs) (list_all (is_countable few) (count_of how)) (all_known few rest) ((runs_of il body).class (bound_inside few how xs rest)) c class in
      let forms = formed_each (syntaxes il) p how xs body form is in
      let kind = kinded_each ls p how xs body kinded is in
      let counts = apart_each p how xs body apart is in
      subst (IsRunBy il bound ls p) (sym (step-level il few p (IlPrem-F.Each how xs body) is))
      (subst (λ z. IsRunBy il bound ls p (step.Loop how xs ((lowering_of il body).lowered (bound_inside few how xs (without xs (without (index_of how) z)))))) (sym (lowering_vars il deeper))
      (run.each how xs body (step_of il (bound_inside few how xs rest) body) (step.outs-Loop how xs (step_of il (bound_inside few how xs rest) body)) (record {
        is = is;
        anchored = sym (ap₂ (λ y z. y || z) (any_alike few bound (prem_vars p) alike xs (xs_within il few bound ls p how xs body is alike listed)) (one_known_alike few bound (prem_vars p) alike (count_of how) (count_within il few bound ls p how xs body is alike listed))) ∙ t.0;
        countable = sym (countable_alike few bound (prem_vars p) alike (count_of how) (count_within il few bound ls p how xs body is alike listed)) ∙ t.1;
        others = sym (known_alike few bound (prem_vars p) alike rest (others_within il few bound ls p how xs body is alike listed)) ∙ t.2;
        formed = forms.0;
        own = own;
        kinded = kind.0;
        apart = λ e count one v unbound. counts.0 e count one v;
        listed = listed;
      })
      (run_by deeper (bound_inside few how xs rest) (index_of how ++ bound) (listed_inside how xs ls) c (inside_alike il few bound ls p how xs body is alike listed t.2) t.3 forms.1 kind.1 counts.1 (goals_each il ls p how xs body goals is)
      (inside_listed il few bound ls p how xs body is alike listed))))

-- ---- the premises of a rule in its order

module _ (P : IlPrem → Type 0) (ps : List IlPrem) (all : All P ps) where
  number_has : (k : ℕ) (o : Option IlPrem) → premise_at ps k ≡ o → AllByRecursion P (option_list o)
  number_has k None e = tt
  number_has zero (Some p) e = cc
  number_has (suc k) (Some p) e = (All-contains P ps p all (contains_got ps k p e), tt)

  order_has : (order : List ℕ) → AllByRecursion P (in_order ps order)
  order_has [] = tt
  order_has (k ∷ ks) = Each-append P (option_list (premise_at ps k)) (in_order ps ks) (number_has k (premise_at ps k) refl) (order_has ks)

  at_split : (qs before : List IlPrem) (p : IlPrem) (after : List IlPrem) → AllByRecursion P qs → qs ≡ before ++ p ∷ after → P p
  at_split [] [] p after h e = cc
  at_split [] (b ∷ before) p after h e = cc
  at_split (q ∷ qs) [] p after h e = let same : q ≡ p = cc in subst P same h.0
  at_split (q ∷ qs) (b ∷ before) p after h e = let rest : qs ≡ before ++ p ∷ after = cc in at_split qs before p after h.1 rest

  -- what all premises have each in an order has
  pub premise_has : (order : List ℕ) (before : List IlPrem) (p : IlPrem) (after : List IlPrem) → in_order ps order ≡ before ++ p ∷ after → P p
  premise_has order before p after split = at_split (in_order ps order) before p after (order_has order) split

module _ (il : Il) (rule : RuleDef) (can : CanBeRun il rule) (order : List ℕ) (is_order_of : order_of il rule ≡ Ok order) (before : List IlPrem) (p : IlPrem) (after : List IlPrem) (split : in_order rule.premises order ≡ before ++ p ∷ after) where
  -- each premise of a rule can be run by its step
  pub premise_by : IsRunBy il (bound_behind (inputs_of_rule il rule) before) rule.variables p (step_of il (bound_behind (inputs_of_rule il rule) before) p)
  premise_by =
      let found = run_split il (vars_of (outputs_of_rule il rule)) before (vars_of (inputs_of_rule il rule)) p after
      (subst (λ z. run_on il (vars_of (inputs_of_rule il rule)) z (vars_of (outputs_of_rule il rule)) ≡ true) split (order_parts il rule can order is_order_of).2) in
      run_by il (premise_has NamesOccurring rule.premises can.names_occurring order before p after split) (bound_behind (inputs_of_rule il rule) before) (bound_behind (inputs_of_rule il rule) before) rule.variables found.0 (λ x i. refl) found.1
      (premise_has (PremIsFormed (syntaxes il)) rule.premises can.formed.1 order before p after split) (premise_has (IsKinded rule.variables) rule.premises can.kinded order before p after split)
      (premise_has CountsAreApart rule.premises can.apart order before p after split) (premise_has (GoalsAreTyped il rule.variables) rule.premises can.goals order before p after split)
      (subst (λ z. all_known (listed_names rule.variables) z ≡ true) (sym (behind_next (inputs_of_rule il rule) before p))
      (behind_listed il rule can order (before ++ p ∷ []) after (split ∙ sym (append_assoc before (p ∷ []) after))))

-- the step of a premise stands at its position
pub step_there : (il : Il) (bound : List Name) (before : List IlPrem) (p : IlPrem) (after : List IlPrem) → slice_get (steps_of il bound (before ++ p ∷ after)) (length before) ≡ Some (step_of il (bound ++ prems_vars before) p)
step_there il bound [] p after = ap (λ z. Some (step_of il z p)) (sym (append-nil bound))
step_there il bound (q ∷ before) p after = step_there il (bound ++ prem_vars q) before p after ∙ ap (λ z. Some (step_of il z p)) (append_assoc bound (prem_vars q) (prems_vars before))
