-- A condition that is met with those of the bound variables that occur in it.
use Rattle.std.proofs.Common.{◌≡◌, ℕ, refl, sym, ◌∙◌, ap, ap₂, subst, List, [], ◌∷◌, ◌++◌, ◌⊎◌, inl, inr, Bool, true, false, ◌&&◌, if◌then◌else◌, Some, None, bytes_eq}
use Rattle.st_il.specs.declared.definition.Il.{Il}
use Rattle.st_il.specs.declared.definition.Listed.{Listed}
use Rattle.st_il.specs.declared.expression.IlExp.{IlExp, out-IlExp}
use Rattle.st_il.specs.declared.expression.IlExp.TheOpen.{IlExp-F}
use Rattle.st_il.specs.declared.expression.Iteration.{Iteration}
use Rattle.st_il.specs.declared.expression.ListItem.{ListItem}
use Rattle.st_il.specs.declared.expression.PathSeg.{PathSeg}
use Rattle.st_il.specs.declared.expression.IlPrem.{IlPrem, out-IlPrem}
use Rattle.st_il.specs.declared.expression.IlPrem.TheOpen.{IlPrem-F}
use Rattle.st_il.specs.declared.expression.IlPrem.TheVariants as prem
use Rattle.st_il.specs.declared.value.Env.{Env}
use Rattle.st_il.specs.Names.{Name, has_name, all_known}
use Rattle.st_il.specs.Definitions.{syntaxes}
use Rattle.st_semantics.specs.Environments.{Entry, names_of, value_in, type_of, listed_as, AgreeOn, IsSomeTyped}
use Rattle.st_semantics.specs.Parts.{binary}
use Rattle.st_semantics.specs.Operators.{equality}
use Rattle.st_semantics.specs.Forms.{Strict}
use Rattle.st_semantics.specs.Variables.{vars, prem_vars}
use Rattle.st_semantics.specs.Patterns.{binds}
use Rattle.st_semantics.specs.Depth as d
use Rattle.st_semantics.specs.Depth.{evaluated, side_at, bound_side, MeetsHere}
use Rattle.st_semantics.specs.Calls.{no_goal, in_clause, CallAt}
use Rattle.st_semantics.proofs.Names.{Within, within-cases, within-left, within-right, or-cases, or-left, or-right, bytes-same, known-within, true_false, vars-form, prem-level, without-other}
use Rattle.st_semantics.proofs.Agree.{Gives-agree, Holds-agree, value_by-local}
use Rattle.st_semantics.proofs.Premises.{without-parts}
use Rattle.st_semantics.proofs.Values.{equation_form}
use Rattle.st_eval.specs.Steps.{value_at, MeetsAt, HasOnly, HoldsWith, Fails}
use Rattle.st_eval.specs.Meeting.{IsMet, IsEquation, IsCondition}
use Rattle.st_eval.specs.declared.condition.Met.{Met}
use Rattle.st_eval.specs.declared.condition.Met.TheVariants as met
use Rattle.st_eval.specs.inner.Beside.{entries_among, beside, met_beside}
use Rattle.st_eval.proofs.Conditions.{same_truth}
use Rattle.st_eval.proofs.Trying.{known_all}
use Rattle.st_eval.proofs.Lookups.{lookup-first, lookup-behind, names_in-append, entries_among-lookup, entries_among-name, entries_among-names}

module _ (il : Il) (n : ℕ) (bound : List Name) (ls : List Listed) (env : Env) (p : IlPrem) (e : IlExp) (is : out-IlPrem p ≡ IlPrem-F.If e) (only : HasOnly il ls bound env) where
  -- the environment of those that occur
  abbrev pub Few : Env
  Few = record { entries = entries_among env (vars e) }

  few_value : (x : Name) → has_name (vars e) x ≡ true → value_in Few x ≡ value_in env x
  few_value x i = entries_among-lookup env (vars e) x ∙ ap (λ z. if z then value_in env x else None) i

  few_name : (x : Name) → has_name (vars e) x ≡ true → has_name (names_of Few) x ≡ has_name bound x
  few_name x i = entries_among-name env (vars e) x i ∙ only.names_are x

  few_inside : (x : Name) → has_name (names_of Few) x ≡ true → (has_name (vars e) x ≡ true) × (has_name bound x ≡ true)
  few_inside x i = let w = entries_among-names env (vars e) x i in (w.0, sym (only.names_are x) ∙ w.1)

  pub few_only : HasOnly il ls (names_of Few) Few
  few_only = record {
    names_are = λ x. refl;
    typed = λ x i l at. let w = few_inside x i in subst (IsSomeTyped (syntaxes il) (type_of l)) (sym (few_value x w.0)) (only.typed x w.1 l at);
  }

  -- ---- what can be met

  known_few : (xs : List Name) → Within xs (vars e) → all_known (names_of Few) xs ≡ all_known bound xs
  known_few [] w = refl
  known_few (x ∷ xs) w =
      ap₂ (λ y z. y && z) (few_name x (w x (or-left (bytes_eq x x) (has_name xs x) (bytes-same x))))
      (known_few xs (λ y k. w y (or-right (bytes_eq y x) (has_name xs y) k)))

  sides_within : (a b : IlExp) → out-IlExp e ≡ IlExp-F.Eq a b → Within (vars a) (vars e) × Within (vars b) (vars e)
  sides_within a b o =
      let vars_are = vars-form (syntaxes il) e (Strict (a ∷ b ∷ []) (binary equality)) (equation_form (syntaxes il) e a b o) in (
        λ x i. subst (λ z. has_name z x ≡ true) (sym vars_are) (within-left (vars a) (vars b ++ []) x i),
        λ x i. subst (λ z. has_name z x ≡ true) (sym vars_are) (within-right (vars a) (vars b ++ []) x (within-left (vars b) [] x i)),
      )

  both_within : (side pattern : IlExp) → (out-IlExp e ≡ IlExp-F.Eq side pattern) ⊎ (out-IlExp e ≡ IlExp-F.Eq pattern side) → Within (vars side) (vars e) × Within (vars pattern) (vars e)
  both_within side pattern (inl o) = sides_within side pattern o
  both_within side pattern (inr o) = let w = sides_within pattern side o in (w.1, w.0)

  equation_few : (side pattern : IlExp) → IsEquation il bound ls e side pattern → IsEquation il (names_of Few) ls e side pattern
  equation_few side pattern eq =
      let w = both_within side pattern eq.sides.0 in record {
        sides = (eq.sides.0, known_few (vars side) w.0 ∙ eq.sides.1, known_few (vars pattern) w.1 ∙ eq.sides.2);
        side_formed = eq.side_formed;
        pattern_formed = eq.pattern_formed;
        matched = eq.matched;
        bound_too = known_all (names_of Few ++ binds pattern) (vars pattern) (λ x k. elim (within-cases bound (binds pattern) x (known-within (bound ++ binds pattern) (vars pattern) eq.bound_too x k)) [
          | inl i ↦ within-left (names_of Few) (binds pattern) x (few_name x (w.1 x k) ∙ i)
          | inr i ↦ within-right (names_of Few) (binds pattern) x i
        ]);
        listed = eq.listed;
      }

  pub condition_few : IsCondition il bound ls e → IsCondition il (names_of Few) ls e
  condition_few can = record { formed = can.formed; way = at can.way }
    where
      at : (all_known bound (vars e) ≡ true) ⊎ ((side : IlExp) × (pattern : IlExp) × IsEquation il bound ls e side pattern)
          → (all_known (names_of Few) (vars e) ≡ true) ⊎ ((side : IlExp) × (pattern : IlExp) × IsEquation il (names_of Few) ls e side pattern)
      at (inl k) = inl (known_few (vars e) (λ x i. i) ∙ k)
      at (inr w) = inr (w.0, w.1, equation_few w.0 w.1 w.2)

  -- ---- where it holds

  in_prem : (x : Name) → has_name (prem_vars p) x ≡ true → has_name (vars e) x ≡ true
  in_prem x i = subst (λ z. has_name z x ≡ true) (prem-level p (IlPrem-F.If e) is) i

  module _ (more : Env) (h : HoldsWith il n (names_of Few) ls Few p more) where
    own : (x : Name) → has_name (names_of more) x ≡ true → (has_name (names_of Few) x ≡ true) ⊎ (has_name (prem_vars p) x ≡ true)
    own x i = within-cases (names_of Few) (prem_vars p) x (sym (h.variables.names_are x) ∙ i)

    prem_there : (x : Name) → has_name (prem_vars p) x ≡ true → has_name (names_of more) x ≡ true
    prem_there x i = h.variables.names_are x ∙ within-right (names_of Few) (prem_vars p) x i

    agrees : AgreeOn bound env (beside env more)
    agrees x i = at (has_name (names_of more) x) refl
      where
        few : has_name (names_of Few) x ≡ true → has_name (names_of more) x ≡ true → value_in env x ≡ value_in (beside env more) x
        few f k = sym (few_value x (few_inside x f).0) ∙ (h.agrees x f ∙ sym (lookup-first x more.entries env.entries k))

        at : (b : Bool) → has_name (names_of more) x ≡ b → value_in env x ≡ value_in (beside env more) x
        at true k = elim (own x k) [ inl j ↦ few j k | inr j ↦ few (few_name x (in_prem x j) ∙ i) k ]
        at false k = sym (lookup-behind x more.entries env.entries k)

    names_are : (x : Name) → has_name (names_of (beside env more)) x ≡ has_name (bound ++ prem_vars p) x
    names_are x = same_truth (has_name (names_of (beside env more)) x) (has_name (bound ++ prem_vars p) x)
        (λ k. elim (or-cases (has_name (names_of more) x) (has_name (names_of env) x) (sym (names_in-append x more.entries env.entries) ∙ k)) [
          | inl j ↦ elim (own x j) [ inl f ↦ within-left bound (prem_vars p) x (few_inside x f).1 | inr f ↦ within-right bound (prem_vars p) x f ]
          | inr j ↦ within-left bound (prem_vars p) x (sym (only.names_are x) ∙ j)
        ])
        (λ k. names_in-append x more.entries env.entries ∙ elim (within-cases bound (prem_vars p) x k) [
          | inl j ↦ or-right (has_name (names_of more) x) (has_name (names_of env) x) (only.names_are x ∙ j)
          | inr j ↦ or-left (has_name (names_of more) x) (has_name (names_of env) x) (prem_there x j)
        ])

    typed : (x : Name) → has_name (bound ++ prem_vars p) x ≡ true → (l : Listed) → listed_as x ls ≡ Some l → IsSomeTyped (syntaxes il) (type_of l) (value_in (beside env more) x)
    typed x i l listed = at (has_name (names_of more) x) refl
      where
        at : (b : Bool) → has_name (names_of more) x ≡ b → IsSomeTyped (syntaxes il) (type_of l) (value_in (beside env more) x)
        at true k = subst (IsSomeTyped (syntaxes il) (type_of l)) (sym (lookup-first x more.entries env.entries k)) (h.variables.typed x (sym (h.variables.names_are x) ∙ k) l listed)
        at false k = elim (within-cases bound (prem_vars p) x i) [
          | inl j ↦ subst (IsSomeTyped (syntaxes il) (type_of l)) (sym (lookup-behind x more.entries env.entries k)) (only.typed x j l listed)
          | inr j ↦ absurd (true_false (sym (prem_there x j) ∙ k))
        ]

    holds_wide : HoldsWith il n bound ls env p (beside env more)
    holds_wide = record {
      agrees = agrees;
      variables = record { names_are = names_are; typed = typed };
      holds = Holds-agree (value_at il n) (value_by-local (syntaxes il) (CallAt il n)) (Unit {0}) no_goal h.holds (beside env more) (λ x i. sym (lookup-first x more.entries env.entries (prem_there x i)));
    }

  -- ---- where it meets Deep

  part_within : (known : List Name) (part : IlExp) → evaluated known e ≡ Some part → Within (vars part) (vars e)
  part_within known part ev = at (all_known known (vars e)) ev
    where
      sides : (y : IlExp-F IlExp Iteration ListItem PathSeg) → out-IlExp e ≡ y → side_at known y ≡ Some part → Within (vars part) (vars e)
      sides (IlExp-F.Eq a b) o s = by (all_known known (vars a)) (all_known known (vars b)) s
        where
          by : (k l : Bool) → bound_side k l a b ≡ Some part → Within (vars part) (vars e)
          by true l s = let same : a ≡ part = cc in subst (λ z. Within (vars z) (vars e)) same (sides_within a b o).0
          by false true s = let same : b ≡ part = cc in subst (λ z. Within (vars z) (vars e)) same (sides_within a b o).1
          by false false s = cc
      sides _ o s = cc

      at : (k : Bool) → (if k then Some e else side_at known (out-IlExp e)) ≡ Some part → Within (vars part) (vars e)
      at true s = let same : e ≡ part = cc in subst (λ z. Within (vars z) (vars e)) same (λ x i. i)
      at false s = sides (out-IlExp e) refl s

  evaluated_few : evaluated (names_of Few) e ≡ evaluated bound e
  evaluated_few = ap₂ (λ y z. if y then Some e else z) (known_few (vars e) (λ x i. i)) (sides (out-IlExp e) refl)
    where
      sides : (y : IlExp-F IlExp Iteration ListItem PathSeg) → out-IlExp e ≡ y → side_at (names_of Few) y ≡ side_at bound y
      sides (IlExp-F.Eq a b) o = let w = sides_within a b o in ap₂ (λ y z. bound_side y z a b) (known_few (vars a) w.0) (known_few (vars b) w.1)
      sides _ o = refl

  here_few : MeetsHere (in_clause il (CallAt il n)) bound env p → MeetsHere (in_clause il (CallAt il n)) (names_of Few) Few p
  here_few (d.condition g part eq ev deep) =
      let both : IlPrem-F.If g ≡ IlPrem-F.If e = sym eq ∙ is in
      let same : g ≡ e = cc in
      let known : evaluated bound e ≡ Some part = subst (λ z. evaluated bound z ≡ Some part) same ev in
      d.condition e part is (evaluated_few ∙ known) (Gives-agree (syntaxes il) (CallAt il n) deep Few (λ x i. sym (few_value x (part_within bound part known x i))))
  here_few (d.input relation es eq deep) = let bad : IlPrem-F.Goal relation es ≡ IlPrem-F.If e = sym eq ∙ is in cc
  here_few (d.output relation es vs g eq have contains deep) = let bad : IlPrem-F.Goal relation es ≡ IlPrem-F.If e = sym eq ∙ is in cc
  here_few (d.count how xs body eq deep) = let bad : IlPrem-F.Each how xs body ≡ IlPrem-F.If e = sym eq ∙ is in cc

  here_wide : MeetsHere (in_clause il (CallAt il n)) (names_of Few) Few p → MeetsHere (in_clause il (CallAt il n)) bound env p
  here_wide (d.condition g part eq ev deep) =
      let both : IlPrem-F.If g ≡ IlPrem-F.If e = sym eq ∙ is in
      let same : g ≡ e = cc in
      let known : evaluated (names_of Few) e ≡ Some part = subst (λ z. evaluated (names_of Few) z ≡ Some part) same ev in
      d.condition e part is (sym evaluated_few ∙ known) (Gives-agree (syntaxes il) (CallAt il n) deep env (λ x i. few_value x (part_within (names_of Few) part known x i)))
  here_wide (d.input relation es eq deep) = let bad : IlPrem-F.Goal relation es ≡ IlPrem-F.If e = sym eq ∙ is in cc
  here_wide (d.output relation es vs g eq have contains deep) = let bad : IlPrem-F.Goal relation es ≡ IlPrem-F.If e = sym eq ∙ is in cc
  here_wide (d.count how xs body eq deep) = let bad : IlPrem-F.Each how xs body ≡ IlPrem-F.If e = sym eq ∙ is in cc

  deep_few : MeetsAt il n bound ls env p → MeetsAt il n (names_of Few) ls Few p
  deep_few (d.here m) = d.here (here_few m)
  deep_few (d.element how xs body before at after eq u passed m) = let bad : IlPrem-F.Each how xs body ≡ IlPrem-F.If e = sym eq ∙ is in cc
  deep_few (d.height how xs body eq t) = let bad : IlPrem-F.Each how xs body ≡ IlPrem-F.If e = sym eq ∙ is in cc

  deep_wide : MeetsAt il n (names_of Few) ls Few p → MeetsAt il n bound ls env p
  deep_wide (d.here m) = d.here (here_wide m)
  deep_wide (d.element how xs body before at after eq u passed m) = let bad : IlPrem-F.Each how xs body ≡ IlPrem-F.If e = sym eq ∙ is in cc
  deep_wide (d.height how xs body eq t) = let bad : IlPrem-F.Each how xs body ≡ IlPrem-F.If e = sym eq ∙ is in cc

  -- ---- where it fails

  fails_wide : Fails il n (names_of Few) ls Few p → Fails il n bound ls env p
  fails_wide f = record {
    never = λ more g typed hold.
        f.never more (λ x i. let w = few_inside x i in few_value x w.0 ∙ g x w.1)
        (λ x i l at. let w = without-parts (names_of Few) (prem_vars p) x i in typed x (without-other bound (prem_vars p) x (sym (few_name x (in_prem x w.1)) ∙ w.0) w.1) l at) hold;
    not_deep = λ m. f.not_deep (deep_few m);
  }

  -- what it comes to with these alone, it comes to with all that is bound
  pub IsMet-few : (m : Met) → IsMet il n (names_of Few) ls Few p m → IsMet il n bound ls env p (met_beside env m)
  IsMet-few (met.Holds more) h = holds_wide more h
  IsMet-few met.Fails f = fails_wide f
  IsMet-few met.Deep m = deep_wide m

-- ---- for whatever is bound

abbrev entries_env : List Entry → Env
entries_env es = record { entries = es }

module _ (il : Il) (n : ℕ) (ls : List Listed) (env : Env) (e : IlExp) (made : Env) (entries_are : made.entries ≡ entries_among env (vars e)) where
  pub few_can : (bound : List Name) → HasOnly il ls bound env → IsCondition il bound ls e → (names : List Name) × HasOnly il ls names made × IsCondition il names ls e
  few_can bound only can =
      let few : Env = record { entries = entries_among env (vars e) } in
      let same : few ≡ made = ap (λ (z : List Entry). entries_env z) (sym entries_are) in
      (names_of few, subst (HasOnly il ls (names_of few)) same (few_only il n bound ls env (prem.If e) e (prem.outs-If e) only), condition_few il n bound ls env (prem.If e) e (prem.outs-If e) only can)

  pub few_met : (m : Met) → ((names : List Name) (p : IlPrem) → out-IlPrem p ≡ IlPrem-F.If e → HasOnly il ls names made → IsCondition il names ls e → IsMet il n names ls made p m)
      → (bound : List Name) (p : IlPrem) → out-IlPrem p ≡ IlPrem-F.If e → HasOnly il ls bound env → IsCondition il bound ls e → IsMet il n bound ls env p (met_beside env m)
  few_met m comes bound p is only can =
      let few : Env = record { entries = entries_among env (vars e) } in
      let same : few ≡ made = ap (λ (z : List Entry). entries_env z) (sym entries_are) in
      IsMet-few il n bound ls env p e is only m
      (subst (λ z. IsMet il n (names_of few) ls z p m) (sym same)
      (comes (names_of few) p is (subst (HasOnly il ls (names_of few)) same (few_only il n bound ls env p e is only)) (condition_few il n bound ls env p e is only can)))
