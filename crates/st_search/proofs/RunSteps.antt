-- The run of a rule, premise by premise in its order.
use Rattle.std.proofs.Common.{arith, ◌≡◌, refl, sym, ◌∙◌, ap, subst, ℕ, zero, suc, ◌+◌, ◌<◌, ◌≤◌, List, [], ◌∷◌, ◌++◌, length, get_or, ◌⊎◌, inl, inr, Some, Result, Ok, Err, IfErr, slice_get, append_assoc, append-nil, length-append}
use Rattle.st_il.specs.declared.definition.Il.{Il}
use Rattle.st_il.specs.declared.definition.Listed.{Listed}
use Rattle.st_il.specs.declared.definition.RuleDef.{RuleDef}
use Rattle.st_il.specs.declared.expression.IlExp.{IlExp}
use Rattle.st_il.specs.declared.expression.IlPrem.{IlPrem}
use Rattle.st_il.specs.Names.{Name}
use Rattle.st_semantics.specs.Variables.{vars_of, prem_vars}
use Rattle.st_semantics.specs.Reaching.{bound_behind}
use Rattle.st_semantics.specs.Orders.{inputs_of_rule, in_order}
use Rattle.st_semantics.specs.OrderOf.{order_of}
use Rattle.st_semantics.specs.Goals.{Goal}
use Rattle.st_semantics.specs.Marks.{full_name}
use Rattle.st_semantics.specs.RuleDepth.{root_at}
use Rattle.st_algo.specs.declared.algorithm.AlgoStep.{AlgoStep}
use Rattle.st_algo.specs.Lowered.{step_of, steps_of}
use Rattle.st_search.specs.Searchable.{CanBeRun}
use Rattle.st_search.specs.declared.answer.SearchFault.{SearchFault}
use Rattle.st_search.specs.declared.answer.SearchFault.TheVariants as fault
use Rattle.st_search.specs.declared.found.Partial.{Partial}
use Rattle.st_search.specs.declared.found.Found.{Found}
use Rattle.st_search.specs.declared.stop.Stop.{Stop}
use Rattle.st_search.specs.inner.Chains.{EndsBehind, fault_by}
use Rattle.st_search.specs.inner.Contracts.{IsShort}
use Rattle.st_search.specs.inner.RunBy.{IsRunBy}
use Rattle.st_search.specs.inner.Rules.{CanBeSearched, IsSearchedIn, run_seeks}
use Rattle.st_search.specs.inner.Running.{AllEndWith, IsRuleOf, AreSteps, IsNumberAt}
use Rattle.st_search.specs.inner.Search.{Solvings, AnswersGoals}
use Rattle.st_search.specs.inner.Sought.{Finds}
use Rattle.st_search.proofs.EndFinds.{one_order, order_is}
use Rattle.st_search.proofs.NextEnds.{FindsFromAll, BindsFromAll, StopsFromAll}
use Rattle.st_search.proofs.MeetsAgain.{run_bound, number_there}
use Rattle.st_search.proofs.Partials.{behind_next}
use Rattle.st_search.proofs.RuleFinds.{premise_ends}
use Rattle.st_search.proofs.RunBy.{premise_by, step_there}
use Rattle.st_search.proofs.RunNext.{run_next}
use Rattle.st_search.proofs.Searched.{premise_searched}
use Rattle.st_search.proofs.Solved.{short_none, short_greater}

-- ---- elements at their positions

got_short : {A : Type 0} (xs : List A) (k : ℕ) (x : A) → slice_get xs k ≡ Some x → k < length xs
got_short [] k x e = cc
got_short (y ∷ ys) zero x e = omega arith
got_short (y ∷ ys) (suc k) x e = let less = got_short ys k x e in omega (arith, less)

got_there : {A : Type 0} (xs : List A) (k : ℕ) (x y : A) → slice_get xs k ≡ Some y → x ≡ get_or xs k x → x ≡ y
got_there [] k x y e is = cc
got_there (z ∷ zs) zero x y e is = let same : z ≡ y = cc in is ∙ same
got_there (z ∷ zs) (suc k) x y e is = got_there zs k x y e is

steps_long : (il : Il) (bound : List Name) (ps : List IlPrem) → length (steps_of il bound ps) ≡ length ps
steps_long il bound [] = refl
steps_long il bound (p ∷ ps) = ap suc (steps_long il (bound ++ prem_vars p) ps)

-- ---- what a premise that stops comes to

-- an error that is told of a rule that stops at a premise
pub told_of : {T : Type 0} (P : SearchFault → Type 0) (Q : Stop → Type 0) (rule : RuleDef) (premise : ℕ) (r : Result T Stop) (f : SearchFault) → IfErr r Q
    → (f ≡ fault.Memory) ⊎ ((s : Stop) × (r ≡ Err s) × (f ≡ fault_by (full_name rule) premise s)) → P fault.Memory → ((s : Stop) → Q s → P (fault_by (full_name rule) premise s)) → P f
told_of P Q rule premise r f stops (inl e) memory so = subst P (sym e) memory
told_of P Q rule premise r f stops (inr (s, is, e)) memory so = subst P (sym e) (so s (subst (λ z. IfErr z Q) is stops))

module _ (il : Il) (n : ℕ) (A : Solvings) (rule : RuleDef) (order : List ℕ) (starts : List Partial) where
  abbrev heads : List IlExp
  heads = inputs_of_rule il rule

  abbrev premises : List IlPrem
  premises = in_order rule.premises order

  -- so many premises are run, from all starts to these ends
  pub record AreRun (i longest : ℕ) (ends : List Partial) : Type 0 where
    pub before : List IlPrem
    pub after : List IlPrem
    pub split : in_order rule.premises order ≡ before ++ after
    pub long : length before ≡ i
    pub short : IsShort il n A longest
    pub only : AllEndWith il rule.variables (bound_behind (inputs_of_rule il rule) before) ends
    pub finds : (left : ℕ) (g : Goal) (number : ℕ) → AnswersGoals il n left A → CanBeSearched il g.relation → IsRuleOf il g.relation number rule order → Finds il n 0 (run_seeks il n g number rule []) starts
        → Finds il n longest (run_seeks il n g number rule before) ends

  -- a run from the starts ends by what is told behind the goal
  abbrev pub EndsBy : SearchFault → Type 0
  EndsBy f =
      (left : ℕ) (g : Goal) (number : ℕ) → AnswersGoals il n left A → CanBeSearched il g.relation → IsRuleOf il g.relation number rule order → Finds il n 0 (run_seeks il n g number rule []) starts → EndsBehind il n left g f

  pub run_start : AllEndWith il rule.variables (vars_of (inputs_of_rule il rule)) starts → AreRun 0 0 starts
  run_start only = record {
    before = [];
    after = in_order rule.premises order;
    split = refl;
    long = refl;
    short = short_none il n A;
    only = subst (λ z. AllEndWith il rule.variables z starts) (sym (append-nil (vars_of (inputs_of_rule il rule)))) only;
    finds = λ left g number answers can is start. start;
  }

  module _ (can : CanBeRun il rule) (is_order : order_of il rule ≡ Ok order) (steps : List AlgoStep) (are : steps ≡ steps_of il (vars_of (inputs_of_rule il rule)) (in_order rule.premises order)) where
    -- the premise that a step runs behind others
    pub record IsNext (before after : List IlPrem) (s : AlgoStep) : Type 0 where
      pub premise : IlPrem
      pub rest : List IlPrem
      pub split : in_order rule.premises order ≡ before ++ premise ∷ rest
      pub run : IsRunBy il (bound_behind (inputs_of_rule il rule) before) rule.variables premise s

    next_at : (before after : List IlPrem) → in_order rule.premises order ≡ before ++ after → (s : AlgoStep) → length before < length steps → s ≡ get_or steps (length before) s → IsNext before after s
    next_at before [] split s h is =
        let whole : in_order rule.premises order ≡ before = split ∙ append-nil before in
        let same : length steps ≡ length before = ap length are ∙ (steps_long il (vars_of (inputs_of_rule il rule)) (in_order rule.premises order) ∙ ap length whole) in
        absurd (omega (arith, h, same))
    next_at before (p ∷ rest) split s h is =
        let there : slice_get steps (length before) ≡ Some (step_of il (bound_behind (inputs_of_rule il rule) before) p) =
        ap (λ z. slice_get z (length before)) are ∙ (ap (λ z. slice_get (steps_of il (vars_of (inputs_of_rule il rule)) z) (length before)) split ∙ step_there il (vars_of (inputs_of_rule il rule)) before p rest) in
        let same : s ≡ step_of il (bound_behind (inputs_of_rule il rule) before) p = got_there steps (length before) s (step_of il (bound_behind (inputs_of_rule il rule) before) p) there is in
        record {
          premise = p;
          rest = rest;
          split = split;
          run = subst (IsRunBy il (bound_behind (inputs_of_rule il rule) before) rule.variables p) (sym same) (premise_by il rule can order is_order before p rest split);
        }

    module _ (i longest : ℕ) (ends : List Partial) (r : AreRun i longest ends) (s : AlgoStep) (h : i < length steps) (is : s ≡ get_or steps i s) where
      pub next : IsNext r.before r.after s
      next =
          let same : length r.before ≡ i = r.long in
          next_at r.before r.after r.split s (omega (arith, h, same)) (subst (λ k. s ≡ get_or steps k s) (sym same) is)

      -- it can be run from the ends
      pub next_can : (ls : List Listed) (from : List Partial) → ls ≡ rule.variables → from ≡ ends → (bound : List Name) × (p : IlPrem) × AllEndWith il ls bound from × IsRunBy il bound ls p s
      next_can ls from ls_are from_are = (
        bound_behind (inputs_of_rule il rule) r.before,
        next.premise,
        subst (λ z. AllEndWith il z (bound_behind (inputs_of_rule il rule) r.before) from) (sym ls_are) (subst (AllEndWith il rule.variables (bound_behind (inputs_of_rule il rule) r.before)) (sym from_are) r.only),
        subst (λ z. IsRunBy il (bound_behind (inputs_of_rule il rule) r.before) z next.premise s) (sym ls_are) next.run,
      )

      searched : (g : Goal) (number : ℕ) → CanBeSearched il g.relation → IsRuleOf il g.relation number rule order → IsSearchedIn il next.premise
      searched g number can_be is_rule = premise_searched il g.relation can_be number rule is_rule.is_rule order r.before next.premise next.rest next.split

      -- one premise more
      pub run_more : (m k : ℕ) (more : List Partial) → IsShort il n A m → FindsFromAll il n A rule.variables s ends m more → BindsFromAll il n A rule.variables s ends more → longest ≤ k → m ≤ k → (k ≡ longest) ⊎ (k ≡ m) → AreRun (i + 1) k more
      run_more m k more short finds binds less lesser one = record {
        before = r.before ++ next.premise ∷ [];
        after = next.rest;
        split = next.split ∙ sym (append_assoc r.before (next.premise ∷ []) next.rest);
        long = length-append r.before (next.premise ∷ []) ∙ ap (λ z. z + 1) r.long;
        short = short_greater il n A longest m k one r.short short;
        only = subst (λ z. AllEndWith il rule.variables z more) (behind_next (inputs_of_rule il rule) r.before next.premise) (binds (bound_behind (inputs_of_rule il rule) r.before) next.premise r.only next.run);
        finds = λ left g number answers can_be is_rule start.
            run_next il n g number rule can order r.before next.premise next.rest next.split (run_bound next.run) longest m k ends more (r.finds left g number answers can_be is_rule start)
            (finds left (root_at g number) (bound_behind (inputs_of_rule il rule) r.before) next.premise answers r.only next.run (searched g number can_be is_rule)) less lesser;
      }

      -- a premise that stops
      pub run_ends : (premise : ℕ) → (i < length order → slice_get order i ≡ Some premise) → (res : Result (Found Partial) Stop) → IfErr res (StopsFromAll il n A rule.variables s ends)
          → (f : SearchFault) → (f ≡ fault.Memory) ⊎ ((stop : Stop) × (res ≡ Err stop) × (f ≡ fault_by (full_name rule) premise stop)) → EndsBy f
      run_ends premise numbered res stops f told left g number answers can_be is_rule start =
          told_of (EndsBehind il n left g) (StopsFromAll il n A rule.variables s ends) rule premise res f stops told tt
          (λ stop by. premise_ends il n g number rule can order is_rule r.before next.premise next.rest next.split (run_bound next.run) premise number_is left ends (r.finds left g number answers can_be is_rule start).sound stop
          (by left (root_at g number) (bound_behind (inputs_of_rule il rule) r.before) next.premise answers r.only next.run (searched g number can_be is_rule)))
        where
          number_is : slice_get order (length r.before) ≡ Some premise
          number_is =
              let there = number_there rule.premises order r.before next.premise next.rest next.split in
              let same : length r.before ≡ i = r.long in
              let less = got_short order (length r.before) there.0 there.1 in
              subst (λ k. slice_get order k ≡ Some premise) (sym same) (numbered (omega (arith, less, same)))

    -- all premises
    pub run_whole : (i longest : ℕ) (ends : List Partial) → length steps ≤ i → AreRun i longest ends
        → (left : ℕ) (g : Goal) (number : ℕ) → AnswersGoals il n left A → CanBeSearched il g.relation → IsRuleOf il g.relation number rule order → Finds il n 0 (run_seeks il n g number rule []) starts
        → Finds il n longest (run_seeks il n g number rule (in_order rule.premises order)) ends
    run_whole i longest ends h r left g number answers can_be is_rule start =
        subst (λ z. Finds il n longest (run_seeks il n g number rule z) ends) (sym (at r.after r.split)) (r.finds left g number answers can_be is_rule start)
      where
        at : (after : List IlPrem) → in_order rule.premises order ≡ r.before ++ after → in_order rule.premises order ≡ r.before
        at [] split = split ∙ append-nil r.before
        at (p ∷ rest) split =
            let long : length steps ≡ length (r.before ++ p ∷ rest) = ap length are ∙ (steps_long il (vars_of (inputs_of_rule il rule)) (in_order rule.premises order) ∙ ap length split) in
            let both : length (r.before ++ p ∷ rest) ≡ length r.before + length (p ∷ rest) = length-append r.before (p ∷ rest) in
            let same : length r.before ≡ i = r.long in
            absurd (omega (arith, h, long, both, same))

-- ---- in whichever order the rule has

module _ (il : Il) (n : ℕ) (A : Solvings) (rule : RuleDef) (starts : List Partial) where
  -- so many premises are run in its order
  abbrev pub AreRunSo : ℕ → ℕ → List Partial → Type 0
  AreRunSo i longest ends = (order : List ℕ) → order_of il rule ≡ Ok order → AreRun il n A rule order starts i longest ends

  -- a run in its order ends by what is told behind the goal
  abbrev pub EndsSo : SearchFault → Type 0
  EndsSo f =
      (left : ℕ) (g : Goal) (number : ℕ) (order : List ℕ) → AnswersGoals il n left A → CanBeSearched il g.relation → IsRuleOf il g.relation number rule order → Finds il n 0 (run_seeks il n g number rule []) starts → EndsBehind il n left g f

  -- what is found behind all premises in its order
  abbrev pub FindsSo : ℕ → List Partial → Type 0
  FindsSo longest ends =
      (left : ℕ) (g : Goal) (number : ℕ) (order : List ℕ) → AnswersGoals il n left A → CanBeSearched il g.relation → IsRuleOf il g.relation number rule order → Finds il n 0 (run_seeks il n g number rule []) starts
      → Finds il n longest (run_seeks il n g number rule (in_order rule.premises order)) ends

  module _ (can : CanBeRun il rule) (steps : List AlgoStep) (are : AreSteps il rule steps) where
    steps_so : (order : List ℕ) → order_of il rule ≡ Ok order → steps ≡ steps_of il (vars_of (inputs_of_rule il rule)) (in_order rule.premises order)
    steps_so order is_order = subst (λ z. steps ≡ steps_of il (vars_of (inputs_of_rule il rule)) (in_order rule.premises z)) (one_order il rule are.0 order are.1 is_order) are.2

    -- it is the rule of this number in the one order that it has
    in_its : {relation : Name} {number : ℕ} {order : List ℕ} → IsRuleOf il relation number rule order → IsRuleOf il relation number rule are.0
    in_its is = record { is_rule = is.is_rule; is_order = are.1 }

    module _ (i longest : ℕ) (ends : List Partial) (r : AreRunSo i longest ends) (s : AlgoStep) (h : i < length steps) (is : s ≡ get_or steps i s) where
      pub next_can_so : (ls : List Listed) (from : List Partial) → ls ≡ rule.variables → from ≡ ends → (bound : List Name) × (p : IlPrem) × AllEndWith il ls bound from × IsRunBy il bound ls p s
      next_can_so = next_can il n A rule are.0 starts can are.1 steps are.2 i longest ends (r are.0 are.1) s h is

      pub run_more_so : (m k : ℕ) (more : List Partial) → IsShort il n A m → FindsFromAll il n A rule.variables s ends m more → BindsFromAll il n A rule.variables s ends more → longest ≤ k → m ≤ k → (k ≡ longest) ⊎ (k ≡ m) → AreRunSo (i + 1) k more
      run_more_so m k more short finds binds less lesser one order is_order =
          run_more il n A rule order starts can is_order steps (steps_so order is_order) i longest ends (r order is_order) s h is m k more short finds binds less lesser one

      pub run_ends_so : (res : Result (Found Partial) Stop) → IfErr res (StopsFromAll il n A rule.variables s ends)
          → (f : SearchFault) → (f ≡ fault.Memory) ⊎ ((premise : ℕ) × (stop : Stop) × IsNumberAt il rule i premise × (res ≡ Err stop) × (f ≡ fault_by (full_name rule) premise stop)) → EndsSo f
      run_ends_so res stops f (inl e) left g number order answers can_be is_rule start = subst (EndsBehind il n left g) (sym e) tt
      run_ends_so res stops f (inr (premise, stop, numbered, is_stop, e)) left g number order answers can_be is_rule start =
          run_ends il n A rule are.0 starts can are.1 steps are.2 i longest ends (r are.0 are.1) s h is premise (numbered are.0 are.1) res stops f (inr (stop, is_stop, e)) left g number answers can_be (in_its is_rule) start

    pub run_whole_so : (i longest : ℕ) (ends : List Partial) → length steps ≤ i → AreRunSo i longest ends → FindsSo longest ends
    run_whole_so i longest ends h r left g number order answers can_be is_rule start =
        subst (λ z. Finds il n longest (run_seeks il n g number rule (in_order rule.premises z)) ends) (order_is il g.relation number rule order are.0 is_rule are.1)
        (run_whole il n A rule are.0 starts can are.1 steps are.2 i longest ends h (r are.0 are.1) left g number answers can_be (in_its is_rule) start)
