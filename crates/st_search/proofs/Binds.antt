-- What is found binds the variables of premises beside what was bound, and no others, whatever is
-- answered to the goals.
use Rattle.std.proofs.Common.{◌≡◌, refl, sym, ◌∙◌, ap, subst, ℕ, ◌+◌, Bool, List, [], ◌∷◌, ◌++◌, length-append}
use Rattle.std.specs.Prelude.{Contains}
use Rattle.std.specs.List.{AllByRecursion}
use Rattle.std.proofs.lemmas.List.Elements.{All-contains_itself}
use Rattle.st_il.specs.declared.definition.Il.{Il}
use Rattle.st_il.specs.declared.definition.Listed.{Listed}
use Rattle.st_il.specs.declared.expression.IlExp.{IlExp}
use Rattle.st_il.specs.declared.expression.IlPrem.{IlPrem}
use Rattle.st_il.specs.declared.expression.Iteration.{Iteration}
use Rattle.st_il.specs.declared.tree.Child.TheVariants as child
use Rattle.st_il.specs.declared.value.Env.{Env}
use Rattle.st_il.specs.Names.{Name, has_name}
use Rattle.st_il.specs.Definitions.{syntaxes}
use Rattle.st_semantics.specs.Iterations.{index_of}
use Rattle.st_semantics.specs.Scopes.{listed_inside}
use Rattle.st_semantics.specs.Variables.{vars_of, prem_vars}
use Rattle.st_semantics.specs.Derivation.{Root}
use Rattle.st_match.specs.inner.Found.{IsExtension}
use Rattle.st_eval.specs.Steps.{HasOnly}
use Rattle.st_eval.specs.declared.condition.Met.TheVariants as met
use Rattle.st_eval.specs.inner.AtElements.{AllHaveOnly}
use Rattle.st_eval.specs.inner.Beside.{beside}
use Rattle.st_eval.proofs.IsGathered.{gathered_to}
use Rattle.st_search.specs.declared.answer.Output.{Output}
use Rattle.st_search.specs.declared.found.Partial.{Partial}
use Rattle.st_search.specs.declared.found.Solution.{Solution}
use Rattle.st_search.specs.declared.found.Walk.{Walk}
use Rattle.st_search.specs.declared.holes.Evaluated.TheVariants.{Computed}
use Rattle.st_search.specs.declared.holes.Hole.{Hole}
use Rattle.st_search.specs.inner.Contracts.{IsGoalOf, IsBoundBy, BindsWhere}
use Rattle.st_search.specs.inner.Gathering.{IsGatheredTo, holds, fails, AreGatheredTo}
use Rattle.st_search.specs.inner.Holes.{matched_of}
use Rattle.st_search.specs.inner.Meeting.{AreMeetings, misfit, fits, AllMeetings}
use Rattle.st_search.specs.inner.RunBy.{IsIterated}
use Rattle.st_search.specs.inner.Rules.{lengthened}
use Rattle.st_search.specs.inner.Running.{AllEndWith}
use Rattle.st_search.specs.inner.Steps.{IsSolution}
use Rattle.st_search.specs.inner.Walks.{all_beside, stretched, multiplied}
use Rattle.st_search.proofs.Extended.{beside_only}
use Rattle.st_search.proofs.Finds.{Each-append, Each-weaken}
use Rattle.st_search.proofs.GoalParts.{bound_behind_goal}
use Rattle.st_search.proofs.GoalSolutions.{each_with}
use Rattle.st_search.proofs.LoopLaws.{beside_same}
use Rattle.st_search.proofs.LoopParts.{unfolded_by}
use Rattle.st_search.proofs.WalkLaws.{beside-last, only-last}

-- some root, where it does not matter which
abbrev pub any_root : Root
any_root = record { relation = []; rule = 0; inputs = [] }

-- what is found binds these variables
abbrev pub Bind : Il → List Listed → Env → List Name → List Solution → Type 0
Bind il ls env names found = AllByRecursion (λ (x : Solution). HasOnly il ls names (beside env x.env)) found

-- right solutions do
pub right_bind : (il : Il) (n : ℕ) (root : Root) (bound : List Name) (ls : List Listed) (env : Env) (p : IlPrem) (found : List Solution) → AllByRecursion (IsSolution il n root bound ls env p) found → Bind il ls env (bound ++ prem_vars p) found
right_bind il n root bound ls env p found right =
    Each-weaken (IsSolution il n root bound ls env p) (λ (x : Solution). HasOnly il ls (bound ++ prem_vars p) (beside env x.env)) (λ x s. s.variables) found right

-- and so do ends that are longer by them
pub lengthened_bind : (il : Il) (ls : List Listed) (names : List Name) (end : Partial) (found : List Solution) (ends : List Partial) → ends ≡ lengthened end found → Bind il ls end.env names found → AllEndWith il ls names ends
lengthened_bind il ls names end found ends are all = subst (AllEndWith il ls names) (sym are) (each found all)
  where
    each : (xs : List Solution) → Bind il ls end.env names xs → AllEndWith il ls names (lengthened end xs)
    each [] h = tt
    each (x ∷ xs) h = (h.0, each xs h.1)

-- ---- goals

module _ (il : Il) (bound : List Name) (ls : List Listed) (env : Env) (only : HasOnly il ls bound env) (p : IlPrem) (relation : Name) (ins outs : List IlExp) (goal : IsGoalOf il bound ls p relation ins outs) (holes : List Hole) where
  behind_goal : (x : Name) → has_name (bound ++ vars_of (matched_of Computed outs)) x ≡ has_name (bound ++ prem_vars p) x
  behind_goal = subst (λ z. (x : Name) → has_name (bound ++ vars_of (matched_of Computed z)) x ≡ has_name (bound ++ prem_vars p) x) (sym goal.outs_are) (bound_behind_goal il bound ls p relation goal.es goal.is goal.judged)

  -- what meets an answer
  meeting_binds : (o : Output) (found : List Solution) → AreMeetings (syntaxes il) ls env holes (matched_of Computed outs) o found → Bind il ls env (bound ++ prem_vars p) found
  meeting_binds o found (misfit never nothing) = subst (Bind il ls env (bound ++ prem_vars p)) (sym nothing) tt
  meeting_binds o found (fits m) = subst (Bind il ls env (bound ++ prem_vars p)) (sym m.found_are)
      (each_with (λ (x : Solution). HasOnly il ls (bound ++ prem_vars p) (beside env x.env)) (Contains m.envs) (child.One o.tree ∷ []) (λ more contains. one more ((m.extend.exactly more).0 contains)) m.envs (All-contains_itself m.envs))
    where
      one : (more : Env) → IsExtension (syntaxes il) ls (matched_of Computed outs) m.values m.few more → HasOnly il ls (bound ++ prem_vars p) (beside env more)
      one more e =
          let all = beside_only il bound ls env only (vars_of (matched_of Computed outs)) m.few m.few_are more e.names e.extends e.typed in
          record {
            names_are = λ x. all.names_are x ∙ behind_goal x;
            typed = λ x i l at. all.typed x (behind_goal x ∙ i) l at;
          }

  -- what meets one of some answers
  pub goal_binds : (items : List Output) (found : List Solution) → AllMeetings (syntaxes il) ls env holes (matched_of Computed outs) items found → Bind il ls env (bound ++ prem_vars p) found
  goal_binds [] found all = subst (Bind il ls env (bound ++ prem_vars p)) (sym all) tt
  goal_binds (o ∷ items) found all = subst (Bind il ls env (bound ++ prem_vars p)) (sym all.4)
      (Each-append (λ (x : Solution). HasOnly il ls (bound ++ prem_vars p) (beside env x.env)) all.0 all.1 (meeting_binds o all.0 all.2) (goal_binds items all.1 all.3))

-- what meets the answers, by the patterns that are matched
pub answered_binds : (il : Il) (ls : List Listed) (env : Env) (relation : Name) (outs patterns : List IlExp) (holes : List Hole) (items : List Output) (found : List Solution) → patterns ≡ matched_of Computed outs → AllMeetings (syntaxes il) ls env holes patterns items found
    → BindsWhere il ls env (λ bound p. (ins : List IlExp) × IsGoalOf il bound ls p relation ins outs) found
answered_binds il ls env relation outs patterns holes items found are all bound p only goal =
    goal_binds il bound ls env only p relation goal.0 outs goal.1 holes items found (subst (λ z. AllMeetings (syntaxes il) ls env holes z items found) are all)

-- ---- walks over elements

module _ (il : Il) (ls : List Listed) (names : List Name) where
  -- over no element
  pub start_binds : (found : List Walk) → found ≡ record { envs = []; children = [] } ∷ [] → AllByRecursion (IsBoundBy il ls names []) found
  start_binds found is = subst (AllByRecursion (IsBoundBy il ls names [])) (sym is) (record { as_many = refl; variables = tt }, tt)

  module _ (es : List Env) (e : Env) where
    longer_binds : (w : Walk) (x : Solution) → IsBoundBy il ls names es w → HasOnly il ls names (beside e x.env) → IsBoundBy il ls names (es ++ e ∷ []) (record { envs = w.envs ++ x.env ∷ []; children = w.children ++ x.children })
    longer_binds w x walk only = record {
      as_many = length-append w.envs (x.env ∷ []) ∙ (ap (λ z. z + 1) walk.as_many ∙ sym (length-append es (e ∷ [])));
      variables = subst (AllHaveOnly il ls names) (sym (beside-last es w.envs e x.env walk.as_many)) (only-last il ls names (all_beside es w.envs) (beside e x.env) walk.variables only);
    }

    stretched_binds : (w : Walk) (xs : List Solution) → IsBoundBy il ls names es w → Bind il ls e names xs → AllByRecursion (IsBoundBy il ls names (es ++ e ∷ [])) (stretched w xs)
    stretched_binds w [] walk all = tt
    stretched_binds w (x ∷ xs) walk all = (longer_binds w x walk all.0, stretched_binds w xs walk all.1)

    -- over one element more
    pub multiplied_binds : (ws : List Walk) (xs : List Solution) → AllByRecursion (IsBoundBy il ls names es) ws → Bind il ls e names xs → AllByRecursion (IsBoundBy il ls names (es ++ e ∷ [])) (multiplied ws xs)
    multiplied_binds [] xs walks all = tt
    multiplied_binds (w ∷ ws) xs walks all = Each-append (IsBoundBy il ls names (es ++ e ∷ [])) (stretched w xs) (multiplied ws xs) (stretched_binds w xs walks.0 all) (multiplied_binds ws xs walks.1 all)

-- ---- what is gathered

module _ (il : Il) (bound : List Name) (ls : List Listed) (env : Env) (only : HasOnly il ls bound env) (p : IlPrem) (how : Iteration) (xs : List Name) (body : IlPrem) (each : IsIterated il bound ls p how xs body)
    (known : List Name) (same : (x : Name) → has_name known x ≡ has_name bound x) (elements : List Env) (inside : AllHaveOnly il (listed_inside how xs ls) (index_of how ++ bound) elements) (asks : Bool) where
  abbrev IsBound : Walk → Type 0
  IsBound w = IsBoundBy il (listed_inside how xs ls) ((index_of how ++ bound) ++ prem_vars body) elements w

  gathered_binds : (w : Walk) (found : List Solution) → IsBound w → IsGatheredTo (syntaxes il) ls known how xs asks w found → Bind il ls env (bound ++ prem_vars p) found
  gathered_binds w found walk (fails g e) = subst (Bind il ls env (bound ++ prem_vars p)) (sym e) tt
  gathered_binds w found walk (holds new g e) =
      subst (Bind il ls env (bound ++ prem_vars p)) (sym e) (
        (gathered_to il bound ls env p how xs body (unfolded_by il bound ls p how xs body each) each.kinded known same only elements w.envs inside
            (subst (AllHaveOnly il (listed_inside how xs ls) ((index_of how ++ bound) ++ prem_vars body)) (beside_same elements w.envs) walk.variables) walk.as_many (met.Holds new) g).1,
        tt,
      )

  -- what all walks gather
  pub loop_binds : (ws : List Walk) (found : List Solution) → AllByRecursion IsBound ws → AreGatheredTo (syntaxes il) ls known how xs asks ws found → Bind il ls env (bound ++ prem_vars p) found
  loop_binds [] found walks e = subst (Bind il ls env (bound ++ prem_vars p)) (sym e) tt
  loop_binds (w ∷ ws) found walks (first, rest, comes, later, e) =
      subst (Bind il ls env (bound ++ prem_vars p)) (sym e)
      (Each-append (λ (x : Solution). HasOnly il ls (bound ++ prem_vars p) (beside env x.env)) first rest (gathered_binds w first walks.0 comes) (loop_binds ws rest walks.1 later))
