-- The parts of a goal: its inputs and outputs are formed, and what is matched of its outputs are patterns whose
-- variables are bound, or bound by these.
use Rattle.std.proofs.Common.{◌≡◌, refl, sym, ◌∙◌, ap, subst, Bool, true, false, not, ◌&&◌, if◌then◌else◌, List, [], ◌∷◌, ◌++◌, map, filter, ◌⊎◌, inl, inr}
use Rattle.std.specs.List.{list_all}
use Rattle.st_il.specs.declared.definition.Il.{Il}
use Rattle.st_il.specs.declared.definition.Listed.{Listed}
use Rattle.st_il.specs.declared.expression.IlExp.{IlExp}
use Rattle.st_il.specs.declared.expression.IlPrem.{IlPrem}
use Rattle.st_il.specs.declared.value.Env.{Env}
use Rattle.st_il.specs.Names.{Name, has_name, all_known, flattened}
use Rattle.st_il.specs.Definitions.{syntaxes}
use Rattle.st_semantics.specs.Directions.{mask}
use Rattle.st_semantics.specs.Environments.{names_of}
use Rattle.st_semantics.specs.Formed.{AreFormed}
use Rattle.st_semantics.specs.Variables.{vars, vars_of}
use Rattle.st_semantics.specs.Patterns.{is_pattern, binds, bound_by}
use Rattle.st_semantics.specs.Executable.{is_met}
use Rattle.st_semantics.proofs.Names.{within-cases, within-left, within-right, known-within, and-both, or-cases}
use Rattle.st_eval.specs.Steps.{HasOnly}
use Rattle.st_eval.proofs.Trying.{known_all}
use Rattle.st_search.specs.declared.holes.Evaluated.TheVariants.{Computed}
use Rattle.st_search.specs.inner.Holes.{is_evaluated, matched_of}
use Rattle.st_search.specs.inner.Contracts.{IsGoalOf}
use Rattle.st_search.proofs.AreFormed.{formed_filtered, formed_by}
use Rattle.st_search.proofs.GoalParts.{matched_patterns}

-- what outputs bind is what those of them bind that are matched
bound_matched : (es : List IlExp) → bound_by es ≡ flattened (map binds (matched_of Computed es))
bound_matched [] = refl
bound_matched (e ∷ es) = at (is_pattern e) (bound_matched es)
  where
    at : (b : Bool) → bound_by es ≡ flattened (map binds (matched_of Computed es)) → flattened (map binds (if b then e ∷ filter is_pattern es else filter is_pattern es)) ≡ flattened (map binds (if not (not b) then e ∷ matched_of Computed es else matched_of Computed es))
    at true later = ap (λ z. binds e ++ z) later
    at false later = later

-- a variable of what is matched was bound, or is behind the outputs
matched_known : (bound after : List Name) (es : List IlExp) → list_all (is_met bound after) es ≡ true → (x : Name) → has_name (vars_of (matched_of Computed es)) x ≡ true → (has_name bound x ≡ true) ⊎ (has_name after x ≡ true)
matched_known bound after [] h x i = cc
matched_known bound after (e ∷ es) h x i =
    let both = and-both (is_met bound after e) (list_all (is_met bound after) es) h in
    at (is_pattern e) i (matched_known bound after es both.1 x) (or-cases (all_known bound (vars e)) (is_pattern e && all_known after (vars e)) both.0)
  where
    at : (b : Bool) → has_name (vars_of (if not (not b) then e ∷ matched_of Computed es else matched_of Computed es)) x ≡ true
        → (has_name (vars_of (matched_of Computed es)) x ≡ true → (has_name bound x ≡ true) ⊎ (has_name after x ≡ true))
        → (all_known bound (vars e) ≡ true) ⊎ ((is_pattern e && all_known after (vars e)) ≡ true) → (has_name bound x ≡ true) ⊎ (has_name after x ≡ true)
    at true i later known = elim (within-cases (vars e) (vars_of (matched_of Computed es)) x i) [ inl j ↦ here j known | inr j ↦ later j ]
      where
        here : has_name (vars e) x ≡ true → (all_known bound (vars e) ≡ true) ⊎ ((is_pattern e && all_known after (vars e)) ≡ true) → (has_name bound x ≡ true) ⊎ (has_name after x ≡ true)
        here j (inl k) = inl (known-within bound (vars e) k x j)
        here j (inr k) = inr (known-within after (vars e) (and-both (is_pattern e) (all_known after (vars e)) k).1 x j)
    at false i later known = later i

module _ (il : Il) (bound : List Name) (ls : List Listed) (p : IlPrem) (relation : Name) (ins outs : List IlExp) (goal : IsGoalOf il bound ls p relation ins outs) where
  pub ins_formed : AreFormed (syntaxes il) ins
  ins_formed = subst (AreFormed (syntaxes il)) (sym goal.ins_are) (formed_by (syntaxes il) (mask il relation) goal.es goal.judged.formed)

  pub outs_formed : AreFormed (syntaxes il) outs
  outs_formed = subst (AreFormed (syntaxes il)) (sym goal.outs_are) (formed_by (syntaxes il) (map not (mask il relation)) goal.es goal.judged.formed)

  outs_met : list_all (is_met bound (bound ++ bound_by outs)) outs ≡ true
  outs_met = subst (λ z. list_all (is_met bound (bound ++ bound_by z)) z ≡ true) (sym goal.outs_are) goal.judged.met

  -- a variable of what is matched was bound, or is bound by it
  matched_bound : (env : Env) → HasOnly il ls bound env → all_known (names_of env ++ flattened (map binds (matched_of Computed outs))) (vars_of (matched_of Computed outs)) ≡ true
  matched_bound env only = known_all (names_of env ++ flattened (map binds (matched_of Computed outs))) (vars_of (matched_of Computed outs)) (λ x i. elim (matched_known bound (bound ++ bound_by outs) outs outs_met x i) [
    | inl j ↦ before x j
    | inr j ↦ elim (within-cases bound (bound_by outs) x j) [
      | inl k ↦ before x k
      | inr k ↦ within-right (names_of env) (flattened (map binds (matched_of Computed outs))) x (subst (λ z. has_name z x ≡ true) (bound_matched outs) k)
    ]
  ])
    where
      before : (x : Name) → has_name bound x ≡ true → has_name (names_of env ++ flattened (map binds (matched_of Computed outs))) x ≡ true
      before x i = within-left (names_of env) (flattened (map binds (matched_of Computed outs))) x (only.names_are x ∙ i)

  module _ (patterns : List IlExp) (are : patterns ≡ matched_of Computed outs) where
    pub patterns_all : list_all is_pattern patterns ≡ true
    patterns_all = subst (λ z. list_all is_pattern z ≡ true) (sym are) (matched_patterns outs)

    pub patterns_formed : AreFormed (syntaxes il) patterns
    patterns_formed = subst (AreFormed (syntaxes il)) (sym are) (formed_filtered (syntaxes il) (λ (e : IlExp). not (is_evaluated Computed e)) outs outs_formed)

    pub patterns_bound : (env : Env) → HasOnly il ls bound env → all_known (names_of env ++ flattened (map binds patterns)) (vars_of patterns) ≡ true
    patterns_bound env only = subst (λ z. all_known (names_of env ++ flattened (map binds z)) (vars_of z) ≡ true) (sym are) (matched_bound env only)
