-- The variables of a goal: of its inputs, of its outputs that are evaluated, and of its patterns.
use Rattle.std.proofs.Common.{arith, ◌≡◌, refl, sym, subst, Bool, true, false, not, ◌&&◌, ◌||◌, if◌then◌else◌, List, [], ◌∷◌, ◌++◌, length, map, filter, ◌⊎◌, inl, inr}
use Rattle.std.specs.List.{list_all}
use Rattle.st_il.specs.declared.definition.Il.{Il}
use Rattle.st_il.specs.declared.definition.Listed.{Listed}
use Rattle.st_il.specs.declared.expression.IlExp.{IlExp}
use Rattle.st_il.specs.declared.expression.IlPrem.{IlPrem, out-IlPrem}
use Rattle.st_il.specs.declared.expression.IlPrem.TheOpen.{IlPrem-F}
use Rattle.st_il.specs.Names.{Name, has_name, all_known}
use Rattle.st_semantics.specs.Directions.{mask, inputs_by, outputs_by, inputs_of, outputs_of}
use Rattle.st_semantics.specs.Variables.{vars, vars_of, prem_vars}
use Rattle.st_semantics.specs.Patterns.{is_pattern, bound_by}
use Rattle.st_semantics.specs.Executable.{is_met}
use Rattle.st_semantics.proofs.Names.{Within, within-cases, within-left, within-right, known-within, and-both, prem-level}
use Rattle.st_eval.proofs.Conditions.{same_truth}
use Rattle.st_search.specs.declared.holes.Evaluated.TheVariants.{Computed}
use Rattle.st_search.specs.inner.Holes.{matched_of}
use Rattle.st_search.specs.inner.RunBy.{IsJudged}

pub vars_filtered : (test : IlExp → Bool) (es : List IlExp) → Within (vars_of (filter test es)) (vars_of es)
vars_filtered test [] x k = k
vars_filtered test (e ∷ es) x k = at (test e) k (vars_filtered test es x)
  where
    at : (b : Bool) → has_name (vars_of (if b then e ∷ filter test es else filter test es)) x ≡ true → (has_name (vars_of (filter test es)) x ≡ true → has_name (vars_of es) x ≡ true) → has_name (vars_of (e ∷ es)) x ≡ true
    at true k later = elim (within-cases (vars e) (vars_of (filter test es)) x k) [ inl i ↦ within-left (vars e) (vars_of es) x i | inr i ↦ within-right (vars e) (vars_of es) x (later i) ]
    at false k later = within-right (vars e) (vars_of es) x (later k)

pub vars_by : (m : List Bool) (es : List IlExp) → Within (vars_of (inputs_by m es)) (vars_of es)
vars_by [] es x k = cc
vars_by (b ∷ m) [] x k = k
vars_by (true ∷ m) (e ∷ es) x k = elim (within-cases (vars e) (vars_of (inputs_by m es)) x k) [ inl i ↦ within-left (vars e) (vars_of es) x i | inr i ↦ within-right (vars e) (vars_of es) x (vars_by m es x i) ]
vars_by (false ∷ m) (e ∷ es) x k = within-right (vars e) (vars_of es) x (vars_by m es x k)

-- a variable of an expression at an input, or at an output
pub vars_split : (m : List Bool) (es : List IlExp) → length es ≡ length m → (x : Name) → has_name (vars_of es) x ≡ true → (has_name (vars_of (inputs_by m es)) x ≡ true) ⊎ (has_name (vars_of (outputs_by m es)) x ≡ true)
vars_split m [] n x k = cc
vars_split [] (e ∷ es) n x k = absurd (omega (arith, n))
vars_split (true ∷ m) (e ∷ es) n x k = elim (within-cases (vars e) (vars_of es) x k) [
  | inl i ↦ inl (within-left (vars e) (vars_of (inputs_by m es)) x i)
  | inr i ↦ elim (vars_split m es (omega (arith, n)) x i) [ inl j ↦ inl (within-right (vars e) (vars_of (inputs_by m es)) x j) | inr j ↦ inr j ]
]
vars_split (false ∷ m) (e ∷ es) n x k = elim (within-cases (vars e) (vars_of es) x k) [
  | inl i ↦ inr (within-left (vars e) (vars_of (outputs_by m es)) x i)
  | inr i ↦ elim (vars_split m es (omega (arith, n)) x i) [ inl j ↦ inl j | inr j ↦ inr (within-right (vars e) (vars_of (outputs_by m es)) x j) ]
]

-- an output that is no pattern is bound
pub met_known : (bound after : List Name) (e : IlExp) → is_met bound after e ≡ true → is_pattern e ≡ false → all_known bound (vars e) ≡ true
met_known bound after e met none = at (all_known bound (vars e)) (is_pattern e) (all_known after (vars e)) none met
  where
    at : (a b c : Bool) → b ≡ false → (a || (b && c)) ≡ true → a ≡ true
    at true b c k h = refl
    at false true c k h = cc
    at false false c k h = cc

-- of variables at outputs those are bound that are not at a pattern
outputs_split : (bound after : List Name) (es : List IlExp) → list_all (is_met bound after) es ≡ true → (x : Name) → has_name (vars_of es) x ≡ true → (has_name bound x ≡ true) ⊎ (has_name (vars_of (matched_of Computed es)) x ≡ true)
outputs_split bound after [] h x k = cc
outputs_split bound after (e ∷ es) h x k =
    let both = and-both (is_met bound after e) (list_all (is_met bound after) es) h in
    at (is_pattern e) refl both.0 (within-cases (vars e) (vars_of es) x k) (outputs_split bound after es both.1 x)
  where
    at : (b : Bool) → is_pattern e ≡ b → is_met bound after e ≡ true → (has_name (vars e) x ≡ true) ⊎ (has_name (vars_of es) x ≡ true)
        → (has_name (vars_of es) x ≡ true → (has_name bound x ≡ true) ⊎ (has_name (vars_of (matched_of Computed es)) x ≡ true))
        → (has_name bound x ≡ true) ⊎ (has_name (vars_of (if not (not b) then e ∷ matched_of Computed es else matched_of Computed es)) x ≡ true)
    at true p met (inl i) later = inr (within-left (vars e) (vars_of (matched_of Computed es)) x i)
    at true p met (inr i) later = elim (later i) [ inl j ↦ inl j | inr j ↦ inr (within-right (vars e) (vars_of (matched_of Computed es)) x j) ]
    at false p met (inl i) later = inl (known-within bound (vars e) (met_known bound after e met p) x i)
    at false p met (inr i) later = later i

-- the expressions that are matched are patterns
pub matched_patterns : (es : List IlExp) → list_all is_pattern (matched_of Computed es) ≡ true
matched_patterns [] = refl
matched_patterns (e ∷ es) = at (is_pattern e) refl (matched_patterns es)
  where
    both : (a b : Bool) → a ≡ true → b ≡ true → (a && b) ≡ true
    both true b p q = q
    both false b p q = cc

    at : (b : Bool) → is_pattern e ≡ b → list_all is_pattern (matched_of Computed es) ≡ true → list_all is_pattern (if not (not b) then e ∷ matched_of Computed es else matched_of Computed es) ≡ true
    at true p rest = both (is_pattern e) (list_all is_pattern (matched_of Computed es)) p rest
    at false p rest = rest

module _ (il : Il) (bound : List Name) (ls : List Listed) (p : IlPrem) (relation : Name) (es : List IlExp) (is : out-IlPrem p ≡ IlPrem-F.Goal relation es) (judged : IsJudged il bound ls relation es) where
  pub goal_vars : prem_vars p ≡ vars_of es
  goal_vars = prem-level p (IlPrem-F.Goal relation es) is

  -- the variables of the patterns are of the premise
  pub patterns_within : Within (vars_of (matched_of Computed (outputs_of il relation es))) (prem_vars p)
  patterns_within x k = subst (λ z. has_name z x ≡ true) (sym goal_vars) (vars_by (map not (mask il relation)) es x (vars_filtered (λ (e : IlExp). not (not (is_pattern e))) (outputs_of il relation es) x k))

  -- a variable of the premise is bound, or it is of a pattern
  pub goal_split : (x : Name) → has_name (prem_vars p) x ≡ true → (has_name bound x ≡ true) ⊎ (has_name (vars_of (matched_of Computed (outputs_of il relation es))) x ≡ true)
  goal_split x k = elim (vars_split (mask il relation) es judged.typed.long x (subst (λ z. has_name z x ≡ true) goal_vars k)) [
    | inl i ↦ inl (known-within bound (vars_of (inputs_of il relation es)) judged.known x i)
    | inr i ↦ outputs_split bound (bound ++ bound_by (outputs_of il relation es)) (outputs_of il relation es) judged.met x i
  ]

  -- so the same variables are bound behind it
  pub bound_behind_goal : (x : Name) → has_name (bound ++ vars_of (matched_of Computed (outputs_of il relation es))) x ≡ has_name (bound ++ prem_vars p) x
  bound_behind_goal x = same_truth (has_name (bound ++ vars_of (matched_of Computed (outputs_of il relation es))) x) (has_name (bound ++ prem_vars p) x)
      (λ k. elim (within-cases bound (vars_of (matched_of Computed (outputs_of il relation es))) x k) [ inl i ↦ within-left bound (prem_vars p) x i | inr i ↦ within-right bound (prem_vars p) x (patterns_within x i) ])
      (λ k. elim (within-cases bound (prem_vars p) x k) [
        | inl i ↦ within-left bound (vars_of (matched_of Computed (outputs_of il relation es))) x i
        | inr i ↦ elim (goal_split x i) [
          | inl j ↦ within-left bound (vars_of (matched_of Computed (outputs_of il relation es))) x j
          | inr j ↦ within-right bound (vars_of (matched_of Computed (outputs_of il relation es))) x j
        ]
      ])
