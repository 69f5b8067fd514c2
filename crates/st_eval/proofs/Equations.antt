-- An equation by the outcome of its bound side, and which side that is.
use Rattle.std.proofs.Common.{◌≡◌, ℕ, zero, suc, refl, sym, ◌∙◌, ap, ap₂, subst, List, [], ◌∷◌, ◌++◌, ◌⊎◌, inl, inr, true, false, ◌&&◌, arith}
use Rattle.std.specs.Prelude.{Contains}
use Rattle.st_il.specs.declared.definition.Il.{Il}
use Rattle.st_il.specs.declared.definition.Listed.{Listed}
use Rattle.st_il.specs.declared.definition.SyntaxDef.{SyntaxDef}
use Rattle.st_il.specs.declared.expression.IlExp.{IlExp, out-IlExp, roll-IlExp, roll-out-IlExp}
use Rattle.st_il.specs.declared.expression.IlExp.TheOpen.{IlExp-F}
use Rattle.st_il.specs.declared.expression.IlExp.TheVariants as exp
use Rattle.st_il.specs.declared.expression.IlPrem.{IlPrem, out-IlPrem}
use Rattle.st_il.specs.declared.expression.IlPrem.TheOpen.{IlPrem-F}
use Rattle.st_il.specs.declared.value.Env.{Env}
use Rattle.st_il.specs.declared.value.Value.{Value}
use Rattle.st_semantics.specs.declared.outcome.Outcome.{Outcome}
use Rattle.st_semantics.specs.declared.outcome.Outcome.TheVariants as outcome
use Rattle.st_il.specs.Names.{Name, has_name, all_known}
use Rattle.st_il.specs.Definitions.{syntaxes}
use Rattle.st_semantics.specs.Environments.{names_of, listed_names}
use Rattle.st_semantics.specs.Formed.{IsFormed}
use Rattle.st_semantics.specs.Variables.{vars, prem_vars}
use Rattle.st_semantics.specs.Patterns.{binds}
use Rattle.st_semantics.specs.Matching.{IsMatch}
use Rattle.st_semantics.specs.Calls.{ValueAt}
use Rattle.st_semantics.specs.Laws.{CallsAreSingle}
use Rattle.st_semantics.proofs.Names.{within-cases, within-left, within-right, prem-level, true_false}
use Rattle.st_match.specs.Matches.{AreMatches}
use Rattle.st_eval.specs.Steps.{HasOnly}
use Rattle.st_eval.specs.declared.condition.Met.{Met}
use Rattle.st_eval.specs.declared.condition.Met.TheVariants as met
use Rattle.st_eval.specs.Meeting.{IsMet, IsEquatedBy, IsEquated, IsEquation, IsCondition}
use Rattle.st_eval.proofs.Conditions.{same_truth, law_of_equations, law_of_sides}

-- ---- what matches

pub last_there : (xs : List Env) (x : Env) → Contains (xs ++ x ∷ []) x
last_there [] x = (zero, omega arith, refl)
last_there (y ∷ xs) x = let w = last_there xs x in let less = w.1 in (suc w.0, omega (arith, less), w.2)

pub one_matches : (defs : List SyntaxDef) (ls : List Listed) (pattern : IlExp) (v : Value) (env : Env) (found others : List Env) (more : Env) → AreMatches defs ls pattern v env found → found ≡ others ++ more ∷ [] → IsMatch defs ls pattern v env more
one_matches defs ls pattern v env found others more are e = (are.exactly more).0 (subst (λ z. Contains z more) (sym e) (last_there others more))

pub none_matches : (defs : List SyntaxDef) (ls : List Listed) (pattern : IlExp) (v : Value) (env : Env) (found : List Env) → AreMatches defs ls pattern v env found → found ≡ [] → (more : Env) → IsMatch defs ls pattern v env more → ⊥
none_matches defs ls pattern v env found are e more m = nothing (subst (λ z. Contains z more) e ((are.exactly more).1 m))
  where
    nothing : Contains [] more → ⊥
    nothing w = let less = w.1 in absurd (omega (arith, less))

-- ---- an equation

pub equated_is : (il : Il) → CallsAreSingle il → (n : ℕ) (bound : List Name) (ls : List Listed) (env : Env) (p : IlPrem) (e side pattern : IlExp) (m : Met) → out-IlPrem p ≡ IlPrem-F.If e → IsEquation il bound ls e side pattern → HasOnly il ls bound env
    → IsEquated il n ls env side pattern m → IsMet il n bound ls env p m
equated_is il single n bound ls env p e side pattern m is eq only w = at w.0 w.1 m w.2
  where
    listed : all_known (listed_names ls) (prem_vars p) ≡ true
    listed = ap (all_known (listed_names ls)) (prem-level p (IlPrem-F.If e) is) ∙ eq.listed

    at : (o : Outcome) → ValueAt il n env side o → (m : Met) → IsEquatedBy il ls env pattern o m → IsMet il n bound ls env p m
    at (outcome.Val v) gives (met.Holds more) t = (law_of_equations il single n bound ls env p e side pattern v is eq.sides eq.matched listed only gives).0 more t
    at (outcome.Val v) gives met.Fails t = (law_of_equations il single n bound ls env p e side pattern v is eq.sides eq.matched listed only gives).1 t
    at (outcome.Val v) gives met.Deep t = absurd t
    at outcome.NoValue gives m t = subst (IsMet il n bound ls env p) (sym t) ((law_of_sides il single n bound ls env p e side pattern is eq.sides).1 gives)
    at outcome.Deep gives m t = subst (IsMet il n bound ls env p) (sym t) ((law_of_sides il single n bound ls env p e side pattern is eq.sides).0 gives)

-- ---- which side is bound

pub known_same : (as' bs xs : List Name) → ((x : Name) → has_name as' x ≡ has_name bs x) → all_known as' xs ≡ all_known bs xs
known_same as' bs [] f = refl
known_same as' bs (x ∷ xs) f = ap₂ (λ y z. y && z) (f x) (known_same as' bs xs f)

pub behind_same : (as' bs ys : List Name) → ((x : Name) → has_name as' x ≡ has_name bs x) → (x : Name) → has_name (as' ++ ys) x ≡ has_name (bs ++ ys) x
behind_same as' bs ys f x = same_truth (has_name (as' ++ ys) x) (has_name (bs ++ ys) x)
    (λ k. elim (within-cases as' ys x k) [ inl i ↦ within-left bs ys x (sym (f x) ∙ i) | inr i ↦ within-right bs ys x i ])
    (λ k. elim (within-cases bs ys x k) [ inl i ↦ within-left as' ys x (f x ∙ i) | inr i ↦ within-right as' ys x i ])

module _ (il : Il) (bound : List Name) (ls : List Listed) (env : Env) (e : IlExp) (only : HasOnly il ls bound env) (can : IsCondition il bound ls e) where
  pub bound_is : (xs : List Name) → all_known (names_of env) xs ≡ all_known bound xs
  bound_is xs = known_same (names_of env) bound xs only.names_are

  -- of what matches all variables are bound, or bound by it
  pub pattern_bound : (side pattern : IlExp) → IsEquation il bound ls e side pattern → all_known (names_of env ++ binds pattern) (vars pattern) ≡ true
  pattern_bound side pattern eq = known_same (names_of env ++ binds pattern) (bound ++ binds pattern) (vars pattern) (behind_same (names_of env) bound (binds pattern) only.names_are) ∙ eq.bound_too

  -- where some variable is not bound, it is an equation
  pub is_equation : all_known (names_of env) (vars e) ≡ false → (side : IlExp) × (pattern : IlExp) × IsEquation il bound ls e side pattern
  is_equation k = at can.way
    where
      at : (all_known bound (vars e) ≡ true) ⊎ ((side : IlExp) × (pattern : IlExp) × IsEquation il bound ls e side pattern) → (side : IlExp) × (pattern : IlExp) × IsEquation il bound ls e side pattern
      at (inl known) = absurd (true_false (sym known ∙ (sym (bound_is (vars e)) ∙ k)))
      at (inr w) = w

  equation_out : (a b : IlExp) → out-IlExp e ≡ IlExp-F.Eq a b → e ≡ exp.Eq a b
  equation_out a b o = sym (roll-out-IlExp e) ∙ (ap roll-IlExp o ∙ exp.rolls-Eq a b)

  pub some_equation : all_known (names_of env) (vars e) ≡ false → ((a b : IlExp) → e ≡ exp.Eq a b → ⊥) → ⊥
  some_equation k none = let w = is_equation k in at w.0 w.1 w.2.sides.0
    where
      at : (side pattern : IlExp) → (out-IlExp e ≡ IlExp-F.Eq side pattern) ⊎ (out-IlExp e ≡ IlExp-F.Eq pattern side) → ⊥
      at side pattern (inl o) = none side pattern (equation_out side pattern o)
      at side pattern (inr o) = none pattern side (equation_out pattern side o)

  module _ (left right : IlExp) (is : e ≡ exp.Eq left right) (k : all_known (names_of env) (vars e) ≡ false) where
    opened : out-IlExp e ≡ IlExp-F.Eq left right
    opened = ap out-IlExp is ∙ exp.outs-Eq left right

    pub left_bound : all_known (names_of env) (vars left) ≡ true → IsEquation il bound ls e left right
    left_bound first = let w = is_equation k in at w.0 w.1 w.2 w.2.sides.0
      where
        at : (side pattern : IlExp) → IsEquation il bound ls e side pattern → (out-IlExp e ≡ IlExp-F.Eq side pattern) ⊎ (out-IlExp e ≡ IlExp-F.Eq pattern side) → IsEquation il bound ls e left right
        at side pattern eq (inl o) =
            let both : IlExp-F.Eq side pattern ≡ IlExp-F.Eq left right = sym o ∙ opened in
            let a : side ≡ left = cc in
            let b : pattern ≡ right = cc in
            subst (λ z. IsEquation il bound ls e z right) a (subst (IsEquation il bound ls e side) b eq)
        at side pattern eq (inr o) =
            let both : IlExp-F.Eq pattern side ≡ IlExp-F.Eq left right = sym o ∙ opened in
            let a : pattern ≡ left = cc in
            absurd (true_false (sym first ∙ (bound_is (vars left) ∙ subst (λ z. all_known bound (vars z) ≡ false) a eq.sides.2)))

    pub right_bound : all_known (names_of env) (vars left) ≡ false → IsEquation il bound ls e right left
    right_bound first = let w = is_equation k in at w.0 w.1 w.2 w.2.sides.0
      where
        at : (side pattern : IlExp) → IsEquation il bound ls e side pattern → (out-IlExp e ≡ IlExp-F.Eq side pattern) ⊎ (out-IlExp e ≡ IlExp-F.Eq pattern side) → IsEquation il bound ls e right left
        at side pattern eq (inl o) =
            let both : IlExp-F.Eq side pattern ≡ IlExp-F.Eq left right = sym o ∙ opened in
            let a : side ≡ left = cc in
            absurd (true_false (sym (subst (λ z. all_known bound (vars z) ≡ true) a eq.sides.1) ∙ (sym (bound_is (vars left)) ∙ first)))
        at side pattern eq (inr o) =
            let both : IlExp-F.Eq pattern side ≡ IlExp-F.Eq left right = sym o ∙ opened in
            let a : pattern ≡ left = cc in
            let b : side ≡ right = cc in
            subst (λ z. IsEquation il bound ls e z left) b (subst (IsEquation il bound ls e side) a eq)

    -- the left side has a form
    pub left_formed : IsFormed (syntaxes il) left
    left_formed = let w = is_equation k in at w.0 w.1 w.2 w.2.sides.0
      where
        at : (side pattern : IlExp) → IsEquation il bound ls e side pattern → (out-IlExp e ≡ IlExp-F.Eq side pattern) ⊎ (out-IlExp e ≡ IlExp-F.Eq pattern side) → IsFormed (syntaxes il) left
        at side pattern eq (inl o) =
            let both : IlExp-F.Eq side pattern ≡ IlExp-F.Eq left right = sym o ∙ opened in
            let a : side ≡ left = cc in
            subst (IsFormed (syntaxes il)) a eq.side_formed
        at side pattern eq (inr o) =
            let both : IlExp-F.Eq pattern side ≡ IlExp-F.Eq left right = sym o ∙ opened in
            let a : pattern ≡ left = cc in
            subst (IsFormed (syntaxes il)) a eq.pattern_formed
