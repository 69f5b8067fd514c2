-- Values at expressions of which some are evaluated and the others matched.
use Rattle.std.proofs.Common.{◌≡◌, refl, sym, ◌∙◌, ap, ap₂, subst, ℕ, Bool, true, false, not, if◌then◌else◌, List, [], ◌∷◌}
use Rattle.std.specs.List.{AllByRecursion}
use Rattle.st_il.specs.declared.definition.Il.{Il}
use Rattle.st_il.specs.declared.expression.IlExp.{IlExp}
use Rattle.st_il.specs.declared.value.Env.{Env}
use Rattle.st_il.specs.declared.value.Value.{Value}
use Rattle.st_semantics.specs.declared.outcome.Outcome.TheVariants.{Val}
use Rattle.st_il.specs.Definitions.{syntaxes}
use Rattle.st_semantics.specs.Environments.{AgreeOn}
use Rattle.st_semantics.specs.Evaluation.{tasks}
use Rattle.st_semantics.specs.Variables.{vars}
use Rattle.st_semantics.specs.Patterns.{is_pattern}
use Rattle.st_semantics.specs.Matching.{no_answers}
use Rattle.st_semantics.specs.Holding.{HaveValues, value_by}
use Rattle.st_semantics.specs.Calls.{CallAt, ValueAt, has_value, has_value_at}
use Rattle.st_semantics.specs.Laws.{IsStable, CallsAreSingle}
use Rattle.st_semantics.proofs.Agree.{Gives-agree}
use Rattle.st_semantics.proofs.Depths.{value_not_deep}
use Rattle.st_semantics.proofs.PatternParts.{Gives-pattern}
use Rattle.st_search.specs.declared.holes.Evaluated.{Evaluated}
use Rattle.st_search.specs.declared.holes.Hole.{Hole}
use Rattle.st_search.specs.declared.holes.Hole.TheVariants as hole
use Rattle.st_search.specs.inner.Holes.{is_evaluated, AreHoles, AreFitting, matched_of}
use Rattle.st_search.proofs.Values.{value_same, no_value, value-local, value-single}

-- what is evaluated has the same variables in both environments, and what is matched is a pattern
pub record IsSettled (which : Evaluated) (env wide : Env) (e : IlExp) : Type 0 where
  pub evaluated : is_evaluated which e ≡ true → AgreeOn (vars e) env wide
  pub matched : is_evaluated which e ≡ false → is_pattern e ≡ true

module _ (il : Il) (n : ℕ) (which : Evaluated) (env wide : Env) where
  abbrev Fit : List IlExp → List Value → Type 0
  Fit es vs = HaveValues (value_by (syntaxes il) no_answers) (tasks wide es) vs

  abbrev kept_if : Bool → IlExp → List IlExp → List IlExp
  kept_if b e es = if not b then e ∷ matched_of which es else matched_of which es

  -- all have their values where the patterns have those that fit
  pub fitting_values : (es : List IlExp) (holes : List Hole) (vs values : List Value) → AreHoles il n env which es holes → AreFitting holes vs values → AllByRecursion (IsSettled which env wide) es
      → HaveValues (value_by (syntaxes il) no_answers) (tasks wide (matched_of which es)) values → HaveValues (has_value_at il n) (tasks wide es) vs
  fitting_values [] [] [] values are fit ready have = tt
  fitting_values [] [] (v ∷ vs) values are fit ready have = absurd fit
  fitting_values [] (x ∷ holes) vs values are fit ready have = absurd are
  fitting_values (e ∷ es) [] vs values are fit ready have = absurd are
  fitting_values (e ∷ es) (hole.Pattern ∷ holes) [] values are fit ready have = absurd fit
  fitting_values (e ∷ es) (hole.Pattern ∷ holes) (v ∷ vs) values are fit ready have =
      let there : Fit (matched_of which (e ∷ es)) (v ∷ fit.0) = subst (Fit (matched_of which (e ∷ es))) fit.1 have in
      let first : Fit (e ∷ matched_of which es) (v ∷ fit.0) = subst (λ z. Fit (kept_if z e es) (v ∷ fit.0)) are.0 there in
      (Gives-pattern (syntaxes il) (CallAt il n) no_answers (ready.0.matched are.0) first.0, fitting_values es holes vs fit.0 are.1 fit.2 ready.1 first.1)
  fitting_values (e ∷ es) (hole.Value w ∷ holes) [] values are fit ready have = absurd fit
  fitting_values (e ∷ es) (hole.Value w ∷ holes) (v ∷ vs) values are fit ready have =
      let rest : Fit (matched_of which es) values = subst (λ z. Fit (kept_if z e es) values) are.0.0 have in (
        Gives-agree (syntaxes il) (CallAt il n) (subst (λ z. ValueAt il n env e (Val z)) fit.0 are.0.1) wide (ready.0.evaluated are.0.0),
        fitting_values es holes vs values are.1 fit.1 ready.1 rest,
      )
  fitting_values (e ∷ es) (hole.Nothing ∷ holes) vs values are fit ready have = absurd fit

  -- where all have values, some fit, and the patterns have these
  pub values_fitting : IsStable il → CallsAreSingle il → (es : List IlExp) (holes : List Hole) (vs : List Value) → AreHoles il n env which es holes → AllByRecursion (IsSettled which env wide) es → HaveValues (has_value il) (tasks wide es) vs
      → (values : List Value) × AreFitting holes vs values × HaveValues (value_by (syntaxes il) no_answers) (tasks wide (matched_of which es)) values
  values_fitting stable single [] [] [] are ready have = ([], refl, tt)
  values_fitting stable single [] [] (v ∷ vs) are ready have = absurd have
  values_fitting stable single [] (x ∷ holes) vs are ready have = absurd are
  values_fitting stable single (e ∷ es) [] vs are ready have = absurd are
  values_fitting stable single (e ∷ es) (x ∷ holes) [] are ready have = absurd have
  values_fitting stable single (e ∷ es) (hole.Pattern ∷ holes) (v ∷ vs) are ready have =
      let rest = values_fitting stable single es holes vs are.1 ready.1 have.1 in
      let here = Gives-pattern (syntaxes il) no_answers (CallAt il have.0.0) (ready.0.matched are.0) have.0.1 in
      (v ∷ rest.0, (rest.0, refl, rest.1), subst (λ z. Fit (kept_if z e es) (v ∷ rest.0)) (sym are.0) (here, rest.2))
  values_fitting stable single (e ∷ es) (hole.Value w ∷ holes) (v ∷ vs) are ready have =
      let rest = values_fitting stable single es holes vs are.1 ready.1 have.1 in
      let before = value-local il wide env e v (λ x i. sym (ready.0.evaluated are.0.0 x i)) have.0 in
      let same : Val w ≡ Val v = value_same il stable single n env e (Val w) v are.0.1 (value_not_deep w) before in
      let is : w ≡ v = cc in
      (rest.0, (is, rest.1), subst (λ z. Fit (kept_if z e es) rest.0) (sym are.0.0) rest.2)
  values_fitting stable single (e ∷ es) (hole.Nothing ∷ holes) (v ∷ vs) are ready have =
      absurd (no_value il stable single n env e v are.0.1 (value-local il wide env e v (λ x i. sym (ready.0.evaluated are.0.0 x i)) have.0))

-- expressions have one list of values
pub values-single : (il : Il) → IsStable il → CallsAreSingle il → (env : Env) (es : List IlExp) (vs ws : List Value) → HaveValues (has_value il) (tasks env es) vs → HaveValues (has_value il) (tasks env es) ws → vs ≡ ws
values-single il stable single env [] [] [] h k = refl
values-single il stable single env [] [] (w ∷ ws) h k = absurd k
values-single il stable single env [] (v ∷ vs) ws h k = absurd h
values-single il stable single env (e ∷ es) [] ws h k = absurd h
values-single il stable single env (e ∷ es) (v ∷ vs) [] h k = absurd k
values-single il stable single env (e ∷ es) (v ∷ vs) (w ∷ ws) h k = ap₂ (λ y z. y ∷ z) (value-single il stable single env e v w h.0 k.0) (values-single il stable single env es vs ws h.1 k.1)

-- one list of values fits at most
pub fitting_single : (holes : List Hole) (vs as' bs : List Value) → AreFitting holes vs bs → AreFitting holes vs as' → bs ≡ as'
fitting_single [] [] as' bs h k = h ∙ sym k
fitting_single [] (v ∷ vs) as' bs h k = absurd h
fitting_single (hole.Pattern ∷ holes) [] as' bs h k = absurd h
fitting_single (hole.Pattern ∷ holes) (v ∷ vs) as' bs h k = h.1 ∙ (ap (λ z. v ∷ z) (fitting_single holes vs k.0 h.0 h.2 k.2) ∙ sym k.1)
fitting_single (hole.Value w ∷ holes) [] as' bs h k = absurd h
fitting_single (hole.Value w ∷ holes) (v ∷ vs) as' bs h k = fitting_single holes vs as' bs h.1 k.1
fitting_single (hole.Nothing ∷ holes) vs as' bs h k = absurd h
