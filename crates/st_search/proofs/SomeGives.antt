-- The values of expressions all of which are evaluated, if none of them has no value.
use Rattle.std.proofs.Common.{◌≡◌, sym, subst, ℕ, ◌+◌, ◌<◌, ◌≤◌, Bool, true, false, List, [], ◌∷◌, ◌++◌, length, take, get_or, inl, inr}
use Rattle.st_il.specs.declared.definition.Il.{Il}
use Rattle.st_il.specs.declared.expression.IlExp.{IlExp}
use Rattle.st_il.specs.declared.value.Env.{Env}
use Rattle.st_il.specs.declared.value.Value.{Value}
use Rattle.st_semantics.specs.declared.outcome.Outcome.{Outcome}
use Rattle.st_semantics.specs.declared.outcome.Outcome.TheVariants.{Val, NoValue, Deep}
use Rattle.st_il.specs.Definitions.{syntaxes}
use Rattle.st_semantics.specs.Evaluation.{tasks}
use Rattle.st_semantics.specs.Holding.{HaveValues}
use Rattle.st_semantics.specs.Calls.{CallAt, ValueAt, has_value_at}
use Rattle.st_semantics.specs.Laws.{CallsAreSingle}
use Rattle.st_semantics.proofs.Depths.{value_not_deep}
use Rattle.st_semantics.proofs.Singles.{Gives-single}
use Rattle.st_search.specs.inner.Holes.{SomeGives}
use Rattle.st_search.proofs.Finds.{Exists-last, Exists-front, Exists-split}
use Rattle.st_search.proofs.Sequences.{take_step, take_whole, Exists-at}

none_deep : NoValue ≡ Deep → ⊥
none_deep e = cc

module _ (il : Il) (n : ℕ) (env : Env) where
  -- none of these is Deep, and they have these values, or one of them has none
  pub record AreValued (es : List IlExp) (whole : Bool) (vs : List Value) : Type 0 where
    pub quiet : SomeGives il n env es Deep → ⊥
    pub values : whole ≡ true → HaveValues (has_value_at il n) (tasks env es) vs
    pub none : whole ≡ false → SomeGives il n env es NoValue

  pub valued_start : (vs : List Value) → vs ≡ [] → AreValued [] true vs
  valued_start vs e = record {
    quiet = λ deep. deep;
    values = λ w. subst (HaveValues (has_value_at il n) []) (sym e) tt;
    none = λ w. cc;
  }

  have_last : (es : List IlExp) (vs : List Value) (e : IlExp) (v : Value) → HaveValues (has_value_at il n) (tasks env es) vs → has_value_at il n env e v → HaveValues (has_value_at il n) (tasks env (es ++ e ∷ [])) (vs ++ v ∷ [])
  have_last [] [] e v have one = (one, tt)
  have_last [] (w ∷ vs) e v have one = absurd have
  have_last (d ∷ es) [] e v have one = absurd have
  have_last (d ∷ es) (w ∷ vs) e v have one = (have.0, have_last es vs e v have.1 one)

  -- a last one that is not Deep
  quiet_last : CallsAreSingle il → (es : List IlExp) (e : IlExp) (o : Outcome) → (SomeGives il n env es Deep → ⊥) → ValueAt il n env e o → (o ≡ Deep → ⊥) → SomeGives il n env (es ++ e ∷ []) Deep → ⊥
  quiet_last single es e o quiet gives fine deep = elim (Exists-split (λ (z : IlExp). ValueAt il n env z Deep) es (e ∷ []) deep) [
    | inl i ↦ quiet i
    | inr i ↦ only i
  ]
    where
      only : SomeGives il n env (e ∷ []) Deep → ⊥
      only (inl here) = fine (Gives-single (syntaxes il) (CallAt il n) (single n) env e o Deep gives here)
      only (inr later) = later

  module _ (es : List IlExp) (i : ℕ) (e : IlExp) (h : i < length es) (is : e ≡ get_or es i e) (whole : Bool) (vs : List Value) (so_far : AreValued (take i es) whole vs) where
    moved : (b : Bool) (ws : List Value) → AreValued (take i es ++ e ∷ []) b ws → AreValued (take (i + 1) es) b ws
    moved b ws r = subst (λ z. AreValued z b ws) (sym (take_step es i e h is)) r

    -- one more that has a value
    pub valued_next : CallsAreSingle il → (v : Value) (longer : List Value) → ValueAt il n env e (Val v) → longer ≡ vs ++ v ∷ [] → AreValued (take (i + 1) es) whole longer
    valued_next single v longer gives more = moved whole longer (record {
      quiet = quiet_last single (take i es) e (Val v) so_far.quiet gives (value_not_deep v);
      values = λ w. subst (HaveValues (has_value_at il n) (tasks env (take i es ++ e ∷ []))) (sym more) (have_last (take i es) vs e v (so_far.values w) gives);
      none = λ w. Exists-front (λ (z : IlExp). ValueAt il n env z NoValue) (take i es) (e ∷ []) (so_far.none w);
    })

    -- one more that has none
    pub valued_none : CallsAreSingle il → ValueAt il n env e NoValue → AreValued (take (i + 1) es) false vs
    valued_none single gives = moved false vs (record {
      quiet = quiet_last single (take i es) e NoValue so_far.quiet gives none_deep;
      values = λ w. cc;
      none = λ w. Exists-last (λ (z : IlExp). ValueAt il n env z NoValue) (take i es) e gives;
    })

  -- one that is Deep
  pub valued_deep : (es : List IlExp) (i : ℕ) (e : IlExp) → i < length es → e ≡ get_or es i e → ValueAt il n env e Deep → SomeGives il n env es Deep
  valued_deep es i e h is gives = Exists-at (λ (z : IlExp). ValueAt il n env z Deep) es i e h is gives

  -- all of them
  pub valued_all : (es : List IlExp) (i : ℕ) (whole : Bool) (vs : List Value) → length es ≤ i → AreValued (take i es) whole vs → AreValued es whole vs
  valued_all es i whole vs h r = subst (λ z. AreValued z whole vs) (take_whole es i h) r
