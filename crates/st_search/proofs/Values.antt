-- What has a value at a depth, and what has one at some depth.
use Rattle.std.proofs.Common.{arith, ◌≡◌, ℕ, ◌+◌, List}
use Rattle.st_il.specs.declared.definition.Il.{Il}
use Rattle.st_il.specs.declared.expression.IlExp.{IlExp}
use Rattle.st_il.specs.declared.value.Env.{Env}
use Rattle.st_il.specs.declared.value.Value.{Value}
use Rattle.st_semantics.specs.declared.outcome.Outcome.{Outcome}
use Rattle.st_semantics.specs.declared.outcome.Outcome.TheVariants.{Val, NoValue, Deep}
use Rattle.st_il.specs.Definitions.{syntaxes}
use Rattle.st_semantics.specs.Evaluation.{Task}
use Rattle.st_semantics.specs.Holding.{HaveValues}
use Rattle.st_semantics.specs.Calls.{CallAt, ValueAt, has_value, has_value_at}
use Rattle.st_semantics.specs.Laws.{IsStable, CallsAreSingle}
use Rattle.st_semantics.proofs.Agree.{Local, Gives-agree}
use Rattle.st_semantics.proofs.Singles.{Gives-single}
use Rattle.st_semantics.proofs.Depths.{value_not_deep}
use Rattle.st_semantics.proofs.Holding.{HaveValues-map}

-- a value at a depth is one at some depth
pub value_up : (il : Il) (n : ℕ) (env : Env) (e : IlExp) (v : Value) → has_value_at il n env e v → has_value il env e v
value_up il n env e v h = (n, h)

pub values_up : (il : Il) (n : ℕ) (ts : List Task) (vs : List Value) → HaveValues (has_value_at il n) ts vs → HaveValues (has_value il) ts vs
values_up il n = HaveValues-map (has_value_at il n) (has_value il) (value_up il n)

no_value-val : (v : Value) → NoValue ≡ Val v → ⊥
no_value-val v e = cc

module _ (il : Il) (stable : IsStable il) (single : CallsAreSingle il) where
  -- an outcome that is not Deep is the value that there is at some depth
  pub value_same : (n : ℕ) (env : Env) (e : IlExp) (o : Outcome) (v : Value) → ValueAt il n env e o → (o ≡ Deep → ⊥) → has_value il env e v → o ≡ Val v
  value_same n env e o v h shallow w =
      Gives-single (syntaxes il) (CallAt il (n + w.0)) (single (n + w.0)) env e o (Val v)
      (stable n (n + w.0) (omega arith) env e o h shallow)
      (stable w.0 (n + w.0) (omega arith) env e (Val v) w.1 (value_not_deep v))

  pub no_value : (n : ℕ) (env : Env) (e : IlExp) (v : Value) → ValueAt il n env e NoValue → has_value il env e v → ⊥
  no_value n env e v h w = no_value-val v (value_same n env e NoValue v h (λ same. cc) w)

  pub value-single : (env : Env) (e : IlExp) (v w : Value) → has_value il env e v → has_value il env e w → v ≡ w
  value-single env e v w g h =
      let same : Val v ≡ Val w = value_same g.0 env e (Val v) w g.1 (value_not_deep v) h in
      cc

pub value-local : (il : Il) → Local (has_value il)
value-local il a b e v g h = (h.0, Gives-agree (syntaxes il) (CallAt il h.0) h.1 b g)
