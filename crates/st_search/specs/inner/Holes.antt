-- Expressions that are to have given values: some are evaluated, and the others are matched.
use Rattle.std.specs.Prelude.{◌≡◌, ℕ, Bool, true, false, not, nat_eq, List, [], ◌∷◌, length, filter}
use Rattle.std.specs.List.{AllZip}
use Rattle.st_il.specs.declared.definition.Il.{Il}
use Rattle.st_il.specs.declared.expression.IlExp.{IlExp}
use Rattle.st_il.specs.declared.value.Env.{Env}
use Rattle.st_il.specs.declared.value.Value.{Value}
use Rattle.st_semantics.specs.declared.outcome.Outcome.{Outcome}
use Rattle.st_semantics.specs.declared.outcome.Outcome.TheVariants.{Val, NoValue, Deep}
use Rattle.st_semantics.specs.Variables.{vars}
use Rattle.st_semantics.specs.Patterns.{is_pattern}
use Rattle.st_semantics.specs.Calls.{ValueAt}
use Rattle.st_search.specs.declared.holes.Evaluated.{Evaluated}
use Rattle.st_search.specs.declared.holes.Evaluated.TheVariants as evaluated
use Rattle.st_search.specs.declared.holes.Hole.{Hole}
use Rattle.st_search.specs.declared.holes.Hole.TheVariants as hole
use Rattle.st_search.specs.inner.Lists.{Exists}

-- whether an expression is evaluated: of inputs those that are closed, of outputs those that are no
-- patterns
abbrev pub is_evaluated : Evaluated → IlExp → Bool
is_evaluated evaluated.Closed e = nat_eq (length (vars e)) 0
is_evaluated evaluated.Computed e = not (is_pattern e)

-- What stands at a hole: an expression that is evaluated by what it comes to at n, or a pattern.
abbrev pub IsHole : Il → ℕ → Env → Evaluated → IlExp → Hole → Type 0
IsHole il n env which e hole.Pattern = is_evaluated which e ≡ false
IsHole il n env which e (hole.Value v) =
    (is_evaluated which e ≡ true) × ValueAt il n env e (Val v)
IsHole il n env which e hole.Nothing = (is_evaluated which e ≡ true) × ValueAt il n env e NoValue

-- what stands at the holes of these expressions
abbrev pub AreHoles : Il → ℕ → Env → Evaluated → List IlExp → List Hole → Type 0
AreHoles il n env which es holes = AllZip (IsHole il n env which) es holes

-- one of the expressions that are evaluated is Deep
abbrev pub HasDeepHole : Il → ℕ → Env → Evaluated → List IlExp → Type 0
HasDeepHole il n env which es =
    Exists (λ (e : IlExp). (is_evaluated which e ≡ true) × ValueAt il n env e Deep) es

-- one of some expressions comes to this outcome
abbrev pub SomeGives : Il → ℕ → Env → List IlExp → Outcome → Type 0
SomeGives il n env es o = Exists (λ (e : IlExp). ValueAt il n env e o) es

-- the expressions that are matched
abbrev pub matched_of : Evaluated → List IlExp → List IlExp
matched_of which es = filter (λ (e : IlExp). not (is_evaluated which e)) es

-- the values at the patterns, where the other expressions have theirs
abbrev pub AreFitting : List Hole → List Value → List Value → Type 0
AreFitting [] [] found = found ≡ []
AreFitting [] (v ∷ vs) found = ⊥
AreFitting (hole.Pattern ∷ holes) [] found = ⊥
AreFitting (hole.Pattern ∷ holes) (v ∷ vs) found =
    (rest : List Value) × (found ≡ v ∷ rest) × AreFitting holes vs rest
AreFitting (hole.Value w ∷ holes) [] found = ⊥
AreFitting (hole.Value w ∷ holes) (v ∷ vs) found = (w ≡ v) × AreFitting holes vs found
AreFitting (hole.Nothing ∷ holes) vs found = ⊥
