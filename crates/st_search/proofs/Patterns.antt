-- The expressions at whose holes patterns stand.
use Rattle.std.proofs.Common.{arith, ◌≡◌, sym, ◌∙◌, ap, ℕ, ◌+◌, ◌<◌, ◌≤◌, true, false, not, List, [], ◌∷◌, ◌++◌, length, take, get_or}
use Rattle.std.specs.Prelude.{cond}
use Rattle.std.proofs.lemmas.List.Elements.{filter-append}
use Rattle.st_il.specs.declared.definition.Il.{Il}
use Rattle.st_il.specs.declared.expression.IlExp.{IlExp}
use Rattle.st_il.specs.declared.value.Env.{Env}
use Rattle.st_search.specs.declared.holes.Evaluated.{Evaluated}
use Rattle.st_search.specs.declared.holes.Hole.{Hole}
use Rattle.st_search.specs.inner.Holes.{is_evaluated, IsHole, AreHoles, matched_of}
use Rattle.st_search.proofs.Sequences.{take_step, take_whole, AllZip-at, AllZip-long}

-- an expression that is matched, and one that is evaluated
pub matched_one : (which : Evaluated) (e : IlExp) → is_evaluated which e ≡ false → matched_of which (e ∷ []) ≡ e ∷ []
matched_one which e h = ap (λ b. cond (not b) (e ∷ []) []) h

pub evaluated_one : (which : Evaluated) (e : IlExp) → is_evaluated which e ≡ true → matched_of which (e ∷ []) ≡ []
evaluated_one which e h = ap (λ b. cond (not b) (e ∷ []) []) h

-- what is right of an expression and its hole, whatever they are holes of
abbrev pub Adds : List IlExp → IlExp → Hole → List IlExp → Type 0
Adds patterns e h longer = (il : Il) (n : ℕ) (env : Env) (which : Evaluated) → IsHole il n env which e h → longer ≡ patterns ++ matched_of which (e ∷ [])

abbrev pub AreMatchedOf : List IlExp → List Hole → ℕ → List IlExp → Type 0
AreMatchedOf es holes i patterns = (il : Il) (n : ℕ) (env : Env) (which : Evaluated) → AreHoles il n env which es holes → patterns ≡ matched_of which (take i es)

module _ (es : List IlExp) (holes : List Hole) (i : ℕ) (patterns : List IlExp) (so_far : AreMatchedOf es holes i patterns) where
  pub matched_step : (e : IlExp) (h : Hole) (longer : List IlExp) → i < length es → e ≡ get_or es i e → i < length holes → h ≡ get_or holes i h → Adds patterns e h longer → AreMatchedOf es holes (i + 1) longer
  matched_step e h longer in_es is in_holes is' adds il n env which are =
      adds il n env which (AllZip-at (IsHole il n env which) es holes i e h are in_es is in_holes is')
      ∙ ap (λ z. z ++ matched_of which (e ∷ [])) (so_far il n env which are)
      ∙ sym (filter-append (λ (e : IlExp). not (is_evaluated which e)) (take i es) (e ∷ []))
      ∙ ap (matched_of which) (sym (take_step es i e in_es is))

  -- there are as many holes
  pub matched_short : i < length es → length holes ≤ i → (il : Il) (n : ℕ) (env : Env) (which : Evaluated) → AreHoles il n env which es holes → patterns ≡ matched_of which es
  matched_short in_es few il n env which are = let long = AllZip-long (IsHole il n env which) es holes are in absurd (omega (arith, in_es, few, long))

  pub matched_all : length es ≤ i → (il : Il) (n : ℕ) (env : Env) (which : Evaluated) → AreHoles il n env which es holes → patterns ≡ matched_of which es
  matched_all end il n env which are = so_far il n env which are ∙ ap (matched_of which) (take_whole es i end)
