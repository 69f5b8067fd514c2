-- Names that are among others, and lists that say the same of names.
use Rattle.std.proofs.Common.{◌≡◌, refl, ◌∙◌, ap, ap₂, List, [], ◌∷◌, filter, inl, inr, Bool, true, false, not, ◌||◌, if◌then◌else◌, bytes_eq}
use Rattle.st_il.specs.declared.expression.IlExp.{IlExp}
use Rattle.st_il.specs.declared.expression.Iteration.{Iteration}
use Rattle.st_il.specs.Names.{Name, has_name, all_known, among, without}
use Rattle.st_semantics.specs.Iterations.{count_of}
use Rattle.st_semantics.specs.Variables.{vars}
use Rattle.st_semantics.specs.Depth.{bound_count}
use Rattle.st_semantics.proofs.Names.{bytes-path, or-cases, or-left, or-right}
use Rattle.st_eval.proofs.Equations.{known_same}

pub among-parts : (some xs : List Name) (x : Name) → has_name (among some xs) x ≡ true → (has_name some x ≡ true) × (has_name xs x ≡ true)
among-parts some [] x h = cc
among-parts some (y ∷ ys) x h = at (has_name some y) refl h (among-parts some ys x)
  where
    at : (b : Bool) → has_name some y ≡ b → has_name (if b then y ∷ among some ys else among some ys) x ≡ true → (has_name (among some ys) x ≡ true → (has_name some x ≡ true) × (has_name ys x ≡ true))
        → (has_name some x ≡ true) × ((bytes_eq x y || has_name ys x) ≡ true)
    at true k h ih = elim (or-cases (bytes_eq x y) (has_name (among some ys) x) h) [
      | inl j ↦ (ap (has_name some) (bytes-path x y j) ∙ k, or-left (bytes_eq x y) (has_name ys x) j)
      | inr j ↦ (let w = ih j in (w.0, or-right (bytes_eq x y) (has_name ys x) w.1))
    ]
    at false k h ih = let w = ih h in (w.0, or-right (bytes_eq x y) (has_name ys x) w.1)

module _ (as' bs : List Name) (same : (x : Name) → has_name as' x ≡ has_name bs x) where
  pub among-same : (xs : List Name) → among as' xs ≡ among bs xs
  among-same [] = refl
  among-same (x ∷ xs) = ap₂ (λ b rest. if b then x ∷ rest else rest) (same x) (among-same xs)

  pub without-same : (xs : List Name) → without as' xs ≡ without bs xs
  without-same [] = refl
  without-same (x ∷ xs) = ap₂ (λ b rest. if not b then x ∷ rest else rest) (same x) (without-same xs)

  counts-same : (es : List IlExp) → filter (λ (e : IlExp). all_known as' (vars e)) es ≡ filter (λ (e : IlExp). all_known bs (vars e)) es
  counts-same [] = refl
  counts-same (e ∷ es) = ap₂ (λ b rest. if b then e ∷ rest else rest) (known_same as' bs (vars e) same) (counts-same es)

  pub bound_count-same : (how : Iteration) → bound_count as' how ≡ bound_count bs how
  bound_count-same how = counts-same (count_of how)
