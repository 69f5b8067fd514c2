-- Marks, and vectors that were written whole.
use Rattle.std.proofs.Common.{◌≡◌, refl, sym, ap, ◌∙◌, ℕ, zero, suc, ◌<◌, List, [], ◌∷◌, ◌++◌, length, set, take, drop, Bool, true, false, arith}
use Rattle.std.proofs.lemmas.List.{drop_all}
use Rattle.st_type_table.specs.inner.Graph.{mark, unmarked}

pub unmarked-set : (ms : List Bool) (i : ℕ) → i < length ms → mark ms i ≡ false → suc (unmarked (set ms i true)) ≡ unmarked ms
unmarked-set [] i h e = absurd (omega arith)
unmarked-set (false ∷ ms) zero h e = refl
unmarked-set (true ∷ ms) zero h e = cc
unmarked-set (false ∷ ms) (suc i) h e = ap suc (unmarked-set ms i (omega arith) e)
unmarked-set (true ∷ ms) (suc i) h e = unmarked-set ms i (omega arith) e

-- a vector that was written whole
pub whole : {A : Type 0} (len : ℕ) (new old : List A) → length new ≡ len → length new ≡ length old → take len (new ++ drop (length new) old) ≡ new
whole {A = A} len new old p q =
    ap (λ xs. take len (new ++ xs)) (drop_all (length new) old (omega (arith, q))) ∙ ap (take len) (append_nil new) ∙ ap (λ n. take n new) (sym p) ∙ take_whole new
  where
    append_nil : (xs : List A) → xs ++ [] ≡ xs
    append_nil [] = refl
    append_nil (x ∷ xs) = ap (λ ys. x ∷ ys) (append_nil xs)

    take_whole : (xs : List A) → take (length xs) xs ≡ xs
    take_whole [] = refl
    take_whole (x ∷ xs) = ap (λ ys. x ∷ ys) (take_whole xs)
