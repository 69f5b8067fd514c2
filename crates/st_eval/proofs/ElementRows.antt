-- The elements of an iteration from one of them on.
use Rattle.std.proofs.Common.{◌≡◌, ℕ, zero, suc, ◌+◌, ◌-◌, ◌<◌, ◌≤◌, refl, sym, ◌∙◌, ap, List, [], ◌∷◌, drop, arith, add-one}
use Rattle.st_il.specs.Names.{Name}
use Rattle.st_semantics.specs.Environments.{Entry}
use Rattle.st_semantics.specs.Iterations.{Column, tails, rows}
use Rattle.st_match.specs.inner.Scope.{columns_from}
use Rattle.st_match.proofs.Builds.{row_at, rows_left}

drop-suc : (k : ℕ) (c : Column) → drop 1 (drop k c) ≡ drop (suc k) c
drop-suc zero c = refl
drop-suc (suc k) [] = refl
drop-suc (suc k) (v ∷ vs) = drop-suc k vs

tails-first : (c : Column) (cs : List Column) → tails (c ∷ cs) ≡ drop 1 c ∷ tails cs
tails-first [] cs = refl
tails-first (v ∷ vs) cs = refl

tails-from : (k : ℕ) (cs : List Column) → tails (columns_from k cs) ≡ columns_from (k + 1) cs
tails-from k [] = refl
tails-from k (c ∷ cs) =
    tails-first (drop k c) (columns_from k cs)
    ∙ (ap (λ z. z ∷ tails (columns_from k cs)) (drop-suc k c ∙ ap (λ n. drop n c) (sym (add-one k))) ∙ ap (λ z. drop (k + 1) c ∷ z) (tails-from k cs))

module _ (index : List Name) (xs : List Name) (env : List Entry) (cs : List Column) where
  pub rows_left-first : (size k : ℕ) → k < size → rows_left index xs env cs size k ≡ row_at index xs env cs k ∷ rows_left index xs env cs size (k + 1)
  rows_left-first size k h =
      let one : size - k ≡ suc (size - (k + 1)) = omega arith in
      ap (λ n. rows index xs env n k (columns_from k cs)) one
      ∙ ap (λ z. row_at index xs env cs k ∷ rows index xs env (size - (k + 1)) (k + 1) z) (tails-from k cs)

  pub rows_left-end : (size k : ℕ) → size ≤ k → rows_left index xs env cs size k ≡ []
  rows_left-end size k h =
      let none_left : size - k ≡ 0 = omega arith in
      ap (λ n. rows index xs env n k (columns_from k cs)) none_left
