-- The premises of some numbers, one after another.
use Rattle.std.proofs.Common.{◌≡◌, refl, sym, ◌∙◌, ap, ℕ, zero, suc, ◌+◌, ◌<◌, List, [], ◌∷◌, ◌++◌, append-nil, length, get_or, drop, arith}
use Rattle.st_il.specs.declared.expression.IlPrem.{IlPrem}
use Rattle.st_semantics.specs.Parts.{option_list}
use Rattle.st_semantics.specs.Orders.{premise_at, in_order}
use Rattle.st_order.proofs.Following.{following}

in_order_head : (ps : List IlPrem) (k : ℕ) (ks : List ℕ) → in_order ps (k ∷ ks) ≡ in_order ps (k ∷ []) ++ in_order ps ks
in_order_head ps k ks = ap (λ z. z ++ in_order ps ks) (sym (append-nil (option_list (premise_at ps k))))

read_again : (xs : List ℕ) (i : ℕ) → i < length xs → get_or xs i 0 ≡ get_or xs i (get_or xs i 0)
read_again [] i h = absurd (omega arith)
read_again (x ∷ xs) zero h = refl
read_again (x ∷ xs) (suc i) h = read_again xs i (omega arith)

-- the premise of the next number is added, if there is one
pub in_order_next : (ps : List IlPrem) (order : List ℕ) (i : ℕ) (now new whole : List IlPrem) → i < length order → now ++ in_order ps (drop i order) ≡ whole
    → new ≡ now ++ option_list (premise_at ps (get_or order i 0)) → new ++ in_order ps (drop (i + 1) order) ≡ whole
in_order_next ps order i now new whole h inv n =
    following (in_order ps) (in_order_head ps) order i (get_or order i 0) now new whole h (read_again order i h) inv
    (n ∙ ap (λ z. now ++ z) (sym (append-nil (option_list (premise_at ps (get_or order i 0))))))
