-- The elements of several columns at one position, and the variables that are bound to them.
use Rattle.std.proofs.Common.{◌≡◌, ℕ, zero, suc, ◌+◌, ◌<◌, refl, sym, ◌∙◌, ap, List, [], ◌∷◌, ◌++◌, map, drop, length, get_or, append_assoc, add-one, drop-cons}
use Rattle.std.specs.Prelude.{slice_get, pos}
use Rattle.st_il.specs.declared.value.Value.{Value}
use Rattle.st_il.specs.declared.value.Value.TheVariants as value
use Rattle.st_il.specs.Names.{Name}
use Rattle.st_semantics.specs.Environments.{Entry}
use Rattle.st_semantics.specs.Parts.{option_list}
use Rattle.st_semantics.specs.Iterations.{Column, heads, bound_to, counted_to}
use Rattle.st_match.specs.declared.column.Elements.{Elements}
use Rattle.st_match.specs.declared.scope.Bound.{Bound}
use Rattle.st_match.specs.inner.Scope.{entry_of, entries_of, column_now, columns_now, columns_from}

heads-first : (k : ℕ) (c : Column) (cs : List Column) → heads (drop k c ∷ cs) ≡ option_list (slice_get c k) ++ heads cs
heads-first zero [] cs = refl
heads-first zero (v ∷ vs) cs = refl
heads-first (suc k) [] cs = refl
heads-first (suc k) (v ∷ vs) cs = heads-first k vs cs

-- the elements of the columns from one on
abbrev pub heads_left : ℕ → List Elements → List Value
heads_left k cs = heads (columns_from k (columns_now cs))

pub heads-next : (k : ℕ) (cs : List Elements) (i : ℕ) (c : Elements) (found longer : List Value) → i < length cs → c ≡ get_or cs i c
    → longer ≡ found ++ option_list (slice_get (column_now c) k) → longer ++ heads_left k (drop (i + 1) cs) ≡ found ++ heads_left k (drop i cs)
heads-next k cs i c found longer h is e =
    ap (λ z. z ++ heads_left k (drop (i + 1) cs)) e
    ∙ (append_assoc found (option_list (slice_get (column_now c) k)) (heads_left k (drop (i + 1) cs))
    ∙ (ap (λ z. found ++ z) (sym (heads-first k (column_now c) (columns_from k (columns_now (drop (i + 1) cs)))))
    ∙ ap (λ z. found ++ heads_left k z) (sym (drop-cons cs i c h ∙ (ap (λ z. z ∷ drop (suc i) cs) (sym is) ∙ ap (λ n. c ∷ drop n cs) (sym (add-one i)))))))

-- ---- the variables of an element

bound_to-behind : (xs : List Name) (vs : List Value) (es fs : List Entry) → bound_to xs vs (es ++ fs) ≡ bound_to xs vs es ++ fs
bound_to-behind [] vs es fs = refl
bound_to-behind (x ∷ xs) [] es fs = refl
bound_to-behind (x ∷ xs) (v ∷ vs) es fs = ap (λ (z : List Entry). (x, v) ∷ z) (bound_to-behind xs vs es fs)

map-append : {A B : Type 0} (f : A → B) (xs ys : List A) → map f (xs ++ ys) ≡ map f xs ++ map f ys
map-append f [] ys = refl
map-append f (x ∷ xs) ys = ap (λ z. f x ∷ z) (map-append f xs ys)

pub entries_of-element : (index names : List Name) (k : ℕ) (hs ws : List Value) (first second third scope : List Bound) → entries_of first ≡ counted_to index k []
    → entries_of second ≡ entries_of first ++ bound_to names ws [] → third ≡ second ++ scope → ws ≡ hs → entries_of third ≡ counted_to index k (bound_to names hs (entries_of scope))
entries_of-element index names k hs ws first second third scope p q r e =
    ap entries_of r
    ∙ (map-append entry_of second scope
    ∙ (ap (λ z. z ++ entries_of scope) (q ∙ (ap (λ z. z ++ bound_to names ws []) p ∙ ap (λ w. counted_to index k [] ++ bound_to names w []) e))
    ∙ (append_assoc (counted_to index k []) (bound_to names hs []) (entries_of scope)
    ∙ (ap (λ z. counted_to index k [] ++ z) (sym (bound_to-behind names hs [] (entries_of scope)))
    ∙ sym (bound_to-behind index (value.Num (pos k) ∷ []) [] (bound_to names hs (entries_of scope)))))))
