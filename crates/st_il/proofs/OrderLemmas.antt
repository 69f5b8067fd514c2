-- The order of values, level by level.
use Rattle.std.proofs.Common.{◌≡◌, refl, sym, ◌∙◌, ap, ℕ, ◌-◌, ◌<◌, ◌≤◌, List, [], ◌∷◌, map, length, drop, length-drop, arith}
use Rattle.std.specs.Prelude.{Some, None}
use Rattle.std.specs.Ordering.{ordering_then, nat_cmp}
use Rattle.std.specs.declared.cmp.Ordering.TheVariants.{Less as Below, Equal}
use Rattle.std.proofs.lemmas.Bool.Decides.{nat_tests}
use Rattle.std.proofs.lemmas.List.{drop_all}
use Rattle.std.specs.Cmp.Lexicographic.{slice_cmp}
use Rattle.std.specs.declared.cmp.Ordering.{Ordering}
use Rattle.st_il.specs.declared.value.Value.{Value, out-Value, fold_out-Value, map-Value}
use Rattle.st_il.specs.declared.value.Value.TheOpen.{Value-F}
use Rattle.st_il.specs.declared.value.Value.TheVariants as v
use Rattle.st_il.specs.Order.{Compares, compare_at, level_cmp, field_cmp, text_cmp, value_cmp, values_cmp, fields_cmp}

-- lists of parts, each with its own comparison
pub parts-map : (xs ys : List Value) → slice_cmp (λ (part : Compares). part) (map value_cmp xs) ys ≡ values_cmp xs ys
parts-map [] [] = refl
parts-map [] (y ∷ ys) = refl
parts-map (x ∷ xs) [] = refl
parts-map (x ∷ xs) (y ∷ ys) = ap (ordering_then (value_cmp x y)) (parts-map xs ys)

-- the same of fields
pub fields-map : (xs ys : List (List ℕ × Value)) → slice_cmp (field_cmp (λ (part : Compares). part)) (map (λ x. (x.0, value_cmp x.1)) xs) ys ≡ fields_cmp xs ys
fields-map [] [] = refl
fields-map [] (y ∷ ys) = refl
fields-map (x ∷ xs) [] = refl
fields-map (x ∷ xs) (y ∷ ys) = ap (ordering_then (field_cmp value_cmp x y)) (fields-map xs ys)

level-map : (x y : Value-F Value) → level_cmp (λ (part : Compares). part) (map-Value Value Compares value_cmp x) y ≡ level_cmp value_cmp x y
level-map (Value-F.Case tag xs) (Value-F.Case other ys) = ap (ordering_then (text_cmp tag other)) (parts-map xs ys)
level-map (Value-F.Fields xs) (Value-F.Fields ys) = fields-map xs ys
level-map (Value-F.Tuple xs) (Value-F.Tuple ys) = parts-map xs ys
level-map (Value-F.List xs) (Value-F.List ys) = parts-map xs ys
level-map (Value-F.Opt None) (Value-F.Opt None) = refl
level-map (Value-F.Opt None) (Value-F.Opt (Some y)) = refl
level-map (Value-F.Opt (Some x)) (Value-F.Opt None) = refl
level-map (Value-F.Opt (Some x)) (Value-F.Opt (Some y)) = refl
level-map _ _ = refl

-- the order of two values is that of their levels
pub value_cmp-levels : (x y : Value) → value_cmp x y ≡ level_cmp value_cmp (out-Value x) (out-Value y)
value_cmp-levels x y = ap (λ f. f y) (fold_out-Value Compares compare_at x) ∙ level-map (out-Value x) (out-Value y)

pub at_levels : (x y : Value) (p q : Value-F Value) → out-Value x ≡ p → out-Value y ≡ q → value_cmp x y ≡ level_cmp value_cmp p q
at_levels x y p q e f = value_cmp-levels x y ∙ cc

pub value_cmp-Case : (x y : Value) (tag other : List ℕ) (xs ys : List Value) → x ≡ v.Case tag xs → y ≡ v.Case other ys → value_cmp x y ≡ ordering_then (text_cmp tag other) (values_cmp xs ys)
value_cmp-Case x y tag other xs ys e f = at_levels x y (Value-F.Case tag xs) (Value-F.Case other ys) (ap out-Value e ∙ v.outs-Case tag xs) (ap out-Value f ∙ v.outs-Case other ys)

-- cases of one tag, by their parts
pub cases-tied : (x y : Value) (tag other : List ℕ) (xs ys us ws : List Value) (r : Ordering) → x ≡ v.Case tag xs → y ≡ v.Case other ys
    → Equal ≡ text_cmp tag other → r ≡ values_cmp us ws → us ≡ xs → ws ≡ ys → r ≡ value_cmp x y
cases-tied x y tag other xs ys us ws r e f tied h p q =
    h ∙ ap (λ zs. values_cmp zs ws) p ∙ ap (values_cmp xs) q ∙ ap (λ o. ordering_then o (values_cmp xs ys)) tied ∙ sym (value_cmp-Case x y tag other xs ys e f)

pub value_cmp-Fields : (x y : Value) (xs ys : List (List ℕ × Value)) → x ≡ v.Fields xs → y ≡ v.Fields ys → value_cmp x y ≡ fields_cmp xs ys
value_cmp-Fields x y xs ys e f = at_levels x y (Value-F.Fields xs) (Value-F.Fields ys) (ap out-Value e ∙ v.outs-Fields xs) (ap out-Value f ∙ v.outs-Fields ys)

pub value_cmp-Tuple : (x y : Value) (xs ys : List Value) → x ≡ v.Tuple xs → y ≡ v.Tuple ys → value_cmp x y ≡ values_cmp xs ys
value_cmp-Tuple x y xs ys e f = at_levels x y (Value-F.Tuple xs) (Value-F.Tuple ys) (ap out-Value e ∙ v.outs-Tuple xs) (ap out-Value f ∙ v.outs-Tuple ys)

pub value_cmp-List : (x y : Value) (xs ys : List Value) → x ≡ v.List xs → y ≡ v.List ys → value_cmp x y ≡ values_cmp xs ys
value_cmp-List x y xs ys e f = at_levels x y (Value-F.List xs) (Value-F.List ys) (ap out-Value e ∙ v.outs-List xs) (ap out-Value f ∙ v.outs-List ys)

nat_cmp-less : (m n : ℕ) → m < n → nat_cmp m n ≡ Below
nat_cmp-less m n h = grind (arith, nat_tests)

nat_cmp-equal : (m n : ℕ) → m ≡ n → nat_cmp m n ≡ Equal
nat_cmp-equal m n h = grind (arith, nat_tests)

-- where the first list has ended, the lengths decide
pub ended : {A : Type 0} (R : A → A → Ordering) (xs ys : List A) (i : ℕ) → length xs ≤ i → i ≤ length xs → i ≤ length ys → slice_cmp R xs ys ≡ slice_cmp R (drop i xs) (drop i ys)
    → nat_cmp (length xs) (length ys) ≡ slice_cmp R xs ys
ended R xs ys i h k m e = go (drop i ys) (length-drop i ys) ∙ sym (e ∙ ap (λ zs. slice_cmp R zs (drop i ys)) (drop_all i xs h))
  where
    go : (zs : List _) → length zs ≡ length ys - i → nat_cmp (length xs) (length ys) ≡ slice_cmp R [] zs
    go [] f = nat_cmp-equal (length xs) (length ys) (omega arith)
    go (z ∷ zs) f = nat_cmp-less (length xs) (length ys) (omega arith)
