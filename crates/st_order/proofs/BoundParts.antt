-- The variables that patterns bind, by those of their parts.
use Rattle.std.proofs.Common.{◌≡◌, refl, sym, ◌∙◌, ap, ap₂, ℕ, ◌+◌, ◌<◌, Bool, true, false, List, [], ◌∷◌, ◌++◌, append_assoc, append-nil, length, get_or, drop, map, filter, if◌then◌else◌, ◌⊎◌, inl, inr, rules}
use Rattle.std.specs.Borrow.{Bor}
use Rattle.st_il.specs.declared.expression.IlExp.{IlExp, the_lemmas}
use Rattle.st_il.specs.declared.expression.IlExp.TheVariants as exp
use Rattle.st_il.specs.declared.expression.PathSeg.{PathSeg}
use Rattle.st_il.specs.declared.expression.Iteration.{Iteration}
use Rattle.st_il.specs.Names.{Name, flattened, among, without}
use Rattle.st_semantics.specs.Iterations.{index_of}
use Rattle.st_semantics.specs.Patterns.{Bound, is_pattern, binds, bound_by}
use Rattle.st_order.specs.inner.Parts.{exps_in, names_bound, bound_in, bound_segment}
use Rattle.st_order.specs.inner.Index.{names_in, SameNames}
use Rattle.st_semantics.proofs.HoleSums.{drop_there}
use Rattle.st_order.proofs.SameNames.{among_same, names_made, SameNames-made}
use Rattle.st_order.proofs.VariableParts.{three_parts}

pub names_bound_append : (xs ys : List Bound) → names_bound (xs ++ ys) ≡ names_bound xs ++ names_bound ys
names_bound_append [] ys = refl
names_bound_append (x ∷ xs) ys = ap (λ z. x.names ++ z) (names_bound_append xs ys) ∙ sym (append_assoc x.names (names_bound xs) (names_bound ys))

-- what the steps of a path bind
path_bound : (path : List PathSeg) → names_bound (flattened (map (λ (s : List Bound). s) (map bound_segment path))) ≡ flattened (map (λ s. names_bound (bound_segment s)) path)
path_bound [] = refl
path_bound (s ∷ ss) =
    names_bound_append (bound_segment s) (flattened (map (λ (s : List Bound). s) (map bound_segment ss))) ∙ ap (λ z. names_bound (bound_segment s) ++ z) (path_bound ss)

place_parts : (path : List PathSeg) (x : List Name) (y : Bound) → x ++ names_bound (flattened (map (λ (s : List Bound). s) (map bound_segment path)) ++ y ∷ [])
    ≡ x ++ (flattened (map (λ s. names_bound (bound_segment s)) path) ++ y.names)
place_parts path x y =
    ap (λ z. x ++ z) (names_bound_append (flattened (map (λ (s : List Bound). s) (map bound_segment path))) (y ∷ []) ∙ ap₂ (λ a b. a ++ b) (path_bound path) (append-nil y.names))

set_bound : (x y : IlExp) (path : List PathSeg) → binds (exp.Set x path y) ≡ binds x ++ names_bound (flattened (map (λ (s : List Bound). s) (map bound_segment path)) ++ bound_in y ∷ [])
set_bound x y path = search (rules, the_lemmas)

extend_bound : (x y : IlExp) (path : List PathSeg) → binds (exp.Extend x path y) ≡ binds x ++ names_bound (flattened (map (λ (s : List Bound). s) (map bound_segment path)) ++ bound_in y ∷ [])
extend_bound x y path = search (rules, the_lemmas)

place_bound : (e x y : IlExp) (path : List PathSeg) → (e ≡ exp.Set x path y) ⊎ (e ≡ exp.Extend x path y) → binds e ≡ binds x ++ names_bound (flattened (map (λ (s : List Bound). s) (map bound_segment path)) ++ bound_in y ∷ [])
place_bound e x y path (inl is) = ap binds is ∙ set_bound x y path
place_bound e x y path (inr is) = ap binds is ∙ extend_bound x y path

pub bound_of_place : (e x y : IlExp) (path : List PathSeg) (old first second third : List Name) (ex ey : IlExp) → (e ≡ exp.Set x path y) ⊎ (e ≡ exp.Extend x path y) → ex ≡ x → ey ≡ y
    → (p : List PathSeg) → p ≡ path → first ≡ old ++ binds ex → second ≡ first ++ flattened (map (λ s. names_bound (bound_segment s)) p) → third ≡ second ++ binds ey → third ≡ old ++ binds e
bound_of_place e x y path old first second third ex ey is x_is y_is p p_is a b c =
    three_parts old first second third (binds x) (flattened (map (λ s. names_bound (bound_segment s)) path)) (binds y) (binds e)
    (a ∙ ap (λ z. old ++ binds z) x_is) (b ∙ ap (λ z. first ++ flattened (map (λ s. names_bound (bound_segment s)) z)) p_is) (c ∙ ap (λ z. second ++ binds z) y_is)
    (place_bound e x y path is ∙ place_parts path (binds x) (bound_in y))

-- ---- several expressions

bound_by_head : (e : IlExp) (es : List IlExp) → bound_by (e ∷ es) ≡ bound_by (e ∷ []) ++ bound_by es
bound_by_head e es = at (is_pattern e)
  where
    at : (b : Bool) → flattened (map binds (if b then e ∷ filter is_pattern es else filter is_pattern es)) ≡ flattened (map binds (if b then e ∷ [] else [])) ++ bound_by es
    at true = ap (λ z. z ++ bound_by es) (sym (append-nil (binds e)))
    at false = refl

pub bound_by_next : (es : List (Bor IlExp)) (i : ℕ) (e : Bor IlExp) (now new whole : List Name) → i < length es → e ≡ get_or es i e
    → now ++ bound_by (exps_in (drop i es)) ≡ whole → new ≡ now ++ bound_by (e.now ∷ []) → new ++ bound_by (exps_in (drop (i + 1) es)) ≡ whole
bound_by_next es i e now new whole h is inv n =
    ap (λ z. z ++ bound_by (exps_in (drop (i + 1) es))) n ∙ append_assoc now (bound_by (e.now ∷ [])) (bound_by (exps_in (drop (i + 1) es)))
    ∙ ap (λ z. now ++ z) (sym (bound_by_head e.now (exps_in (drop (i + 1) es)))) ∙ ap (λ z. now ++ bound_by (exps_in z)) (sym (drop_there es i e h is)) ∙ inv

-- ---- what an iteration binds

pub iterated_made : (how : Iteration) (xs inner set : List Name) (listed listed_row listed_old rest rest_row rest_old : List (Bor (List ℕ))) (old new : List Name) → SameNames set (names_in listed) → listed ≡ listed_row
    → names_in listed_row ≡ names_in listed_old ++ xs → listed_old ≡ [] → rest ≡ rest_row → names_in rest_row ≡ names_in rest_old ++ without (index_of how) inner → rest_old ≡ []
    → new ≡ old ++ among set (names_in rest) → new ≡ old ++ among xs (without (index_of how) inner)
iterated_made how xs inner set listed listed_row listed_old rest rest_row rest_old old new s a b c d e f g =
    g ∙ ap (λ z. old ++ z) (among_same set xs (SameNames-made set listed listed_row listed_old xs s a b c) (names_in rest) ∙ ap (among xs) (names_made rest rest_row rest_old (without (index_of how) inner) d e f))
