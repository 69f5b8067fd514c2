-- The variables of expressions, by those of their parts.
use Rattle.std.proofs.Common.{◌≡◌, refl, sym, ◌∙◌, ap, ap₂, List, [], ◌∷◌, ◌++◌, append_assoc, append-nil, ℕ, ◌+◌, ◌<◌, length, get_or, drop, map, ◌⊎◌, inl, inr, rules}
use Rattle.std.specs.Borrow.{Bor}
use Rattle.st_il.specs.declared.expression.IlExp.{IlExp, the_lemmas}
use Rattle.st_il.specs.declared.expression.IlExp.TheVariants as exp
use Rattle.st_il.specs.declared.expression.PathSeg.{PathSeg}
use Rattle.st_il.specs.Names.{Name, flattened}
use Rattle.st_semantics.specs.Variables.{vars, vars_of}
use Rattle.st_order.specs.inner.Parts.{segment_vars, exps_in}
use Rattle.st_semantics.proofs.HoleSums.{drop_there}

pub flattened_append : (xs ys : List (List Name)) → flattened (xs ++ ys) ≡ flattened xs ++ flattened ys
flattened_append [] ys = refl
flattened_append (x ∷ xs) ys = ap (λ z. x ++ z) (flattened_append xs ys) ∙ sym (append_assoc x (flattened xs) (flattened ys))

-- the variables in the steps of a path
path_vars : (path : List PathSeg) → flattened (flattened (map (λ (s : List (List Name)). s) (map segment_vars path))) ≡ flattened (map (λ s. flattened (segment_vars s)) path)
path_vars [] = refl
path_vars (s ∷ ss) =
    flattened_append (segment_vars s) (flattened (map (λ (s : List (List Name)). s) (map segment_vars ss))) ∙ ap (λ z. flattened (segment_vars s) ++ z) (path_vars ss)

place_parts : (path : List PathSeg) (x y : List Name) → x ++ flattened (flattened (map (λ (s : List (List Name)). s) (map segment_vars path)) ++ y ∷ [])
    ≡ x ++ (flattened (map (λ s. flattened (segment_vars s)) path) ++ y)
place_parts path x y =
    ap (λ z. x ++ z) (flattened_append (flattened (map (λ (s : List (List Name)). s) (map segment_vars path))) (y ∷ []) ∙ ap₂ (λ a b. a ++ b) (path_vars path) (append-nil y))

set_vars : (x y : IlExp) (path : List PathSeg) → vars (exp.Set x path y) ≡ vars x ++ flattened (flattened (map (λ (s : List (List Name)). s) (map segment_vars path)) ++ vars y ∷ [])
set_vars x y path = search (rules, the_lemmas)

extend_vars : (x y : IlExp) (path : List PathSeg) → vars (exp.Extend x path y) ≡ vars x ++ flattened (flattened (map (λ (s : List (List Name)). s) (map segment_vars path)) ++ vars y ∷ [])
extend_vars x y path = search (rules, the_lemmas)

-- what is added where a place is replaced or extended
pub three_parts : (old first second third x p y all : List Name) → first ≡ old ++ x → second ≡ first ++ p → third ≡ second ++ y → all ≡ x ++ (p ++ y) → third ≡ old ++ all
three_parts old first second third x p y all a b c d =
    c ∙ ap (λ z. z ++ y) (b ∙ ap (λ z. z ++ p) a ∙ append_assoc old x p) ∙ append_assoc old (x ++ p) y ∙ ap (λ z. old ++ z) (append_assoc x p y ∙ sym d)

place_vars : (e x y : IlExp) (path : List PathSeg) → (e ≡ exp.Set x path y) ⊎ (e ≡ exp.Extend x path y) → vars e ≡ vars x ++ flattened (flattened (map (λ (s : List (List Name)). s) (map segment_vars path)) ++ vars y ∷ [])
place_vars e x y path (inl is) = ap vars is ∙ set_vars x y path
place_vars e x y path (inr is) = ap vars is ∙ extend_vars x y path

pub vars_of_place : (e x y : IlExp) (path : List PathSeg) (old first second third : List Name) (ex ey : IlExp) → (e ≡ exp.Set x path y) ⊎ (e ≡ exp.Extend x path y) → ex ≡ x → ey ≡ y
    → (p : List PathSeg) → p ≡ path → first ≡ old ++ vars ex → second ≡ first ++ flattened (map (λ s. flattened (segment_vars s)) p) → third ≡ second ++ vars ey → third ≡ old ++ vars e
vars_of_place e x y path old first second third ex ey is x_is y_is p p_is a b c =
    three_parts old first second third (vars x) (flattened (map (λ s. flattened (segment_vars s)) path)) (vars y) (vars e)
    (a ∙ ap (λ z. old ++ vars z) x_is) (b ∙ ap (λ z. first ++ flattened (map (λ s. flattened (segment_vars s)) z)) p_is) (c ∙ ap (λ z. second ++ vars z) y_is)
    (place_vars e x y path is ∙ place_parts path (vars x) (vars y))

-- ---- several expressions

pub vars_next : (es : List (Bor IlExp)) (i : ℕ) (e : Bor IlExp) (now new whole : List Name) → i < length es → e ≡ get_or es i e
    → now ++ vars_of (exps_in (drop i es)) ≡ whole → new ≡ now ++ vars e.now → new ++ vars_of (exps_in (drop (i + 1) es)) ≡ whole
vars_next es i e now new whole h is inv n =
    ap (λ z. z ++ vars_of (exps_in (drop (i + 1) es))) n ∙ append_assoc now (vars e.now) (vars_of (exps_in (drop (i + 1) es)))
    ∙ ap (λ z. now ++ vars_of (exps_in z)) (sym (drop_there es i e h is)) ∙ inv
