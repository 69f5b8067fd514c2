-- The functions in expressions, by those in their parts.
use Rattle.std.proofs.Common.{◌≡◌, refl, ◌∙◌, ap, ap₂, List, [], ◌∷◌, ◌++◌, append-nil, map, ◌⊎◌, inl, inr, rules}
use Rattle.st_il.specs.declared.expression.IlExp.{IlExp, the_lemmas}
use Rattle.st_il.specs.declared.expression.IlExp.TheVariants as exp
use Rattle.st_il.specs.declared.expression.PathSeg.{PathSeg}
use Rattle.st_il.specs.Names.{Name, flattened}
use Rattle.st_semantics.specs.Variables.{called}
use Rattle.st_order.specs.inner.Parts.{called_segment}
use Rattle.st_order.proofs.VariableParts.{flattened_append, three_parts}

-- the functions in the steps of a path
path_called : (path : List PathSeg) → flattened (flattened (map (λ (s : List (List Name)). s) (map called_segment path))) ≡ flattened (map (λ s. flattened (called_segment s)) path)
path_called [] = refl
path_called (s ∷ ss) =
    flattened_append (called_segment s) (flattened (map (λ (s : List (List Name)). s) (map called_segment ss))) ∙ ap (λ z. flattened (called_segment s) ++ z) (path_called ss)

place_parts : (path : List PathSeg) (x y : List Name) → x ++ flattened (flattened (map (λ (s : List (List Name)). s) (map called_segment path)) ++ y ∷ [])
    ≡ x ++ (flattened (map (λ s. flattened (called_segment s)) path) ++ y)
place_parts path x y =
    ap (λ z. x ++ z) (flattened_append (flattened (map (λ (s : List (List Name)). s) (map called_segment path))) (y ∷ []) ∙ ap₂ (λ a b. a ++ b) (path_called path) (append-nil y))

set_called : (x y : IlExp) (path : List PathSeg) → called (exp.Set x path y) ≡ called x ++ flattened (flattened (map (λ (s : List (List Name)). s) (map called_segment path)) ++ called y ∷ [])
set_called x y path = search (rules, the_lemmas)

extend_called : (x y : IlExp) (path : List PathSeg) → called (exp.Extend x path y) ≡ called x ++ flattened (flattened (map (λ (s : List (List Name)). s) (map called_segment path)) ++ called y ∷ [])
extend_called x y path = search (rules, the_lemmas)

place_called : (e x y : IlExp) (path : List PathSeg) → (e ≡ exp.Set x path y) ⊎ (e ≡ exp.Extend x path y) → called e ≡ called x ++ flattened (flattened (map (λ (s : List (List Name)). s) (map called_segment path)) ++ called y ∷ [])
place_called e x y path (inl is) = ap called is ∙ set_called x y path
place_called e x y path (inr is) = ap called is ∙ extend_called x y path

pub called_of_place : (e x y : IlExp) (path : List PathSeg) (old first second third : List Name) (ex ey : IlExp) → (e ≡ exp.Set x path y) ⊎ (e ≡ exp.Extend x path y) → ex ≡ x → ey ≡ y
    → (p : List PathSeg) → p ≡ path → first ≡ old ++ called ex → second ≡ first ++ flattened (map (λ s. flattened (called_segment s)) p) → third ≡ second ++ called ey → third ≡ old ++ called e
called_of_place e x y path old first second third ex ey is x_is y_is p p_is a b c =
    three_parts old first second third (called x) (flattened (map (λ s. flattened (called_segment s)) path)) (called y) (called e)
    (a ∙ ap (λ z. old ++ called z) x_is) (b ∙ ap (λ z. first ++ flattened (map (λ s. flattened (called_segment s)) z)) p_is) (c ∙ ap (λ z. second ++ called z) y_is)
    (place_called e x y path is ∙ place_parts path (called x) (called y))
