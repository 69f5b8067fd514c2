-- Whether lists in an expression have two parts of open length, by its parts.
use Rattle.std.proofs.Common.{◌≡◌, refl, sym, ◌∙◌, ap, ap₂, Bool, true, false, ◌||◌, List, [], ◌∷◌, ◌++◌, map, ◌⊎◌, inl, inr, rules}
use Rattle.std.proofs.lemmas.List.Folds.{list_any-append}
use Rattle.st_il.specs.declared.expression.IlExp.{IlExp, the_lemmas}
use Rattle.st_il.specs.declared.expression.IlExp.TheVariants as exp
use Rattle.st_il.specs.declared.expression.PathSeg.{PathSeg}
use Rattle.st_il.specs.Names.{flattened}
use Rattle.st_semantics.specs.OpenParts.{Lengths, any_doubly_open, is_doubly_open}
use Rattle.st_modes.specs.inner.Lengths.{lengths, any_step_doubly_open, segment_lengths}

any_append : (xs ys : List Lengths) → any_doubly_open (xs ++ ys) ≡ (any_doubly_open xs || any_doubly_open ys)
any_append xs ys = list_any-append (λ (l : Lengths). l.doubly_open) xs ys

or_none : (b : Bool) → (b || false) ≡ b
or_none true = refl
or_none false = refl

-- the parts in the steps of a path
abbrev parts : List PathSeg → List Lengths
parts path = flattened (map (λ (s : List Lengths). s) (map segment_lengths path))

path_open : (path : List PathSeg) → any_doubly_open (parts path) ≡ any_step_doubly_open path
path_open [] = refl
path_open (s ∷ ss) = any_append (segment_lengths s) (parts ss) ∙ ap (λ z. any_doubly_open (segment_lengths s) || z) (path_open ss)

set_open : (x y : IlExp) (path : List PathSeg) → is_doubly_open (exp.Set x path y) ≡ (is_doubly_open x || any_doubly_open (parts path ++ lengths y ∷ []))
set_open x y path = search (rules, the_lemmas)

extend_open : (x y : IlExp) (path : List PathSeg) → is_doubly_open (exp.Extend x path y) ≡ (is_doubly_open x || any_doubly_open (parts path ++ lengths y ∷ []))
extend_open x y path = search (rules, the_lemmas)

place_parts : (e x y : IlExp) (path : List PathSeg) → (e ≡ exp.Set x path y) ⊎ (e ≡ exp.Extend x path y) → is_doubly_open e ≡ (is_doubly_open x || any_doubly_open (parts path ++ lengths y ∷ []))
place_parts e x y path (inl is) = ap is_doubly_open is ∙ set_open x y path
place_parts e x y path (inr is) = ap is_doubly_open is ∙ extend_open x y path

place_open : (e x y : IlExp) (path : List PathSeg) → (e ≡ exp.Set x path y) ⊎ (e ≡ exp.Extend x path y) → is_doubly_open e ≡ (is_doubly_open x || (any_step_doubly_open path || is_doubly_open y))
place_open e x y path is =
    place_parts e x y path is
    ∙ ap (λ z. is_doubly_open x || z) (any_append (parts path) (lengths y ∷ []) ∙ ap₂ (λ a b. a || b) (path_open path) (or_none (is_doubly_open y)))

by_first : (a b c whole : Bool) → whole ≡ (a || (b || c)) → a ≡ true → true ≡ whole
by_first a b c whole w is = sym (w ∙ ap (λ z. z || (b || c)) is)

by_second : (a b c whole : Bool) → whole ≡ (a || (b || c)) → b ≡ true → true ≡ whole
by_second true b c whole w is = sym w
by_second false b c whole w is = sym (w ∙ ap (λ z. z || c) is)

by_last : (a b c whole : Bool) → whole ≡ (a || (b || c)) → a ≡ false → b ≡ false → c ≡ whole
by_last a b c whole w first second = sym (w ∙ ap₂ (λ p q. p || (q || c)) first second)

module _ (e x y ex ey : IlExp) (path p : List PathSeg) (is : (e ≡ exp.Set x path y) ⊎ (e ≡ exp.Extend x path y)) (x_is : ex ≡ x) (y_is : ey ≡ y) (p_is : p ≡ path) where
  whole : is_doubly_open e ≡ (is_doubly_open ex || (any_step_doubly_open p || is_doubly_open ey))
  whole =
      place_open e x y path is
      ∙ ap₂ (λ a b. a || b) (ap is_doubly_open (sym x_is)) (ap₂ (λ a b. a || b) (ap any_step_doubly_open (sym p_is)) (ap is_doubly_open (sym y_is)))

  -- by the first part, by the path, or by the last part
  pub open_first : is_doubly_open ex ≡ true → true ≡ is_doubly_open e
  open_first h = by_first (is_doubly_open ex) (any_step_doubly_open p) (is_doubly_open ey) (is_doubly_open e) whole h

  pub open_path : any_step_doubly_open p ≡ true → true ≡ is_doubly_open e
  open_path h = by_second (is_doubly_open ex) (any_step_doubly_open p) (is_doubly_open ey) (is_doubly_open e) whole h

  pub open_last : is_doubly_open ex ≡ false → any_step_doubly_open p ≡ false → is_doubly_open ey ≡ is_doubly_open e
  open_last first second = by_last (is_doubly_open ex) (any_step_doubly_open p) (is_doubly_open ey) (is_doubly_open e) whole first second
