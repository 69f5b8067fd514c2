-- Whether the types at the inputs of a relation are those at its outputs, by its direction.
use Rattle.std.proofs.Common.{◌≡◌, refl, sym, ◌∙◌, ap, subst, ℕ, ◌+◌, ◌<◌, ◌≤◌, length, get_or, drop, Bool, true, false, not, List, [], ◌∷◌, Option, Some, None, is_some, if◌then◌else◌}
use Rattle.std.specs.Prelude.{◌↔◌, IsTrue, slice_get}
use Rattle.std.proofs.lemmas.Bool.{false≢true}
use Rattle.std.proofs.lemmas.List.{get_or_default}
use Rattle.st_il.specs.declared.definition.Il.{Il}
use Rattle.st_il.specs.declared.definition.RelationDef.{RelationDef}
use Rattle.st_il.specs.declared.definition.SyntaxDef.{SyntaxDef}
use Rattle.st_il.specs.declared.ty.Ty.{Ty}
use Rattle.st_il.specs.declared.ty.Ty.TheVariants as ty
use Rattle.st_type_table.specs.Same.{Same, SameAll}
use Rattle.st_il.specs.Definitions.{syntaxes}
use Rattle.st_semantics.specs.Directions.{direction, inputs_by, outputs_by, IsStepping}
use Rattle.st_order.specs.inner.HolesOf.{is_hole, from_hole, IsNextHole}
use Rattle.st_order.proofs.HoleParts.{at_holes_next, at_holes_end, drop_all}

-- ---- from one hole to the next

module _ {A : Type 0} (input : Bool) (mask : List Bool) (xs : List A) (i : ℕ) (within : i < length xs) where
  -- such a hole
  from_hole-this : is_hole input (slice_get mask i) ≡ true → (x : A) → from_hole input mask xs i ≡ get_or xs i x ∷ from_hole input mask xs (i + 1)
  from_hole-this is x =
      let here : A = get_or xs i x in
      sym
      (at_holes_next input mask xs i here [] (here ∷ []) (from_hole input mask xs i) within (get_or_default xs i x here within) refl
      (ap (λ b. if b then here ∷ [] else []) (sym is)))

  -- another one
  pub from_hole-other : (d : A) → is_hole input (slice_get mask i) ≡ false → (whole : List A) → whole ≡ from_hole input mask xs i → whole ≡ from_hole input mask xs (i + 1)
  from_hole-other d is whole w =
      let here : A = get_or xs i d in
      w
      ∙ sym
      (at_holes_next input mask xs i here [] [] (from_hole input mask xs i) within (get_or_default xs i d here within) refl
      (ap (λ b. if b then here ∷ [] else []) (sym is)))

  pub next-found : (from : ℕ) → from ≤ i → is_hole input (slice_get mask i) ≡ true → from_hole input mask xs from ≡ from_hole input mask xs i → IsNextHole input mask xs from (Some i)
  next-found from le is same = (le, within, λ x. same ∙ from_hole-this is x)

pub next-none : {A : Type 0} (input : Bool) (mask : List Bool) (xs : List A) (from i : ℕ) → length xs ≤ i → from_hole input mask xs from ≡ from_hole input mask xs i → IsNextHole input mask xs from None
next-none input mask xs from i beyond same = same ∙ sym (at_holes_end input (drop i mask) xs (drop i xs) [] (from_hole input mask xs i) (drop_all xs i beyond) refl)

-- ---- type by type

module _ (defs : List SyntaxDef) where
  first-same : (x y : Ty) (xs ys : List Ty) → SameAll defs (x ∷ xs) (y ∷ ys) → Same defs x y × SameAll defs xs ys
  first-same x y xs ys (SameAll.more s r) = (s, r)

  more-inputs : (x : Ty) (xs : List Ty) → SameAll defs (x ∷ xs) [] → ⊥
  more-inputs x xs s = elim s [ ]

  more-outputs : (x : Ty) (xs : List Ty) → SameAll defs [] (x ∷ xs) → ⊥
  more-outputs x xs s = elim s [ ]

  module _ (mask : List Bool) (xs : List Ty) (from to : ℕ) (W : Type 0) (inv : SameAll defs (from_hole true mask xs from) (from_hole false mask xs to) ↔ W) where
    fails : (SameAll defs (from_hole true mask xs from) (from_hole false mask xs to) → ⊥) → IsTrue false ↔ W
    fails n = (λ h. absurd (false≢true h), λ w. absurd (n (inv.1 w)))

    as_lists : (ins outs : List Ty) → from_hole true mask xs from ≡ ins → from_hole false mask xs to ≡ outs → SameAll defs (from_hole true mask xs from) (from_hole false mask xs to) → SameAll defs ins outs
    as_lists ins outs e f s = subst (λ z. SameAll defs z outs) e (subst (λ z. SameAll defs (from_hole true mask xs from) z) f s)

    -- no input is left
    inputs-end : (o : Option ℕ) → from_hole true mask xs from ≡ [] → IsNextHole false mask xs to o → IsTrue (not (is_some o)) ↔ W
    inputs-end None e f = (
      λ h. inv.0 (subst (λ z. SameAll defs z (from_hole false mask xs to)) (sym e) (subst (λ z. SameAll defs [] z) (sym f) SameAll.none)),
      λ w. refl,
    )
    inputs-end (Some j) e f = fails (λ s. more-outputs (get_or xs j ty.Bool) (from_hole false mask xs (j + 1)) (as_lists [] _ e (f.2 ty.Bool) s))

    pub inputs-ended : (input output : Option ℕ) (b : Bool) → IsNextHole true mask xs from input → input ≡ None → IsNextHole false mask xs to output → is_some output ≡ not b → IsTrue b ↔ W
    inputs-ended input output b h e g is =
        subst (λ z. IsTrue z ↔ W) (twice b (is_some output) is) (inputs-end output (subst (IsNextHole true mask xs from) e h) g)
      where
        twice : (b c : Bool) → c ≡ not b → not c ≡ b
        twice true c q = ap not q
        twice false c q = ap not q

    pub outputs-ended : (input output : Option ℕ) (i : ℕ) → IsNextHole true mask xs from input → input ≡ Some i → IsNextHole false mask xs to output → output ≡ None → IsTrue false ↔ W
    outputs-ended input output i h e g f =
        let there : IsNextHole true mask xs from (Some i) = subst (IsNextHole true mask xs from) e h in
        let ended : IsNextHole false mask xs to None = subst (IsNextHole false mask xs to) f g in
        fails (λ s. more-inputs (get_or xs i ty.Bool) (from_hole true mask xs (i + 1)) (as_lists _ [] (there.2 ty.Bool) ended s))

    module _ (input output : Option ℕ) (i j : ℕ) (h : IsNextHole true mask xs from input) (e : input ≡ Some i) (g : IsNextHole false mask xs to output) (f : output ≡ Some j) (x y : Ty) (ex : x ≡ get_or xs i x) (ey : y ≡ get_or xs j y) where
      one : IsNextHole true mask xs from (Some i)
      one = subst (IsNextHole true mask xs from) e h

      other : IsNextHole false mask xs to (Some j)
      other = subst (IsNextHole false mask xs to) f g

      ins_are : from_hole true mask xs from ≡ x ∷ from_hole true mask xs (i + 1)
      ins_are = one.2 x ∙ ap (λ z. z ∷ from_hole true mask xs (i + 1)) (sym ex)

      outs_are : from_hole false mask xs to ≡ y ∷ from_hole false mask xs (j + 1)
      outs_are = other.2 y ∙ ap (λ z. z ∷ from_hole false mask xs (j + 1)) (sym ey)

      pub types-same : (b : Bool) → IsTrue b ↔ Same defs x y → b ≡ true → SameAll defs (from_hole true mask xs (i + 1)) (from_hole false mask xs (j + 1)) ↔ W
      types-same b exact is = (
        λ r. inv.0 (subst (λ z. SameAll defs z (from_hole false mask xs to)) (sym ins_are) (subst (λ z. SameAll defs (x ∷ from_hole true mask xs (i + 1)) z) (sym outs_are) (SameAll.more (exact.0 is) r))),
        λ w. (first-same x y _ _ (as_lists _ _ ins_are outs_are (inv.1 w))).1,
      )

pub hole-within : {A : Type 0} (input : Bool) (mask : List Bool) (xs : List A) (from : ℕ) (o : Option ℕ) (i : ℕ) → IsNextHole input mask xs from o → o ≡ Some i → (from ≤ i) × (i < length xs)
hole-within input mask xs from o i h e = let there : IsNextHole input mask xs from (Some i) = subst (IsNextHole input mask xs from) e h in (there.0, there.1)

-- ---- a relation

module _ (il : Il) (relation : RelationDef) where
  -- without a direction it leads nowhere
  pub not_stepping : None ≡ direction relation → IsTrue false ↔ IsStepping il relation
  not_stepping none = (λ h. absurd (false≢true h), λ (inputs, e, s). let q : None ≡ Some inputs = none ∙ e in let m : ⊥ = cc in absurd m)

  -- with one it does by the types
  pub is_stepping : (types : List SyntaxDef) (inputs : List Bool) (holes : List Ty) (are : Bool) → types ≡ syntaxes il → Some inputs ≡ direction relation → holes ≡ relation.holes
      → IsTrue are ↔ SameAll types (inputs_by inputs holes) (outputs_by inputs holes) → IsTrue are ↔ IsStepping il relation
  is_stepping types inputs holes are t some o same = (λ h. (inputs, sym some, there (same.0 h)), λ (found, e, s). same.1 (back found e s))
    where
      there : SameAll types (inputs_by inputs holes) (outputs_by inputs holes) → SameAll (syntaxes il) (inputs_by inputs relation.holes) (outputs_by inputs relation.holes)
      there z = subst (λ d. SameAll d (inputs_by inputs relation.holes) (outputs_by inputs relation.holes)) t (subst (λ hs. SameAll types (inputs_by inputs hs) (outputs_by inputs hs)) o z)

      back : (found : List Bool) → direction relation ≡ Some found → SameAll (syntaxes il) (inputs_by found relation.holes) (outputs_by found relation.holes) → SameAll types (inputs_by inputs holes) (outputs_by inputs holes)
      back found e z =
          let q : Some inputs ≡ Some found = some ∙ e in
          let is : inputs ≡ found = cc in
          subst (λ hs. SameAll types (inputs_by inputs hs) (outputs_by inputs hs)) (sym o)
          (subst (λ d. SameAll d (inputs_by inputs relation.holes) (outputs_by inputs relation.holes)) (sym t)
          (subst (λ m. SameAll (syntaxes il) (inputs_by m relation.holes) (outputs_by m relation.holes)) (sym is) z))
