-- Which holes are inputs, by a hint or by what stands before an arrow.
use Rattle.std.proofs.Common.{◌≡◌, refl, sym, ◌∙◌, ap, ℕ, zero, suc, ◌+◌, ◌-◌, ◌<◌, ◌≤◌, Bool, true, false, List, [], ◌++◌, length, length-append, Option, Some, None, arith}
use Rattle.std.specs.Prelude.{◌↔◌, IsTrue, slice_get, option_map, option_and_then}
use Rattle.std.proofs.Math.ListN.{replicate, length-replicate}
use Rattle.std.proofs.lemmas.Option.{slice_get_past}
use Rattle.st_il.specs.declared.definition.RelationDef.{RelationDef}
use Rattle.st_semantics.specs.Directions.{direction, direction_by}
use Rattle.st_order.specs.Tagged.{IsTagged}
use Rattle.st_order.specs.declared.arrow.Sides.{Sides}
use Rattle.st_order.specs.declared.directions.Inputs.{Inputs}
use Rattle.st_order.specs.declared.directions.Inputs.TheVariants as inputs
use Rattle.st_order.specs.inner.Arrow.{pieces, started, leads, told_by}
use Rattle.st_order.specs.inner.Inputs.{mask_told}
use Rattle.st_order.proofs.ArrowParts.{tells-tag}

-- ---- holes before an arrow, and behind it

get_before : (m i : ℕ) (ys : List Bool) → i < m → slice_get (replicate m true ++ ys) i ≡ Some true
get_before zero i ys h = absurd (omega arith)
get_before (suc m) zero ys h = refl
get_before (suc m) (suc i) ys h = get_before m i ys (omega arith)

get_same : (n i : ℕ) → i < n → slice_get (replicate n false) i ≡ Some false
get_same zero i h = absurd (omega arith)
get_same (suc n) zero h = refl
get_same (suc n) (suc i) h = get_same n i (omega arith)

get_behind : (m n i : ℕ) → m ≤ i → i < m + n → slice_get (replicate m true ++ replicate n false) i ≡ Some false
get_behind zero n i h k = get_same n i (omega arith)
get_behind (suc m) n zero h k = absurd (omega arith)
get_behind (suc m) n (suc i) h k = get_behind m n i (omega arith) (omega arith)

get_past : (m n i : ℕ) → m + n ≤ i → slice_get (replicate m true ++ replicate n false) i ≡ None
get_past m n i h =
    let front : length (replicate m true) ≡ m = length-replicate m true in
    let back : length (replicate n false) ≡ n = length-replicate n false in
    slice_get_past (replicate m true ++ replicate n false) i (omega (arith, length-append (replicate m true) (replicate n false)))

pub is_before-input : (sides : Sides) (i : ℕ) → i < sides.before → Some true ≡ slice_get (told_by sides) i
is_before-input sides i h = sym (get_before sides.before i (replicate (sides.holes - sides.before) false) h)

pub is_before-output : (sides : Sides) (i : ℕ) → sides.before ≤ i → i < sides.holes → Some false ≡ slice_get (told_by sides) i
is_before-output sides i h k = sym (get_behind sides.before (sides.holes - sides.before) i h (omega arith))

pub is_before-none : (sides : Sides) (i : ℕ) → sides.before ≤ i → sides.holes ≤ i → None ≡ slice_get (told_by sides) i
is_before-none sides i h k = sym (get_past sides.before (sides.holes - sides.before) i (omega arith))

-- ---- the direction of a relation

module _ (relation : RelationDef) where
  by_tag : (o : Option Sides) → IsTagged relation → relation.mode ≡ [] → (tag : List ℕ) → tag ≡ relation.tag → o ≡ leads started (pieces tag) → option_map told_by o ≡ direction relation
  by_tag o tagged none tag same is =
      ap (option_map told_by) (is ∙ ap (λ z. leads started (pieces z)) same) ∙ tells-tag tagged.0 relation.tag tagged.1 ∙ sym (ap (λ m. direction_by m relation.tag) none)

  module _ (empty : Bool) (o : Option Sides) (tag : List ℕ) (tagged : IsTagged relation) (exact : IsTrue empty ↔ (relation.mode ≡ [])) (yes : empty ≡ true) (same : tag ≡ relation.tag) (is : o ≡ leads started (pieces tag)) where
    pub inputs-leading : (sides : Sides) → o ≡ Some sides → option_map mask_told (Some (inputs.Leading sides)) ≡ direction relation
    inputs-leading sides e = ap (option_map told_by) (sym e) ∙ by_tag o tagged (exact.0 yes) tag same is

    pub inputs-none : o ≡ None → None ≡ direction relation
    inputs-none e = ap (option_map told_by) (sym e) ∙ by_tag o tagged (exact.0 yes) tag same is

  -- one hole
  pub hole-told : (o : Option Inputs) (inputs : Inputs) (is : Option Bool) (hole : ℕ) → option_map mask_told o ≡ direction relation → o ≡ Some inputs → is ≡ slice_get (mask_told inputs) hole
      → is ≡ option_and_then (λ (mask : List Bool). slice_get mask hole) (direction relation)
  hole-told o inputs is hole d e h = h ∙ ap (option_and_then (λ (mask : List Bool). slice_get mask hole)) (ap (option_map mask_told) (sym e) ∙ d)

  pub no_hole-told : (o : Option Inputs) (hole : ℕ) → option_map mask_told o ≡ direction relation → o ≡ None → None ≡ option_and_then (λ (mask : List Bool). slice_get mask hole) (direction relation)
  no_hole-told o hole d e = ap (option_and_then (λ (mask : List Bool). slice_get mask hole)) (ap (option_map mask_told) (sym e) ∙ d)
