-- What is told of relations, one after another, and the mark of each.
use Rattle.std.proofs.Common.{◌≡◌, refl, sym, ◌∙◌, ap, ap₂, subst, ℕ, ◌+◌, ◌<◌, if◌then◌else◌, List, [], ◌∷◌, ◌++◌, append-nil, length, get_or, take, Option, Some, None, All, is_some}
use Rattle.std.specs.List.{AllZip}
use Rattle.std.proofs.lemmas.List.{map-append, take_more}
use Rattle.std.proofs.lemmas.List.Elements.{All-nil, All-head, All-tail, All-push}
use Rattle.st_il.specs.declared.definition.Il.{Il}
use Rattle.st_il.specs.declared.definition.RelationDef.{RelationDef}
use Rattle.st_semantics.specs.declared.unfit.Unfit.{Unfit}
use Rattle.st_il.specs.Definitions.{IsFirst}
use Rattle.st_semantics.specs.Marks.{HasOwn, IsUnfit, HasUnfit, IsUnordered, LacksClauses}
use Rattle.st_modes.specs.declared.marking.Own.{Own}
use Rattle.st_modes.specs.declared.marking.Told.{Told}
use Rattle.st_order.specs.Modes.{orders_in}
use Rattle.st_order.specs.Known.{all_now}
use Rattle.st_modes.specs.inner.Sifted.{Sifted, none}
use Rattle.st_modes.specs.inner.Needs.{LacksFunction, NeedsMarked}
use Rattle.st_modes.specs.inner.Orders.{HasOrderMark}
use Rattle.st_modes.specs.inner.Marking.{IsOwn, HasItsOwn, relations_told, HasTold}
use Rattle.st_modes.proofs.Sifted.{sifted_kept, sifted_left_out}

-- what holds of all does not fail of the first for which it fails
all_middle : {A : Type 0} (P : A → Type 0) (before after : List A) (x : A) → All P (before ++ x ∷ after) → P x
all_middle P [] after x h = All-head P x after h
all_middle P (y ∷ before) after x h = all_middle P before after x (All-tail P y (before ++ x ∷ after) h)

none_fails : {A : Type 0} (P : A → Type 0) (xs : List A) (x : A) → All (λ y. P y → ⊥) xs → IsFirst P xs x → ⊥
none_fails P xs x h f = all_middle (λ y. P y → ⊥) f.before f.after x (subst (All (λ y. P y → ⊥)) f.split h) f.holds

module _ (il : Il) (relation : RelationDef) where
  -- ---- the own mark

  pub own_by_orders : (mark : Option Unfit) (m : Unfit) → HasOrderMark il relation mark → mark ≡ Some m → HasOwn il relation m
  own_by_orders mark m h e = subst (HasOrderMark il relation) e h

  not_own : HasOrderMark il relation None → LacksFunction il relation.name None → (mark : Unfit) → HasOwn il relation mark → ⊥
  not_own order lacks mark (HasOwn.u1 d m) = order.0 d
  not_own order lacks mark (HasOwn.u2 rule fault n f e m) = none_fails (IsUnordered il) _ rule order.1 f
  not_own order lacks mark (HasOwn.u3 fun n all f m) = none_fails (LacksClauses il relation.name) _ fun lacks f

  by_functions : HasOrderMark il relation None → (more : Option Unfit) → LacksFunction il relation.name more → IsOwn il relation more
  by_functions order None lacks = λ unfit. not_own order lacks unfit.0 unfit.1
  by_functions order (Some m) lacks = HasOwn.u3 lacks.0 order.0 order.1 lacks.1 lacks.2

  pub own_by_functions : (mark more : Option Unfit) → HasOrderMark il relation mark → mark ≡ None → LacksFunction il relation.name more → IsOwn il relation more
  own_by_functions mark more h e lacks = by_functions (subst (HasOrderMark il relation) e h) more lacks

  -- ---- the mark

  pub mark_by_own : (own : Option Unfit) (m copied : Unfit) → IsOwn il relation own → own ≡ Some m → copied ≡ m → HasUnfit il relation (Some copied)
  mark_by_own own m copied h e is = HasUnfit.own copied (subst (HasOwn il relation) (sym is) (subst (IsOwn il relation) e h)) refl

  by_needs : (IsUnfit il relation → ⊥) → (more : Option Unfit) → NeedsMarked il relation more → HasUnfit il relation more
  by_needs n None h = HasUnfit.none n h refl
  by_needs n (Some m) h = HasUnfit.u4 h.0 n h.1 (ap Some h.2)

  pub mark_by_needs : (own more : Option Unfit) → IsOwn il relation own → own ≡ None → NeedsMarked il relation more → HasUnfit il relation more
  mark_by_needs own more h e needs = by_needs (subst (IsOwn il relation) e h) more needs

-- ---- one more relation

module _ (il : Il) where
  unfit_next : (rs unfit : List RelationDef) (r : RelationDef) (mark : Option Unfit) → IsOwn il r mark → Sifted (IsUnfit il) rs unfit
      → Sifted (IsUnfit il) (rs ++ r ∷ []) (unfit ++ (if is_some mark then r ∷ [] else []))
  unfit_next rs unfit r (Some m) h s = sifted_kept (IsUnfit il) r s (m, h)
  unfit_next rs unfit r None h s = subst (Sifted (IsUnfit il) (rs ++ r ∷ [])) (sym (append-nil unfit)) (sifted_left_out (IsUnfit il) r s h)

  pub tells : (rs : List RelationDef) (r : RelationDef) (old new : Told) (orders : List (Option (List ℕ))) (one : Own) → orders ≡ orders_in il r → one.relation.now ≡ r → IsOwn il r one.mark
      → new.orders ≡ old.orders ++ orders ∷ [] → new.own ≡ old.own ++ one ∷ [] → all_now new.unfit ≡ all_now old.unfit ++ (if is_some one.mark then r ∷ [] else [])
      → HasTold il rs old → HasTold il (rs ++ r ∷ []) new
  tells rs r old new orders one o is own n m u h = record {
    orders = n ∙ ap₂ (λ a b. a ++ b ∷ []) h.orders o ∙ sym (map-append (orders_in il) rs (r ∷ []));
    relations = ap relations_told m ∙ map-append (λ (own : Own). own.relation.now) old.own (one ∷ []) ∙ ap₂ (λ a b. a ++ b ∷ []) h.relations is;
    own = subst (All (HasItsOwn il)) (sym m) (All-push (HasItsOwn il) old.own one h.own (subst (λ z. IsOwn il z one.mark) (sym is) own));
    unfit = subst (Sifted (IsUnfit il) (rs ++ r ∷ [])) (sym u) (unfit_next rs (all_now old.unfit) r one.mark own h.unfit);
  }

  pub tells_none : (told : Told) → told.orders ≡ [] → told.own ≡ [] → told.unfit ≡ [] → HasTold il [] told
  tells_none told o m u = record {
    orders = o;
    relations = ap relations_told m;
    own = subst (All (HasItsOwn il)) (sym m) (All-nil (HasItsOwn il));
    unfit = subst (Sifted (IsUnfit il) []) (sym (ap all_now u)) none;
  }

-- ---- the marks

zip_push : {A B : Type 0} (R : A → B → Type 0) (xs : List A) (ys : List B) (x : A) (y : B) → AllZip R xs ys → R x y → AllZip R (xs ++ x ∷ []) (ys ++ y ∷ [])
zip_push R [] [] x y z h = (h, z)
zip_push R [] (b ∷ ys) x y z h = absurd z
zip_push R (a ∷ xs) [] x y z h = absurd z
zip_push R (a ∷ xs) (b ∷ ys) x y z h = (z.0, zip_push R xs ys x y z.1 h)

-- the mark of one more relation
pub marks_next : (il : Il) (owns : List Own) (i : ℕ) (own : Own) (marks new : List (Option Unfit)) (mark : Option Unfit) → i < length owns → own ≡ get_or owns i own
    → AllZip (HasUnfit il) (relations_told (take i owns)) marks → HasUnfit il own.relation.now mark → new ≡ marks ++ mark ∷ [] → AllZip (HasUnfit il) (relations_told (take (i + 1) owns)) new
marks_next il owns i own marks new mark within is z h n =
    let next : relations_told (take (i + 1) owns) ≡ relations_told (take i owns) ++ own.relation.now ∷ [] =
    ap relations_told (take_more owns i own within ∙ ap (λ z. take i owns ++ z ∷ []) (sym is)) ∙ map-append (λ (own : Own). own.relation.now) (take i owns) (own ∷ []) in
    subst (λ ms. AllZip (HasUnfit il) (relations_told (take (i + 1) owns)) ms) (sym n)
    (subst (λ rs. AllZip (HasUnfit il) rs (marks ++ mark ∷ [])) (sym next) (zip_push (HasUnfit il) (relations_told (take i owns)) marks own.relation.now mark z h))
