-- Where paths lead, one step at a time.
use Rattle.std.proofs.Common.{◌≡◌, ◌↔◌, ℕ, ◌+◌, ◌<◌, ◌≤◌, refl, sym, ap, ◌∙◌, subst, List, [], ◌∷◌, Bool, Option, Some, length, drop, get_or}
use Rattle.std.specs.Prelude.{IsTrue}
use Rattle.std.specs.Borrow.{Bor}
use Rattle.std.specs.Option.{option_copied}
use Rattle.std.proofs.lemmas.List.{drop_all}
use Rattle.st_il.specs.declared.definition.SyntaxDef.{SyntaxDef}
use Rattle.st_il.specs.declared.expression.IlExp.{IlExp}
use Rattle.st_il.specs.declared.expression.IlExp.TheOpen.{PathSeg-F}
use Rattle.st_il.specs.declared.expression.Iteration.{Iteration}
use Rattle.st_il.specs.declared.expression.ListItem.{ListItem}
use Rattle.st_il.specs.declared.expression.PathSeg.{PathSeg, out-PathSeg}
use Rattle.st_il.specs.declared.ty.Ty.{Ty}
use Rattle.st_il.specs.declared.ty.Ty.TheVariants as ty
use Rattle.st_semantics.specs.OperationTypes as row
use Rattle.st_semantics.specs.OperationTypes.{PathType}
use Rattle.st_ilcheck.specs.Rules.{LeadsTo, Is, IsList, IsSet, IsExtended}
use Rattle.st_ilcheck.specs.inner.Steps.{StepsAt, Steps, PlaceAt}
use Rattle.st_ilcheck.proofs.Drops.{from}
use Rattle.st_ilcheck.proofs.Single.{IsFieldOf-single, IsElementOf-single}

abbrev Segment : Type 0
Segment = PathSeg-F IlExp Iteration ListItem PathSeg

module _ (defs : List SyntaxDef) where
  single-at : (y : Segment) (t u w : Ty) → StepsAt defs y t u → StepsAt defs y t w → u ≡ w
  single-at (PathSeg-F.Field name) t u w h k = IsFieldOf-single defs name t u w h k
  single-at (PathSeg-F.PathSeg::At e) t u w h k = IsElementOf-single defs t u w h k
  single-at (PathSeg-F.PathSeg::Slice e g) t u w h k = sym h.1.1 ∙ k.1.1

  pub Steps-single : (s : PathSeg) (t u w : Ty) → Steps defs s t u → Steps defs s t w → u ≡ w
  Steps-single s t u w h k = single-at (out-PathSeg s) t u w h k

  -- a path that goes on leads by its first step to where the others lead on
  split : {path : List PathSeg} {t w : Ty} {ts : List Ty} → PathType defs path t ts w → (s : PathSeg) (ss : List PathSeg) → path ≡ s ∷ ss
      → (u : Ty) × (Steps defs s t u × LeadsTo defs ss u w)
  split row.PathType.here s ss e = absurd (let z : ⊥ = cc in z)
  split {t = t} {w = w} (row.PathType.field {s = r} {ss = rs} {ts = ts} name u declared is has found rest) s ss e =
      let same : r ≡ s = cc in
      let more : rs ≡ ss = cc in
      let level : out-PathSeg s ≡ PathSeg-F.Field name = sym (ap out-PathSeg same) ∙ is in
      (u, (subst (λ y. StepsAt defs y t u) (sym level) (record { declared = declared; has = has; found = found }), (ts, subst (λ z. PathType defs z u ts w) more rest)))
  split {t = t} {w = w} (row.PathType.element {s = r} {ss = rs} {ts = ts} u g is means rest) s ss e =
      let same : r ≡ s = cc in
      let more : rs ≡ ss = cc in
      let level : out-PathSeg s ≡ PathSeg-F.PathSeg::At g = sym (ap out-PathSeg same) ∙ is in
      (u, (subst (λ y. StepsAt defs y t u) (sym level) means, (ts, subst (λ z. PathType defs z u ts w) more rest)))
  split {t = t} {w = w} (row.PathType.part {s = r} {ss = rs} {ts = ts} u g h is means rest) s ss e =
      let same : r ≡ s = cc in
      let more : rs ≡ ss = cc in
      let level : out-PathSeg s ≡ PathSeg-F.PathSeg::Slice g h = sym (ap out-PathSeg same) ∙ is in
      (t, (subst (λ y. StepsAt defs y t t) (sym level) (u, (means, refl)), (ts, subst (λ z. PathType defs z t ts w) more rest)))

  pub LeadsTo-split : (s : PathSeg) (ss : List PathSeg) (t w : Ty) → LeadsTo defs (s ∷ ss) t w → (u : Ty) × (Steps defs s t u × LeadsTo defs ss u w)
  LeadsTo-split s ss t w h = split h.1 s ss refl

  joined-at : (y : Segment) (s : PathSeg) (ss : List PathSeg) (t u w : Ty) → out-PathSeg s ≡ y → StepsAt defs y t u → LeadsTo defs ss u w → LeadsTo defs (s ∷ ss) t w
  joined-at (PathSeg-F.Field name) s ss t u w is h k = (k.0, row.PathType.field name u h.declared is h.has h.found k.1)
  joined-at (PathSeg-F.PathSeg::At e) s ss t u w is h k = (ty.Nat ∷ k.0, row.PathType.element u e is h k.1)
  joined-at (PathSeg-F.PathSeg::Slice e g) s ss t u w is h k =
      (ty.Nat ∷ ty.Nat ∷ k.0, row.PathType.part h.0 e g is h.1.0 (subst (λ z. PathType defs ss z k.0 w) (sym h.1.1) k.1))

  pub LeadsTo-join : (s : PathSeg) (ss : List PathSeg) (t u w : Ty) → Steps defs s t u → LeadsTo defs ss u w → LeadsTo defs (s ∷ ss) t w
  LeadsTo-join s ss t u w h k = joined-at (out-PathSeg s) s ss t u w refl h k

  ended : {path : List PathSeg} {t w : Ty} {ts : List Ty} → PathType defs path t ts w → path ≡ [] → w ≡ t
  ended row.PathType.here e = refl
  ended (row.PathType.field name u declared is has found rest) e = absurd (let z : ⊥ = cc in z)
  ended (row.PathType.element u g is means rest) e = absurd (let z : ⊥ = cc in z)
  ended (row.PathType.part u g h is means rest) e = absurd (let z : ⊥ = cc in z)

  pub LeadsTo-nil : (t w : Ty) → LeadsTo defs [] t w → w ≡ t
  LeadsTo-nil t w h = ended h.1 refl

  pub LeadsTo-here : (t : Ty) → LeadsTo defs [] t t
  LeadsTo-here t = ([], row.PathType.here)

module _ (defs : List SyntaxDef) (path : List PathSeg) (t here : Ty) (i : ℕ)
    (so_far : (w : Ty) → LeadsTo defs (drop i path) here w ↔ LeadsTo defs path t w) where
  module _ (s : PathSeg) (h : i < length path) (is : s ≡ get_or path i s) where
    at_step : (w : Ty) → LeadsTo defs path t w → LeadsTo defs (s ∷ drop (i + 1) path) here w
    at_step w k = subst (λ z. LeadsTo defs z here w) (from path i s h is) ((so_far w).1 k)

    pub place-stops : ((u : Ty) → Steps defs s here u → ⊥) → (w : Ty) → LeadsTo defs path t w → ⊥
    place-stops n w k = let d = LeadsTo-split defs s (drop (i + 1) path) here w (at_step w k) in n d.0 d.1.0

    pub place-goes : (u : Ty) → Steps defs s here u → (w : Ty) → LeadsTo defs (drop (i + 1) path) u w ↔ LeadsTo defs path t w
    place-goes u e w = (
      λ k. (so_far w).0 (subst (λ z. LeadsTo defs z here w) (sym (from path i s h is)) (LeadsTo-join defs s (drop (i + 1) path) here u w e k)),
      λ k. let d = LeadsTo-split defs s (drop (i + 1) path) here w (at_step w k) in
          subst (λ z. LeadsTo defs (drop (i + 1) path) z w) (Steps-single defs s here d.0 u d.1.0 e) d.1.1,
    )

  pub place-ends : length path ≤ i → PlaceAt defs path t here
  place-ends h = record {
    leads = (so_far here).0 (subst (λ z. LeadsTo defs z here here) (sym (drop_all i path h)) (LeadsTo-here defs here));
    one = λ v k. LeadsTo-nil defs here v (subst (λ z. LeadsTo defs z here v) (drop_all i path h) ((so_far v).1 k));
  }

-- what is asked of the place that a path leads to from the type that was found
module _ (defs : List SyntaxDef) (path : List PathSeg) (found : Option (Bor Ty)) (t : Bor Ty) (there : found ≡ Some t) where
  module _ (w : Ty) (at : PlaceAt defs path t.now w) where
    pub set-place : (new : Option Ty) (r : Bool) → (IsTrue r ↔ Is defs new w) → IsTrue r ↔ IsSet defs path (option_copied found) new
    set-place new r h = (
      λ y. subst (λ (z : Option (Bor Ty)). IsSet defs path (option_copied z) new) (sym there) (w, (at.leads, h.0 y)),
      λ k. let j = subst (λ (z : Option (Bor Ty)). IsSet defs path (option_copied z) new) there k in h.1 (subst (Is defs new) (at.one j.0 j.1.0) j.1.1),
    )

    pub extended-place : (more : Option Ty) (r : Bool) → (IsTrue r ↔ (IsList defs (Some w) × Is defs more w)) → IsTrue r ↔ IsExtended defs path (option_copied found) more
    extended-place more r h = (
      λ y. subst (λ (z : Option (Bor Ty)). IsExtended defs path (option_copied z) more) (sym there) (w, (at.leads, h.0 y)),
      λ k. let j = subst (λ (z : Option (Bor Ty)). IsExtended defs path (option_copied z) more) there k in
          h.1 (subst (λ z. IsList defs (Some z) × Is defs more z) (at.one j.0 j.1.0) j.1.1),
    )

  module _ (no_place : (w : Ty) → LeadsTo defs path t.now w → ⊥) where
    pub set-nowhere : (new : Option Ty) → IsSet defs path (option_copied found) new → ⊥
    set-nowhere new k = let j = subst (λ (z : Option (Bor Ty)). IsSet defs path (option_copied z) new) there k in no_place j.0 j.1.0

    pub extended-nowhere : (more : Option Ty) → IsExtended defs path (option_copied found) more → ⊥
    extended-nowhere more k = let j = subst (λ (z : Option (Bor Ty)). IsExtended defs path (option_copied z) more) there k in no_place j.0 j.1.0
