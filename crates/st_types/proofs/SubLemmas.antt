-- Subtyping, one level of both types at a time.
use Rattle.std.proofs.Common.{◌≡◌, ◌↔◌, refl, sym, ap, ◌∙◌, subst, arith, ℕ, suc, ◌+◌, ◌*◌, ◌<◌, List, false, true≢false, inl, inr, ◌⊎◌}
use Rattle.std.specs.Prelude.{IsTrue}
use Rattle.st_il.specs.declared.ty.Ty.{Ty, out-Ty, roll-Ty, roll-out-Ty, fold-roll-Ty}
use Rattle.st_il.specs.declared.ty.Ty.TheOpen.{Ty-F}
use Rattle.st_il.specs.declared.ty.Ty.TheVariants as ty
use Rattle.st_il.specs.declared.definition.SyntaxDef.{SyntaxDef}
use Rattle.st_type_table.specs.Meaning.{Means}
use Rattle.st_type_table.specs.Same.{Same}
use Rattle.st_type_table.specs.Sub.{Sub, IsContained}
use Rattle.st_types.specs.inner.Levels.{UnderAt, IsUnder, Said, level_at, Holds}
use Rattle.st_type_table.specs.Breach.{IsSound}
use Rattle.st_type_table.proofs.Measure.{measure, ty_rank, ty_height, rank_at, height_at, heights, Means-measure}
use Rattle.st_type_table.proofs.MeansLemmas.{Means-single}
use Rattle.st_type_table.proofs.SameLemmas.{moved, to}

module _ (defs : List SyntaxDef) where
  pub under-opened : (a b u w : Ty) → Means defs a u → Means defs b w → IsUnder defs a b → UnderAt defs (out-Ty u) (out-Ty w)
  under-opened a b u w m n (IsUnder.number p q) =
      moved defs (UnderAt defs) {k = Ty-F.Nat} {n = Ty-F.Int} (ap out-Ty (Means-single defs a u _ m p) ∙ ty.outs-Nat) (ap out-Ty (Means-single defs b w _ n q) ∙ ty.outs-Int) tt
  under-opened a b u w m n (IsUnder.list x y p q s) =
      moved defs (UnderAt defs) {k = Ty-F.List x} {n = Ty-F.List y} (ap out-Ty (Means-single defs a u _ m p) ∙ ty.outs-List x) (ap out-Ty (Means-single defs b w _ n q) ∙ ty.outs-List y) s
  under-opened a b u w m n (IsUnder.option x y p q s) =
      moved defs (UnderAt defs) {k = Ty-F.Opt x} {n = Ty-F.Opt y} (ap out-Ty (Means-single defs a u _ m p) ∙ ty.outs-Opt x) (ap out-Ty (Means-single defs b w _ n q) ∙ ty.outs-Opt y) s

  under-closed_by : (a b : Ty) (l k : Ty-F Ty) → Means defs a (roll-Ty l) → Means defs b (roll-Ty k) → UnderAt defs l k → IsUnder defs a b
  under-closed_by a b Ty-F.Nat Ty-F.Int m n s = IsUnder.number (subst (Means defs a) ty.rolls-Nat m) (subst (Means defs b) ty.rolls-Int n)
  under-closed_by a b (Ty-F.List x) (Ty-F.List y) m n s = IsUnder.list x y (subst (Means defs a) (ty.rolls-List x) m) (subst (Means defs b) (ty.rolls-List y) n) s
  under-closed_by a b (Ty-F.Opt x) (Ty-F.Opt y) m n s = IsUnder.option x y (subst (Means defs a) (ty.rolls-Opt x) m) (subst (Means defs b) (ty.rolls-Opt y) n) s
  under-closed_by a b _ _ m n s = absurd s

-- the three ways of subtyping
pub Sub-ways : (defs : List SyntaxDef) (a b : Ty) → Sub defs a b → Same defs a b ⊎ (IsContained defs a b ⊎ IsUnder defs a b)
Sub-ways defs a b (Sub.same s) = inl s
Sub-ways defs a b (Sub.number p q) = inr (inr (IsUnder.number p q))
Sub-ways defs a b (Sub.variant c) = inr (inl c)
Sub-ways defs a b (Sub.list x y p q s) = inr (inr (IsUnder.list x y p q s))
Sub-ways defs a b (Sub.option x y p q s) = inr (inr (IsUnder.option x y p q s))

pub IsUnder-Sub : (defs : List SyntaxDef) (a b : Ty) → IsUnder defs a b → Sub defs a b
IsUnder-Sub defs a b (IsUnder.number p q) = Sub.number p q
IsUnder-Sub defs a b (IsUnder.list x y p q s) = Sub.list x y p q s
IsUnder-Sub defs a b (IsUnder.option x y p q s) = Sub.option x y p q s

-- subtypes by their meanings, where the types are not equal and not contained
pub sub-level : (defs : List SyntaxDef) (a b u w : Ty) (l k : Ty-F Ty) → (Same defs a b → IsTrue false) → (IsContained defs a b → IsTrue false) → Means defs a u → Means defs b w → out-Ty u ≡ l → out-Ty w ≡ k
    → Sub defs a b ↔ UnderAt defs l k
sub-level defs a b u w l k differs apart m n p q = (
  λ s. by (Sub-ways defs a b s),
  λ h. IsUnder-Sub defs a b (under-closed_by defs a b l k (to defs a u l m p) (to defs b w k n q) h),
)
  where
    by : Same defs a b ⊎ (IsContained defs a b ⊎ IsUnder defs a b) → UnderAt defs l k
    by (inl s) = absurd (true≢false (sym (differs s)))
    by (inr (inl s)) = absurd (true≢false (sym (apart s)))
    by (inr (inr s)) = moved defs (UnderAt defs) (sym p) (sym q) (under-opened defs a b u w m n s)

-- ---- by what a level says

said-under : (defs : List SyntaxDef) (l k : Ty-F Ty) → Holds defs (level_at l k) → UnderAt defs l k
said-under defs Ty-F.Nat Ty-F.Int h = h
said-under defs (Ty-F.List x) (Ty-F.List y) h = h
said-under defs (Ty-F.Opt x) (Ty-F.Opt y) h = h
said-under defs _ _ h = h

under-said : (defs : List SyntaxDef) (l k : Ty-F Ty) → UnderAt defs l k → Holds defs (level_at l k)
under-said defs Ty-F.Nat Ty-F.Int h = h
under-said defs (Ty-F.List x) (Ty-F.List y) h = h
under-said defs (Ty-F.Opt x) (Ty-F.Opt y) h = h
under-said defs _ _ h = h

-- subtypes by what is said of their meanings, where the types are not equal and not contained
pub sub-said : (defs : List SyntaxDef) (a b u w : Ty) (s : Said) → (Same defs a b → IsTrue false) → (IsContained defs a b → IsTrue false) → Means defs a u → Means defs b w
    → s ≡ level_at (out-Ty u) (out-Ty w) → Sub defs a b ↔ Holds defs s
sub-said defs a b u w s differs apart m n e =
    let h = sub-level defs a b u w (out-Ty u) (out-Ty w) differs apart m n refl refl in (
      λ t. subst (Holds defs) (sym e) (under-said defs (out-Ty u) (out-Ty w) (h.0 t)),
      λ t. h.1 (said-under defs (out-Ty u) (out-Ty w) (subst (Holds defs) e t)),
    )

-- ---- elements are smaller

measure-list : (defs : List SyntaxDef) (p : Ty) → measure defs p < measure defs (roll-Ty (Ty-F.List p))
measure-list defs p =
    let r : ty_rank defs (roll-Ty (Ty-F.List p)) ≡ ty_rank defs p = fold-roll-Ty ℕ (rank_at defs) (Ty-F.List p) in
    let h : ty_height (roll-Ty (Ty-F.List p)) ≡ 1 + ty_height p = fold-roll-Ty ℕ height_at (Ty-F.List p) in
    let q : ty_rank defs (roll-Ty (Ty-F.List p)) * suc (heights defs) ≡ ty_rank defs p * suc (heights defs) = ap (λ n. n * suc (heights defs)) r in
    omega (arith, q, h)

measure-option : (defs : List SyntaxDef) (p : Ty) → measure defs p < measure defs (roll-Ty (Ty-F.Opt p))
measure-option defs p =
    let r : ty_rank defs (roll-Ty (Ty-F.Opt p)) ≡ ty_rank defs p = fold-roll-Ty ℕ (rank_at defs) (Ty-F.Opt p) in
    let h : ty_height (roll-Ty (Ty-F.Opt p)) ≡ 1 + ty_height p = fold-roll-Ty ℕ height_at (Ty-F.Opt p) in
    let q : ty_rank defs (roll-Ty (Ty-F.Opt p)) * suc (heights defs) ≡ ty_rank defs p * suc (heights defs) = ap (λ n. n * suc (heights defs)) r in
    omega (arith, q, h)

elements-fall : (defs : List SyntaxDef) (l k : Ty-F Ty) (x y : Ty) → Said.elements x y ≡ level_at l k → measure defs x < measure defs (roll-Ty l)
elements-fall defs (Ty-F.List p) (Ty-F.List q) x y e =
    let s : x ≡ p = cc in
    let h : measure defs p < measure defs (roll-Ty (Ty-F.List p)) = measure-list defs p in
    subst (λ z. measure defs z < measure defs (roll-Ty (Ty-F.List p))) (sym s) h
elements-fall defs (Ty-F.Opt p) (Ty-F.Opt q) x y e =
    let s : x ≡ p = cc in
    let h : measure defs p < measure defs (roll-Ty (Ty-F.Opt p)) = measure-option defs p in
    subst (λ z. measure defs z < measure defs (roll-Ty (Ty-F.Opt p))) (sym s) h
elements-fall defs Ty-F.Nat Ty-F.Int x y e = absurd (let z : ⊥ = cc in z)
elements-fall defs _ _ x y e = absurd (let z : ⊥ = cc in z)

pub said-falls : (defs : List SyntaxDef) (sound : IsSound defs) (a u w x y : Ty) → Means defs a u → Said.elements x y ≡ level_at (out-Ty u) (out-Ty w) → measure defs x < measure defs a
said-falls defs sound a u w x y m e =
    let h = elements-fall defs (out-Ty u) (out-Ty w) x y e in
    let r : measure defs (roll-Ty (out-Ty u)) ≡ measure defs u = ap (measure defs) (roll-out-Ty u) in
    let g = Means-measure defs sound a u m in
    omega (arith, h, r, g)
