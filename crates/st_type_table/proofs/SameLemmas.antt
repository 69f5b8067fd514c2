-- Equality through aliases, one level of both types at a time.
use Rattle.std.proofs.Common.{◌≡◌, ◌↔◌, ℕ, suc, ◌+◌, ◌<◌, ◌≤◌, refl, sym, ap, ◌∙◌, subst, List, [], ◌∷◌, Bool, length, drop, get_or, drop-cons, add-one}
use Rattle.std.proofs.lemmas.List.{drop_all}
use Rattle.std.specs.Prelude.{IsTrue}
use Rattle.st_il.specs.declared.ty.Ty.{Ty, out-Ty, roll-Ty, roll-out-Ty}
use Rattle.st_il.specs.declared.ty.Ty.TheOpen.{Ty-F}
use Rattle.st_il.specs.declared.ty.Ty.TheVariants as ty
use Rattle.st_il.specs.declared.definition.SyntaxDef.{SyntaxDef}
use Rattle.st_type_table.specs.Meaning.{Means}
use Rattle.st_type_table.specs.Same.{Same, SameAll}
use Rattle.st_type_table.specs.inner.SameLevels.{SameAt}
use Rattle.st_type_table.proofs.MeansLemmas.{Means-single}

module _ (defs : List SyntaxDef) where
  pub moved : (R : Ty-F Ty → Ty-F Ty → Type 0) {l m k n : Ty-F Ty} → l ≡ k → m ≡ n → R k n → R l m
  moved R {l} {m} {k} {n} p q s = subst (λ z. R z m) (sym p) (subst (λ z. R k z) (sym q) s)

  -- the meanings that these levels are
  pub to : (a u : Ty) (l : Ty-F Ty) → Means defs a u → out-Ty u ≡ l → Means defs a (roll-Ty l)
  to a u l m p = subst (Means defs a) (sym (roll-out-Ty u) ∙ ap roll-Ty p) m

  pub same-closed_by : (a b : Ty) (l k : Ty-F Ty) → Means defs a (roll-Ty l) → Means defs b (roll-Ty k) → SameAt defs l k → Same defs a b
  same-closed_by a b Ty-F.Bool Ty-F.Bool m n s = Same.equal _ m n
  same-closed_by a b Ty-F.Nat Ty-F.Nat m n s = Same.equal _ m n
  same-closed_by a b Ty-F.Int Ty-F.Int m n s = Same.equal _ m n
  same-closed_by a b Ty-F.Text Ty-F.Text m n s = Same.equal _ m n
  same-closed_by a b (Ty-F.Name x) (Ty-F.Name y) m n s = Same.equal _ m (subst (λ z. Means defs b (roll-Ty (Ty-F.Name z))) (sym s) n)
  same-closed_by a b (Ty-F.List x) (Ty-F.List y) m n s = Same.list x y (subst (Means defs a) (ty.rolls-List x) m) (subst (Means defs b) (ty.rolls-List y) n) s
  same-closed_by a b (Ty-F.Opt x) (Ty-F.Opt y) m n s = Same.option x y (subst (Means defs a) (ty.rolls-Opt x) m) (subst (Means defs b) (ty.rolls-Opt y) n) s
  same-closed_by a b (Ty-F.Tuple xs) (Ty-F.Tuple ys) m n s = Same.tuple xs ys (subst (Means defs a) (ty.rolls-Tuple xs) m) (subst (Means defs b) (ty.rolls-Tuple ys) n) s
  same-closed_by a b _ _ m n s = absurd s

  pub SameAll-length : (xs ys : List Ty) → SameAll defs xs ys → length xs ≡ length ys
  SameAll-length [] [] s = refl
  SameAll-length [] (y ∷ ys) s = elim s [ ]
  SameAll-length (x ∷ xs) [] s = elim s [ ]
  SameAll-length (x ∷ xs) (y ∷ ys) (SameAll.more s r) = ap suc (SameAll-length xs ys r)

  SameAll-first : (x y : Ty) (xs ys : List Ty) → SameAll defs (x ∷ xs) (y ∷ ys) → Same defs x y × SameAll defs xs ys
  SameAll-first x y xs ys (SameAll.more s r) = (s, r)

  -- two lists from position i on, by their items there
  pub SameAll-at : (xs ys : List Ty) (i : ℕ) (x y : Ty) → i < length xs → i < length ys → x ≡ get_or xs i x → y ≡ get_or ys i y
      → SameAll defs (drop i xs) (drop i ys) ↔ (Same defs x y × SameAll defs (drop (i + 1) xs) (drop (i + 1) ys))
  SameAll-at xs ys i x y hx hy ex ey =
      let p : drop i xs ≡ x ∷ drop (i + 1) xs = rw (add-one, drop-cons xs i x hx) (ap (λ z. z ∷ drop (suc i) xs) (sym ex)) in
      let q : drop i ys ≡ y ∷ drop (i + 1) ys = rw (add-one, drop-cons ys i y hy) (ap (λ z. z ∷ drop (suc i) ys) (sym ey)) in (
        λ s. SameAll-first x y _ _ (subst (λ z. SameAll defs z (y ∷ drop (i + 1) ys)) p (subst (λ z. SameAll defs (drop i xs) z) q s)),
        λ s. subst (λ z. SameAll defs z (drop i ys)) (sym p) (subst (λ z. SameAll defs (x ∷ drop (i + 1) xs) z) (sym q) (SameAll.more s.0 s.1)),
      )

  pub SameAll-end : (xs ys : List Ty) (i : ℕ) → length xs ≤ i → length ys ≤ i → SameAll defs (drop i xs) (drop i ys)
  SameAll-end xs ys i hx hy = subst (λ z. SameAll defs z (drop i ys)) (sym (drop_all i xs hx)) (subst (λ z. SameAll defs [] z) (sym (drop_all i ys hy)) SameAll.none)

module _ (defs : List SyntaxDef) (total : (t : Ty) → (u : Ty) × Means defs t u) where
  pub Same-refl : (t : Ty) → Same defs t t
  Same-refl t = let m = total t in Same.equal m.0 m.1 m.1

  pub SameAll-refl : (xs : List Ty) → SameAll defs xs xs
  SameAll-refl [] = SameAll.none
  SameAll-refl (x ∷ xs) = SameAll.more (Same-refl x) (SameAll-refl xs)

  level_refl : (l : Ty-F Ty) → SameAt defs l l
  level_refl Ty-F.Bool = tt
  level_refl Ty-F.Nat = tt
  level_refl Ty-F.Int = tt
  level_refl Ty-F.Text = tt
  level_refl (Ty-F.Name x) = refl
  level_refl (Ty-F.List x) = Same-refl x
  level_refl (Ty-F.Opt x) = Same-refl x
  level_refl (Ty-F.Tuple xs) = SameAll-refl xs

  -- the levels of types that are the same
  pub same-opened : (a b u w : Ty) → Means defs a u → Means defs b w → Same defs a b → SameAt defs (out-Ty u) (out-Ty w)
  same-opened a b u w m n (Same.equal t p q) =
      moved defs (SameAt defs) (ap out-Ty (Means-single defs a u t m p)) (ap out-Ty (Means-single defs b w t n q)) (level_refl (out-Ty t))
  same-opened a b u w m n (Same.list x y p q s) =
      moved defs (SameAt defs) {k = Ty-F.List x} {n = Ty-F.List y} (ap out-Ty (Means-single defs a u _ m p) ∙ ty.outs-List x) (ap out-Ty (Means-single defs b w _ n q) ∙ ty.outs-List y) s
  same-opened a b u w m n (Same.option x y p q s) =
      moved defs (SameAt defs) {k = Ty-F.Opt x} {n = Ty-F.Opt y} (ap out-Ty (Means-single defs a u _ m p) ∙ ty.outs-Opt x) (ap out-Ty (Means-single defs b w _ n q) ∙ ty.outs-Opt y) s
  same-opened a b u w m n (Same.tuple xs ys p q s) =
      moved defs (SameAt defs) {k = Ty-F.Tuple xs} {n = Ty-F.Tuple ys} (ap out-Ty (Means-single defs a u _ m p) ∙ ty.outs-Tuple xs) (ap out-Ty (Means-single defs b w _ n q) ∙ ty.outs-Tuple ys) s

  -- what decides a level decides the types
  pub same-arm : (a b u w : Ty) (l k : Ty-F Ty) (r : Bool) → Means defs a u → Means defs b w → out-Ty u ≡ l → out-Ty w ≡ k → (IsTrue r ↔ SameAt defs l k) → IsTrue r ↔ Same defs a b
  same-arm a b u w l k r m n p q h = (
    λ t. same-closed_by defs a b l k (to defs a u l m p) (to defs b w k n q) (h.0 t),
    λ s. h.1 (moved defs (SameAt defs) (sym p) (sym q) (same-opened a b u w m n s)),
  )
