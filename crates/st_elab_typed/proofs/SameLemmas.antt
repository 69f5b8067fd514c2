-- What is equal through aliases to a list, a number or a record is one too.
use Rattle.std.proofs.Common.{◌≡◌, refl, sym, ap, ◌∙◌, subst, ℕ, List, [], ◌∷◌}
use Rattle.st_il.specs.declared.ty.Ty.{Ty, out-Ty}
use Rattle.st_il.specs.declared.ty.Ty.TheOpen.{Ty-F}
use Rattle.st_il.specs.declared.ty.Ty.TheVariants as ty
use Rattle.st_il.specs.declared.ty.NumTy.{NumTy}
use Rattle.st_il.specs.declared.ty.NumTy.TheVariants as number
use Rattle.st_il.specs.declared.definition.SyntaxDef.{SyntaxDef}
use Rattle.st_type_table.specs.Meaning.{Means, itself, aliased, named_at, recorded}
use Rattle.st_type_table.specs.Cases.{HasFields}
use Rattle.st_type_table.specs.Joins.{Joins}
use Rattle.st_type_table.specs.Same.{Same, SameAll}
use Rattle.st_type_table.specs.inner.SameLevels.{SameAt}
use Rattle.st_type_table.proofs.MeansLemmas.{Means-single}
use Rattle.st_type_table.proofs.CasesLemmas.{moved_fields, no_fields}
use Rattle.st_type_table.proofs.SameLemmas.{moved, Same-refl, same-opened}
use Rattle.st_semantics.specs.OperationTypes.{number_type}

module _ (defs : List SyntaxDef) where
  mutual
    pub Same-sym : (a b : Ty) → Same defs a b → Same defs b a
    Same-sym a b (Same.equal t m n) = Same.equal t n m
    Same-sym a b (Same.list x y m n s) = Same.list y x n m (Same-sym x y s)
    Same-sym a b (Same.option x y m n s) = Same.option y x n m (Same-sym x y s)
    Same-sym a b (Same.tuple xs ys m n s) = Same.tuple ys xs n m (SameAll-sym xs ys s)

    pub SameAll-sym : (xs ys : List Ty) → SameAll defs xs ys → SameAll defs ys xs
    SameAll-sym [] [] s = SameAll.none
    SameAll-sym [] (y ∷ ys) s = elim s [ ]
    SameAll-sym (x ∷ xs) [] s = elim s [ ]
    SameAll-sym (x ∷ xs) (y ∷ ys) (SameAll.more r rs) = SameAll.more (Same-sym x y r) (SameAll-sym xs ys rs)

  -- ---- types that mean themselves

  pub Means-Nat : Means defs ty.Nat ty.Nat
  Means-Nat = itself (ap (λ z. aliased (named_at defs z)) ty.outs-Nat) refl

  pub Means-Int : Means defs ty.Int ty.Int
  Means-Int = itself (ap (λ z. aliased (named_at defs z)) ty.outs-Int) refl

  pub Means-List : (x : Ty) → Means defs (ty.List x) (ty.List x)
  Means-List x = itself (ap (λ z. aliased (named_at defs z)) (ty.outs-List x)) refl

  pub Means-Opt : (x : Ty) → Means defs (ty.Opt x) (ty.Opt x)
  Means-Opt x = itself (ap (λ z. aliased (named_at defs z)) (ty.outs-Opt x)) refl

  pub Means-Tuple : (xs : List Ty) → Means defs (ty.Tuple xs) (ty.Tuple xs)
  Means-Tuple xs = itself (ap (λ z. aliased (named_at defs z)) (ty.outs-Tuple xs)) refl

  -- ---- numbers

  pub Means-number : (n : NumTy) → Means defs (number_type n) (number_type n)
  Means-number number.Nat = Means-Nat
  Means-number number.Int = Means-Int

  pub Same-number : (t : Ty) (n : NumTy) → Means defs t (number_type n) → Same defs t (number_type n)
  Same-number t n m = Same.equal (number_type n) m (Means-number n)

  -- ---- lists, options and tuples of equal types

  pub Same-List : (x y t : Ty) → Means defs t (ty.List y) → Same defs x y → Same defs (ty.List x) t
  Same-List x y t m s = Same.list x y (Means-List x) m s

  pub Same-Opt : (x y t : Ty) → Means defs t (ty.Opt y) → Same defs x y → Same defs (ty.Opt x) t
  Same-Opt x y t m s = Same.option x y (Means-Opt x) m s

  pub Same-Tuple : (xs ys : List Ty) (t : Ty) → Means defs t (ty.Tuple ys) → SameAll defs xs ys → Same defs (ty.Tuple xs) t
  Same-Tuple xs ys t m s = Same.tuple xs ys (Means-Tuple xs) m s

  -- ---- records

  -- what is equal to a record has its fields
  pub Same-HasFields : (a b : Ty) (fields : List (List ℕ × Ty)) → Same defs a b → HasFields defs b fields → HasFields defs a fields
  Same-HasFields a b fields (Same.equal t m n) h = moved_fields defs b a t n m fields h
  Same-HasFields a b fields (Same.list x y m n s) h = absurd (no_fields defs b _ n (ap (λ z. recorded (named_at defs z)) (ty.outs-List y)) fields h)
  Same-HasFields a b fields (Same.option x y m n s) h = absurd (no_fields defs b _ n (ap (λ z. recorded (named_at defs z)) (ty.outs-Opt y)) fields h)
  Same-HasFields a b fields (Same.tuple xs ys m n s) h = absurd (no_fields defs b _ n (ap (λ z. recorded (named_at defs z)) (ty.outs-Tuple ys)) fields h)

  pub Same-Joins : (a b : Ty) → Same defs a b → Joins defs b → Joins defs a
  Same-Joins a b s (Joins.joins fields has all) = Joins.joins fields (Same-HasFields a b fields s has) all

module _ (defs : List SyntaxDef) (total : (t : Ty) → (u : Ty) × Means defs t u) where
  -- the levels of the meanings of equal types are equal
  levels : (a b u w : Ty) (l k : Ty-F Ty) → out-Ty u ≡ l → out-Ty w ≡ k → Means defs a u → Means defs b w → Same defs a b → SameAt defs l k
  levels a b u w l k p q m n s = moved defs (SameAt defs) (sym p) (sym q) (same-opened defs total a b u w m n s)

  pub Same-apart : (a : Ty) → Means defs a ty.Nat → Same defs a ty.Int → ⊥
  Same-apart a m s = levels a ty.Int ty.Nat ty.Int Ty-F.Nat Ty-F.Int ty.outs-Nat ty.outs-Int m (Means-Int defs) s

  -- what is equal to a list is one of equal elements
  pub Same-to_List : (a b x : Ty) → Means defs b (ty.List x) → Same defs a b → (y : Ty) × (Means defs a (ty.List y) × Same defs y x)
  Same-to_List a b x m (Same.list y z n k s) =
      let e : Ty-F.List z ≡ Ty-F.List x = sym (ty.outs-List z) ∙ ap out-Ty (Means-single defs b _ _ k m) ∙ ty.outs-List x in
      let d : z ≡ x = cc in
      (y, (n, subst (Same defs y) d s))
  Same-to_List a b x m (Same.equal t n k) = (x, (subst (Means defs a) (Means-single defs b _ _ k m) n, Same-refl defs total x))
  Same-to_List a b x m (Same.option y z n k s) =
      let e : Ty-F.Opt z ≡ Ty-F.List x = sym (ty.outs-Opt z) ∙ ap out-Ty (Means-single defs b _ _ k m) ∙ ty.outs-List x in absurd (cc)
  Same-to_List a b x m (Same.tuple ys zs n k s) =
      let e : Ty-F.Tuple zs ≡ Ty-F.List x = sym (ty.outs-Tuple zs) ∙ ap out-Ty (Means-single defs b _ _ k m) ∙ ty.outs-List x in absurd (cc)
