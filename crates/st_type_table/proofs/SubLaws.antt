-- Equality through aliases and subtyping are preorders.
use Rattle.std.proofs.Common.{◌≡◌, sym, ap, ◌∙◌, subst, List, [], ◌∷◌}
use Rattle.st_il.specs.declared.ty.Ty.{Ty, out-Ty}
use Rattle.st_il.specs.declared.ty.Ty.TheOpen.{Ty-F}
use Rattle.st_il.specs.declared.ty.Ty.TheVariants as ty
use Rattle.st_il.specs.declared.definition.SyntaxDef.{SyntaxDef}
use Rattle.st_type_table.specs.declared.entry.CaseDef.{CaseDef}
use Rattle.st_type_table.specs.Meaning.{Means, named_at, listed}
use Rattle.st_type_table.specs.Cases.{HasCases}
use Rattle.st_type_table.specs.Same.{Same, SameAll}
use Rattle.st_type_table.specs.Sub.{Sub, IsContained, AllStandIn}
use Rattle.st_type_table.specs.inner.SameLevels.{SameAt}
use Rattle.st_type_table.proofs.MeansLemmas.{Means-single}
use Rattle.st_type_table.proofs.CasesLemmas.{HasCases-single, no_cases, moved_cases}
use Rattle.st_type_table.proofs.SameLemmas.{Same-refl, same-opened}
use Rattle.st_type_table.proofs.UpLaws.{stands}

module _ (defs : List SyntaxDef) (total : (t : Ty) → (u : Ty) × Means defs t u) where
  -- what a list, an option or a tuple is equal to
  record IsList (x b : Ty) : Type 0 where
    element : Ty
    means : Means defs b (ty.List element)
    same : Same defs x element

  record IsOption (x b : Ty) : Type 0 where
    element : Ty
    means : Means defs b (ty.Opt element)
    same : Same defs x element

  record IsTuple (xs : List Ty) (b : Ty) : Type 0 where
    elements : List Ty
    means : Means defs b (ty.Tuple elements)
    same : SameAll defs xs elements

  pub Sub-refl : (t : Ty) → Sub defs t t
  Sub-refl t = Sub.same (Same-refl defs total t)

  SameAll-refl : (xs : List Ty) → SameAll defs xs xs
  SameAll-refl [] = SameAll.none
  SameAll-refl (x ∷ xs) = SameAll.more (Same-refl defs total x) (SameAll-refl xs)

  -- the levels of a type with this meaning, and of what it is equal to
  level : (a b u w : Ty) (l : Ty-F Ty) → out-Ty u ≡ l → Means defs a u → Means defs b w → Same defs a b → SameAt defs l (out-Ty w)
  level a b u w l p m n s = subst (λ z. SameAt defs z (out-Ty w)) p (same-opened defs total a b u w m n s)

  from_list : (a b x : Ty) → Means defs a (ty.List x) → Same defs a b → IsList x b
  from_list a b x m (Same.list y z n k s) =
      let e : Ty-F.List x ≡ Ty-F.List y = sym (ty.outs-List x) ∙ ap out-Ty (Means-single defs a _ _ m n) ∙ ty.outs-List y in
      let d : x ≡ y = cc in
      record { element = z; means = k; same = subst (λ w. Same defs w z) (sym d) s }
  from_list a b x m (Same.equal t n k) =
      record { element = x; means = subst (Means defs b) (Means-single defs a _ _ n m) k; same = Same-refl defs total x }
  from_list a b x m (Same.option y z n k s) =
      let e : Ty-F.List x ≡ Ty-F.Opt y = sym (ty.outs-List x) ∙ ap out-Ty (Means-single defs a _ _ m n) ∙ ty.outs-Opt y in cc
  from_list a b x m (Same.tuple ys zs n k s) =
      let e : Ty-F.List x ≡ Ty-F.Tuple ys = sym (ty.outs-List x) ∙ ap out-Ty (Means-single defs a _ _ m n) ∙ ty.outs-Tuple ys in cc

  from_option : (a b x : Ty) → Means defs a (ty.Opt x) → Same defs a b → IsOption x b
  from_option a b x m (Same.option y z n k s) =
      let e : Ty-F.Opt x ≡ Ty-F.Opt y = sym (ty.outs-Opt x) ∙ ap out-Ty (Means-single defs a _ _ m n) ∙ ty.outs-Opt y in
      let d : x ≡ y = cc in
      record { element = z; means = k; same = subst (λ w. Same defs w z) (sym d) s }
  from_option a b x m (Same.equal t n k) =
      record { element = x; means = subst (Means defs b) (Means-single defs a _ _ n m) k; same = Same-refl defs total x }
  from_option a b x m (Same.list y z n k s) =
      let e : Ty-F.Opt x ≡ Ty-F.List y = sym (ty.outs-Opt x) ∙ ap out-Ty (Means-single defs a _ _ m n) ∙ ty.outs-List y in cc
  from_option a b x m (Same.tuple ys zs n k s) =
      let e : Ty-F.Opt x ≡ Ty-F.Tuple ys = sym (ty.outs-Opt x) ∙ ap out-Ty (Means-single defs a _ _ m n) ∙ ty.outs-Tuple ys in cc

  from_tuple : (a b : Ty) (xs : List Ty) → Means defs a (ty.Tuple xs) → Same defs a b → IsTuple xs b
  from_tuple a b xs m (Same.tuple ys zs n k s) =
      let e : Ty-F.Tuple xs ≡ Ty-F.Tuple ys = sym (ty.outs-Tuple xs) ∙ ap out-Ty (Means-single defs a _ _ m n) ∙ ty.outs-Tuple ys in
      let d : xs ≡ ys = cc in
      record { elements = zs; means = k; same = subst (λ w. SameAll defs w zs) (sym d) s }
  from_tuple a b xs m (Same.equal t n k) =
      record { elements = xs; means = subst (Means defs b) (Means-single defs a _ _ n m) k; same = SameAll-refl xs }
  from_tuple a b xs m (Same.list y z n k s) =
      let e : Ty-F.Tuple xs ≡ Ty-F.List y = sym (ty.outs-Tuple xs) ∙ ap out-Ty (Means-single defs a _ _ m n) ∙ ty.outs-List y in cc
  from_tuple a b xs m (Same.option y z n k s) =
      let e : Ty-F.Tuple xs ≡ Ty-F.Opt y = sym (ty.outs-Tuple xs) ∙ ap out-Ty (Means-single defs a _ _ m n) ∙ ty.outs-Opt y in cc

  -- a type that means what another means is equal to what that is equal to
  same_moved : (a b c t : Ty) → Means defs a t → Means defs b t → Same defs b c → Same defs a c
  same_moved a b c t m n (Same.equal u p q) = Same.equal u (subst (Means defs a) (Means-single defs b _ _ n p) m) q
  same_moved a b c t m n (Same.list x y p q s) = Same.list x y (subst (Means defs a) (Means-single defs b _ _ n p) m) q s
  same_moved a b c t m n (Same.option x y p q s) = Same.option x y (subst (Means defs a) (Means-single defs b _ _ n p) m) q s
  same_moved a b c t m n (Same.tuple xs ys p q s) = Same.tuple xs ys (subst (Means defs a) (Means-single defs b _ _ n p) m) q s

  mutual
    pub Same-trans : (a b c : Ty) → Same defs a b → Same defs b c → Same defs a c
    Same-trans a b c (Same.equal t m n) s = same_moved a b c t m n s
    Same-trans a b c (Same.list x y m n r) s = let f = from_list b c y n s in Same.list x f.element m f.means (Same-trans x y f.element r f.same)
    Same-trans a b c (Same.option x y m n r) s = let f = from_option b c y n s in Same.option x f.element m f.means (Same-trans x y f.element r f.same)
    Same-trans a b c (Same.tuple xs ys m n r) s = let f = from_tuple b c ys n s in Same.tuple xs f.elements m f.means (SameAll-trans xs ys f.elements r f.same)

    pub SameAll-trans : (xs ys zs : List Ty) → SameAll defs xs ys → SameAll defs ys zs → SameAll defs xs zs
    SameAll-trans [] [] zs r s = s
    SameAll-trans [] (y ∷ ys) zs r s = elim r [ ]
    SameAll-trans (x ∷ xs) [] zs r s = elim r [ ]
    SameAll-trans (x ∷ xs) (y ∷ ys) [] r s = elim s [ ]
    SameAll-trans (x ∷ xs) (y ∷ ys) (z ∷ zs) (SameAll.more r rs) (SameAll.more s ss) = SameAll.more (Same-trans x y z r s) (SameAll-trans xs ys zs rs ss)

  -- ---- subtypes

  record IsAboveList (x b : Ty) : Type 0 where
    element : Ty
    means : Means defs b (ty.List element)
    above : Sub defs x element

  record IsAboveOption (x b : Ty) : Type 0 where
    element : Ty
    means : Means defs b (ty.Opt element)
    above : Sub defs x element

  differ : (a u w : Ty) (l k : Ty-F Ty) → Means defs a u → Means defs a w → out-Ty u ≡ l → out-Ty w ≡ k → l ≡ k
  differ a u w l k m n p q = sym p ∙ ap out-Ty (Means-single defs a u w m n) ∙ q

  above_list : (a b x : Ty) → Means defs a (ty.List x) → Sub defs a b → IsAboveList x b
  above_list a b x m (Sub.same s) = let f = from_list a b x m s in record { element = f.element; means = f.means; above = Sub.same f.same }
  above_list a b x m (Sub.list y z n k s) =
      let e : Ty-F.List x ≡ Ty-F.List y = differ a _ _ _ _ m n (ty.outs-List x) (ty.outs-List y) in
      let d : x ≡ y = cc in
      record { element = z; means = k; above = subst (λ w. Sub defs w z) (sym d) s }
  above_list a b x m (Sub.number n k) = let e : Ty-F.List x ≡ Ty-F.Nat = differ a _ _ _ _ m n (ty.outs-List x) ty.outs-Nat in cc
  above_list a b x m (Sub.option y z n k s) = let e : Ty-F.List x ≡ Ty-F.Opt y = differ a _ _ _ _ m n (ty.outs-List x) (ty.outs-Opt y) in cc
  above_list a b x m (Sub.variant c) = absurd (no_cases defs a _ m (ap (λ z. listed (named_at defs z)) (ty.outs-List x)) c.lower c.lower_cases)

  above_option : (a b x : Ty) → Means defs a (ty.Opt x) → Sub defs a b → IsAboveOption x b
  above_option a b x m (Sub.same s) = let f = from_option a b x m s in record { element = f.element; means = f.means; above = Sub.same f.same }
  above_option a b x m (Sub.option y z n k s) =
      let e : Ty-F.Opt x ≡ Ty-F.Opt y = differ a _ _ _ _ m n (ty.outs-Opt x) (ty.outs-Opt y) in
      let d : x ≡ y = cc in
      record { element = z; means = k; above = subst (λ w. Sub defs w z) (sym d) s }
  above_option a b x m (Sub.number n k) = let e : Ty-F.Opt x ≡ Ty-F.Nat = differ a _ _ _ _ m n (ty.outs-Opt x) ty.outs-Nat in cc
  above_option a b x m (Sub.list y z n k s) = let e : Ty-F.Opt x ≡ Ty-F.List y = differ a _ _ _ _ m n (ty.outs-Opt x) (ty.outs-List y) in cc
  above_option a b x m (Sub.variant c) = absurd (no_cases defs a _ m (ap (λ z. listed (named_at defs z)) (ty.outs-Opt x)) c.lower c.lower_cases)

  same_tuple : (a b : Ty) (xs : List Ty) → Means defs a (ty.Tuple xs) → Sub defs a b → Same defs a b
  same_tuple a b xs m (Sub.same s) = s
  same_tuple a b xs m (Sub.number n k) = let e : Ty-F.Tuple xs ≡ Ty-F.Nat = differ a _ _ _ _ m n (ty.outs-Tuple xs) ty.outs-Nat in cc
  same_tuple a b xs m (Sub.list y z n k s) = let e : Ty-F.Tuple xs ≡ Ty-F.List y = differ a _ _ _ _ m n (ty.outs-Tuple xs) (ty.outs-List y) in cc
  same_tuple a b xs m (Sub.option y z n k s) = let e : Ty-F.Tuple xs ≡ Ty-F.Opt y = differ a _ _ _ _ m n (ty.outs-Tuple xs) (ty.outs-Opt y) in cc
  same_tuple a b xs m (Sub.variant c) = absurd (no_cases defs a _ m (ap (λ z. listed (named_at defs z)) (ty.outs-Tuple xs)) c.lower c.lower_cases)

  sub_moved : (a b c t : Ty) → Means defs a t → Means defs b t → Sub defs b c → Sub defs a c
  sub_moved a b c t m n (Sub.same s) = Sub.same (same_moved a b c t m n s)
  sub_moved a b c t m n (Sub.number p q) = Sub.number (subst (Means defs a) (Means-single defs b _ _ n p) m) q
  sub_moved a b c t m n (Sub.variant w) = Sub.variant (record {
    lower = w.lower;
    upper = w.upper;
    lower_cases = moved_cases defs b a t n m w.lower w.lower_cases;
    upper_cases = w.upper_cases;
    stand = w.stand;
  })
  sub_moved a b c t m n (Sub.list x y p q s) = Sub.list x y (subst (Means defs a) (Means-single defs b _ _ n p) m) q s
  sub_moved a b c t m n (Sub.option x y p q s) = Sub.option x y (subst (Means defs a) (Means-single defs b _ _ n p) m) q s

  after_same : (a b c : Ty) → Same defs a b → Sub defs b c → Sub defs a c
  after_same a b c (Same.equal t m n) s = sub_moved a b c t m n s
  after_same a b c (Same.list x y m n r) s = let f = above_list b c y n s in Sub.list x f.element m f.means (after_same x y f.element r f.above)
  after_same a b c (Same.option x y m n r) s = let f = above_option b c y n s in Sub.option x f.element m f.means (after_same x y f.element r f.above)
  after_same a b c (Same.tuple xs ys m n r) s = Sub.same (Same-trans a b c (Same.tuple xs ys m n r) (same_tuple b c ys n s))

  -- what is equal to a type of these cases has them too
  same_cases : (a b : Ty) (cs : List CaseDef) → HasCases defs a cs → Same defs a b → HasCases defs b cs
  same_cases a b cs h (Same.equal t m n) = moved_cases defs a b t m n cs h
  same_cases a b cs h (Same.list x y m n s) = absurd (no_cases defs a _ m (ap (λ z. listed (named_at defs z)) (ty.outs-List x)) cs h)
  same_cases a b cs h (Same.option x y m n s) = absurd (no_cases defs a _ m (ap (λ z. listed (named_at defs z)) (ty.outs-Opt x)) cs h)
  same_cases a b cs h (Same.tuple xs ys m n s) = absurd (no_cases defs a _ m (ap (λ z. listed (named_at defs z)) (ty.outs-Tuple xs)) cs h)

  all_stand : (xs ys zs : List CaseDef) → AllStandIn defs xs ys → AllStandIn defs ys zs → AllStandIn defs xs zs
  all_stand [] ys zs h k = tt
  all_stand (x ∷ xs) ys zs h k =
      let s = stands defs ys zs x.tag h.0.operands k h.0.found in
      (record { operands = s.0; found = s.1; equal = SameAll-trans x.operands h.0.operands s.0 h.0.equal s.2 }, all_stand xs ys zs h.1 k)

  contained_trans : (a b c : Ty) → IsContained defs a b → IsContained defs b c → IsContained defs a c
  contained_trans a b c p q =
      let e = HasCases-single defs b p.upper q.lower p.upper_cases q.lower_cases in
      record { lower = p.lower; upper = q.upper; lower_cases = p.lower_cases; upper_cases = q.upper_cases; stand = all_stand p.lower q.lower q.upper (subst (λ z. AllStandIn defs p.lower z) e p.stand) q.stand }

  after_variant : (a b c : Ty) → IsContained defs a b → Sub defs b c → Sub defs a c
  after_variant a b c p (Sub.same s) = Sub.variant (record {
    lower = p.lower;
    upper = p.upper;
    lower_cases = p.lower_cases;
    upper_cases = same_cases b c p.upper p.upper_cases s;
    stand = p.stand;
  })
  after_variant a b c p (Sub.variant q) = Sub.variant (contained_trans a b c p q)
  after_variant a b c p (Sub.number m n) = absurd (no_cases defs b _ m (ap (λ z. listed (named_at defs z)) ty.outs-Nat) p.upper p.upper_cases)
  after_variant a b c p (Sub.list x y m n s) = absurd (no_cases defs b _ m (ap (λ z. listed (named_at defs z)) (ty.outs-List x)) p.upper p.upper_cases)
  after_variant a b c p (Sub.option x y m n s) = absurd (no_cases defs b _ m (ap (λ z. listed (named_at defs z)) (ty.outs-Opt x)) p.upper p.upper_cases)

  means_int : (b c : Ty) → Means defs b ty.Int → Sub defs b c → Means defs c ty.Int
  means_int b c m (Sub.same (Same.equal t n k)) = subst (Means defs c) (Means-single defs b _ _ n m) k
  means_int b c m (Sub.same (Same.list x y n k s)) = let e : Ty-F.Int ≡ Ty-F.List x = differ b _ _ _ _ m n ty.outs-Int (ty.outs-List x) in cc
  means_int b c m (Sub.same (Same.option x y n k s)) = let e : Ty-F.Int ≡ Ty-F.Opt x = differ b _ _ _ _ m n ty.outs-Int (ty.outs-Opt x) in cc
  means_int b c m (Sub.same (Same.tuple xs ys n k s)) = let e : Ty-F.Int ≡ Ty-F.Tuple xs = differ b _ _ _ _ m n ty.outs-Int (ty.outs-Tuple xs) in cc
  means_int b c m (Sub.number n k) = k
  means_int b c m (Sub.list x y n k s) = let e : Ty-F.Int ≡ Ty-F.List x = differ b _ _ _ _ m n ty.outs-Int (ty.outs-List x) in cc
  means_int b c m (Sub.option x y n k s) = let e : Ty-F.Int ≡ Ty-F.Opt x = differ b _ _ _ _ m n ty.outs-Int (ty.outs-Opt x) in cc
  means_int b c m (Sub.variant w) = absurd (no_cases defs b _ m (ap (λ z. listed (named_at defs z)) ty.outs-Int) w.lower w.lower_cases)

  pub Sub-trans : (a b c : Ty) → Sub defs a b → Sub defs b c → Sub defs a c
  Sub-trans a b c (Sub.same r) s = after_same a b c r s
  Sub-trans a b c (Sub.number m n) s = Sub.number m (means_int b c n s)
  Sub-trans a b c (Sub.variant p) s = after_variant a b c p s
  Sub-trans a b c (Sub.list x y m n r) s = let f = above_list b c y n s in Sub.list x f.element m f.means (Sub-trans x y f.element r f.above)
  Sub-trans a b c (Sub.option x y m n r) s = let f = above_option b c y n s in Sub.option x f.element m f.means (Sub-trans x y f.element r f.above)
