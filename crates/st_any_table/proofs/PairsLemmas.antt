-- Pairs of types: what is asked of one is so exactly where the ways from it end.
use Rattle.std.proofs.Common.{◌≡◌, ◌↔◌, refl, sym, ap, ◌∙◌, subst, ℕ, zero, suc, ◌+◌, ◌<◌, ◌≤◌, List, [], ◌∷◌, ◌++◌, append_assoc, add-one, take, drop, drop-cons, get_or, length, Bool, Option, Some, None, arith, inl, inr, ◌⊎◌}
use Rattle.std.specs.Prelude.{IsTrue, MatchOption, slice_get, slice_index}
use Rattle.std.specs.Borrow.{Bor}
use Rattle.std.specs.Option.{option_copied}
use Rattle.std.proofs.lemmas.Option.{slice_get_within}
use Rattle.std.proofs.Math.Seq.{take-suc}
use Rattle.st_type_table.proofs.SearchLemmas.{take-whole}
use Rattle.std.proofs.lemmas.List.{append-nil, drop_all}
use Rattle.st_il.specs.declared.ty.Ty.{Ty, out-Ty, roll-Ty, roll-out-Ty}
use Rattle.st_il.specs.declared.ty.Ty.TheOpen.{Ty-F}
use Rattle.st_il.specs.declared.ty.Ty.TheVariants as ty
use Rattle.st_il.specs.declared.definition.SyntaxDef.{SyntaxDef}
use Rattle.st_type_table.specs.declared.entry.CaseDef.{CaseDef}
use Rattle.st_type_table.specs.Meaning.{Means, named_at, listed}
use Rattle.st_type_table.specs.Cases.{HasCases, operands_of}
use Rattle.st_type_table.specs.Same.{Same, SameAll}
use Rattle.st_type_table.specs.Sub.{Sub, StandsIn, AllStandIn, IsContained}
use Rattle.st_type_table.specs.inner.TypedLevels.{HasOperands}
use Rattle.st_type_table.specs.inner.Graph.{Graph, IsOne, EndsAt, AreRanks}
use Rattle.st_type_table.proofs.MeansLemmas.{Means-single}
use Rattle.st_type_table.proofs.SameLemmas.{moved}
use Rattle.st_type_table.proofs.CasesLemmas.{HasCases-single}
use Rattle.st_any_table.specs.inner.Flats.{Alike, IsCase, one_case, cases_at, HasFlat}
use Rattle.st_any_table.specs.inner.Pairs.{Pairs, Grows, AreNumbered, AreApart, EqualWaits, BelowWaits, IsExplored, PartsSame, PartsWait, ElementsWait, BelowHere, AreNumbers, EachStandsIn}

-- ---- pairs behind others

pub Grows-refl : (pairs : Pairs) → Grows pairs pairs
Grows-refl pairs = ([], sym (append-nil pairs))

pub Grows-one : (pairs pairs' : Pairs) (p : Ty × Ty) → pairs' ≡ pairs ++ p ∷ [] → Grows pairs pairs'
Grows-one pairs pairs' p e = (p ∷ [], e)

pub Grows-trans : (a b c : Pairs) → Grows a b → Grows b c → Grows a c
Grows-trans a b c (m, e) (n, f) = (m ++ n, f ∙ ap (λ z. z ++ n) e ∙ append_assoc a m n)

get-front : (xs ys : Pairs) (k : ℕ) (p : Ty × Ty) → slice_get xs k ≡ Some p → slice_get (xs ++ ys) k ≡ Some p
get-front [] ys k p e = cc
get-front (x ∷ xs) ys zero p e = e
get-front (x ∷ xs) ys (suc k) p e = get-front xs ys k p e

pub at-grow : (before after : Pairs) (k : ℕ) (p : Ty × Ty) → Grows before after → slice_get before k ≡ Some p → slice_get after k ≡ Some p
at-grow before after k p (more, e) g = ap (λ z. slice_get z k) e ∙ get-front before more k p g

pub at-end : (pairs : Pairs) (p : Ty × Ty) → slice_get (pairs ++ p ∷ []) (length pairs) ≡ Some p
at-end [] p = refl
at-end (x ∷ xs) p = at-end xs p

pub AreNumbered-grow : (before after : Pairs) (ks : List ℕ) (xs ys : List Ty) → Grows before after → AreNumbered before ks xs ys → AreNumbered after ks xs ys
AreNumbered-grow before after [] [] [] g AreNumbered.none = AreNumbered.none
AreNumbered-grow before after [] [] (y ∷ ys) g n = elim n [ ]
AreNumbered-grow before after [] (x ∷ xs) ys g n = elim n [ ]
AreNumbered-grow before after (k ∷ ks) [] ys g n = elim n [ ]
AreNumbered-grow before after (k ∷ ks) (x ∷ xs) [] g n = elim n [ ]
AreNumbered-grow before after (k ∷ ks) (x ∷ xs) (y ∷ ys) g (AreNumbered.more e n) = AreNumbered.more (at-grow before after k (x, y) g e) (AreNumbered-grow before after ks xs ys g n)

pub AreNumbered-end : (pairs : Pairs) (ks : List ℕ) (xs ys : List Ty) (k : ℕ) (x y : Ty) → AreNumbered pairs ks xs ys → slice_get pairs k ≡ Some (x, y)
    → AreNumbered pairs (ks ++ k ∷ []) (xs ++ x ∷ []) (ys ++ y ∷ [])
AreNumbered-end pairs [] [] [] k x y AreNumbered.none e = AreNumbered.more e AreNumbered.none
AreNumbered-end pairs [] [] (w ∷ ys) k x y n e = elim n [ ]
AreNumbered-end pairs [] (v ∷ xs) ys k x y n e = elim n [ ]
AreNumbered-end pairs (j ∷ ks) [] ys k x y n e = elim n [ ]
AreNumbered-end pairs (j ∷ ks) (v ∷ xs) [] k x y n e = elim n [ ]
AreNumbered-end pairs (j ∷ ks) (v ∷ xs) (w ∷ ys) k x y (AreNumbered.more f n) e = AreNumbered.more f (AreNumbered-end pairs ks xs ys k x y n e)

take-next : (xs : List Ty) (i : ℕ) (x : Ty) → i < length xs → x ≡ get_or xs i x → take (i + 1) xs ≡ take i xs ++ x ∷ []
take-next xs i x h e = rw (add-one, take-suc xs i x h) (ap (λ z. take i xs ++ z ∷ []) (sym e))

pub numbered-next : (before after : Pairs) (ks ks' : List ℕ) (xs ys : List Ty) (i k : ℕ) (x y : Ty) → i < length xs → i < length ys → x ≡ get_or xs i x → y ≡ get_or ys i y → Grows before after
    → AreNumbered before ks (take i xs) (take i ys) → slice_get after k ≡ Some (x, y) → ks' ≡ ks ++ k ∷ [] → AreNumbered after ks' (take (i + 1) xs) (take (i + 1) ys)
numbered-next before after ks ks' xs ys i k x y h l e f g n there q =
    subst (λ z. AreNumbered after z (take (i + 1) xs) (take (i + 1) ys)) (sym q)
    (subst (λ z. AreNumbered after (ks ++ k ∷ []) z (take (i + 1) ys)) (sym (take-next xs i x h e))
    (subst (λ z. AreNumbered after (ks ++ k ∷ []) (take i xs ++ x ∷ []) z) (sym (take-next ys i y l f))
    (AreNumbered-end after ks (take i xs) (take i ys) k x y (AreNumbered-grow before after ks (take i xs) (take i ys) g n) there)))

pub numbered-end : (pairs : Pairs) (ks : List ℕ) (xs ys : List Ty) (i : ℕ) → length xs ≤ i → length ys ≤ i → AreNumbered pairs ks (take i xs) (take i ys) → AreNumbered pairs ks xs ys
numbered-end pairs ks xs ys i h l n = subst (λ z. AreNumbered pairs ks z ys) (take-whole xs i h) (subst (λ z. AreNumbered pairs ks (take i xs) z) (take-whole ys i l) n)

-- ---- one level of two types

list-one : (x y : Ty) → ty.List x ≡ ty.List y → x ≡ y
list-one x y q = let e : Ty-F.List x ≡ Ty-F.List y = sym (ty.outs-List x) ∙ ap out-Ty q ∙ ty.outs-List y in cc

option-one : (x y : Ty) → ty.Opt x ≡ ty.Opt y → x ≡ y
option-one x y q = let e : Ty-F.Opt x ≡ Ty-F.Opt y = sym (ty.outs-Opt x) ∙ ap out-Ty q ∙ ty.outs-Opt y in cc

tuple-one : (xs ys : List Ty) → ty.Tuple xs ≡ ty.Tuple ys → xs ≡ ys
tuple-one xs ys q = let e : Ty-F.Tuple xs ≡ Ty-F.Tuple ys = sym (ty.outs-Tuple xs) ∙ ap out-Ty q ∙ ty.outs-Tuple ys in cc

list-option : (x y : Ty) → ty.List x ≡ ty.Opt y → ⊥
list-option x y q = let e : Ty-F.List x ≡ Ty-F.Opt y = sym (ty.outs-List x) ∙ ap out-Ty q ∙ ty.outs-Opt y in cc

list-tuple : (x : Ty) (ys : List Ty) → ty.List x ≡ ty.Tuple ys → ⊥
list-tuple x ys q = let e : Ty-F.List x ≡ Ty-F.Tuple ys = sym (ty.outs-List x) ∙ ap out-Ty q ∙ ty.outs-Tuple ys in cc

option-tuple : (x : Ty) (ys : List Ty) → ty.Opt x ≡ ty.Tuple ys → ⊥
option-tuple x ys q = let e : Ty-F.Opt x ≡ Ty-F.Tuple ys = sym (ty.outs-Opt x) ∙ ap out-Ty q ∙ ty.outs-Tuple ys in cc

nat-list : (x : Ty) → ty.Nat ≡ ty.List x → ⊥
nat-list x q = let e : Ty-F.Nat ≡ Ty-F.List x = sym ty.outs-Nat ∙ ap out-Ty q ∙ ty.outs-List x in cc

nat-option : (x : Ty) → ty.Nat ≡ ty.Opt x → ⊥
nat-option x q = let e : Ty-F.Nat ≡ Ty-F.Opt x = sym ty.outs-Nat ∙ ap out-Ty q ∙ ty.outs-Opt x in cc

module _ (defs : List SyntaxDef) where
  opened : (a b u w : Ty) → Means defs a u → Means defs b w → Same defs a b → (u ≡ w) ⊎ PartsSame defs (out-Ty u) (out-Ty w)
  opened a b u w m n (Same.equal t p q) = inl (Means-single defs a u t m p ∙ sym (Means-single defs b w t n q))
  opened a b u w m n (Same.list x y p q s) = inr (moved defs (PartsSame defs) {k = Ty-F.List x} {n = Ty-F.List y}
      (ap out-Ty (Means-single defs a u (ty.List x) m p) ∙ ty.outs-List x) (ap out-Ty (Means-single defs b w (ty.List y) n q) ∙ ty.outs-List y) s)
  opened a b u w m n (Same.option x y p q s) = inr (moved defs (PartsSame defs) {k = Ty-F.Opt x} {n = Ty-F.Opt y}
      (ap out-Ty (Means-single defs a u (ty.Opt x) m p) ∙ ty.outs-Opt x) (ap out-Ty (Means-single defs b w (ty.Opt y) n q) ∙ ty.outs-Opt y) s)
  opened a b u w m n (Same.tuple xs ys p q s) = inr (moved defs (PartsSame defs) {k = Ty-F.Tuple xs} {n = Ty-F.Tuple ys}
      (ap out-Ty (Means-single defs a u (ty.Tuple xs) m p) ∙ ty.outs-Tuple xs) (ap out-Ty (Means-single defs b w (ty.Tuple ys) n q) ∙ ty.outs-Tuple ys) s)

  SameAll-length : (xs ys : List Ty) → SameAll defs xs ys → length xs ≡ length ys
  SameAll-length [] [] s = refl
  SameAll-length [] (y ∷ ys) s = elim s [ ]
  SameAll-length (x ∷ xs) [] s = elim s [ ]
  SameAll-length (x ∷ xs) (y ∷ ys) (SameAll.more s r) = ap suc (SameAll-length xs ys r)

  -- two meanings that are not one are equal by their parts alone
  pub parts-waits : (pairs : Pairs) (a b u w : Ty) (waited : Option (List ℕ)) → Means defs a u → Means defs b w → (u ≡ w → ⊥) → PartsWait pairs (out-Ty u) (out-Ty w) waited
      → EqualWaits defs pairs a b waited
  parts-waits pairs a b u w waited m n d h = by (out-Ty u) (out-Ty w) refl refl h
    where
      apart : AreApart defs a b
      apart t p q = d (Means-single defs a u t m p ∙ sym (Means-single defs b w t n q))

      never : (l k : Ty-F Ty) → out-Ty u ≡ l → out-Ty w ≡ k → (PartsSame defs l k → ⊥) → Same defs a b → ⊥
      never l k p q none s = at (opened a b u w m n s)
        where
          at : (u ≡ w) ⊎ PartsSame defs (out-Ty u) (out-Ty w) → ⊥
          at (inl e) = d e
          at (inr r) = none (moved defs (PartsSame defs) (sym p) (sym q) r)

      whole : (t : Ty) (l : Ty-F Ty) → out-Ty t ≡ l → t ≡ roll-Ty l
      whole t l p = sym (roll-out-Ty t) ∙ ap roll-Ty p

      by : (l k : Ty-F Ty) → out-Ty u ≡ l → out-Ty w ≡ k → PartsWait pairs l k waited → EqualWaits defs pairs a b waited
      by (Ty-F.List x) (Ty-F.List y) p q (k, e) =
          EqualWaits.list k x y (subst (Means defs a) (whole u (Ty-F.List x) p ∙ ty.rolls-List x) m) (subst (Means defs b) (whole w (Ty-F.List y) q ∙ ty.rolls-List y) n) apart e.0 e.1
      by (Ty-F.Opt x) (Ty-F.Opt y) p q (k, e) =
          EqualWaits.option k x y (subst (Means defs a) (whole u (Ty-F.Opt x) p ∙ ty.rolls-Opt x) m) (subst (Means defs b) (whole w (Ty-F.Opt y) q ∙ ty.rolls-Opt y) n) apart e.0 e.1
      by (Ty-F.Tuple xs) (Ty-F.Tuple ys) p q (inl (ks, e)) =
          EqualWaits.tuple ks xs ys (subst (Means defs a) (whole u (Ty-F.Tuple xs) p ∙ ty.rolls-Tuple xs) m) (subst (Means defs b) (whole w (Ty-F.Tuple ys) q ∙ ty.rolls-Tuple ys) n) apart e.0 e.1
      by (Ty-F.Tuple xs) (Ty-F.Tuple ys) p q (inr e) = EqualWaits.never (never (Ty-F.Tuple xs) (Ty-F.Tuple ys) p q (λ s. e.0 (SameAll-length xs ys s))) e.1
      by l k p q z = EqualWaits.never (never l k p q (λ s. s)) z

  -- a type without a meaning is equal to none
  left-means : (a b : Ty) → Same defs a b → (u : Ty) × Means defs a u
  left-means a b (Same.equal t p q) = (t, p)
  left-means a b (Same.list x y p q s) = (ty.List x, p)
  left-means a b (Same.option x y p q s) = (ty.Opt x, p)
  left-means a b (Same.tuple xs ys p q s) = (ty.Tuple xs, p)

  right-means : (a b : Ty) → Same defs a b → (u : Ty) × Means defs b u
  right-means a b (Same.equal t p q) = (t, q)
  right-means a b (Same.list x y p q s) = (ty.List y, q)
  right-means a b (Same.option x y p q s) = (ty.Opt y, q)
  right-means a b (Same.tuple xs ys p q s) = (ty.Tuple ys, q)

  pub no-left : (a b : Ty) → ((u : Ty) → Means defs a u → ⊥) → Same defs a b → ⊥
  no-left a b n s = let m = left-means a b s in n m.0 m.1

  pub no-right : (a b : Ty) → ((u : Ty) → Means defs b u → ⊥) → Same defs a b → ⊥
  no-right a b n s = let m = right-means a b s in n m.0 m.1

  -- ---- equal types, by a graph

  module _ (pairs : Pairs) (graph : Graph)
      (waits : (k : ℕ) (p : Ty × Ty) (waited : Option (List ℕ)) → slice_get pairs k ≡ Some p → slice_get graph k ≡ Some waited → EqualWaits defs pairs p.0 p.1 waited)
      (total : (k : ℕ) (p : Ty × Ty) → slice_get pairs k ≡ Some p → (waited : Option (List ℕ)) × (slice_get graph k ≡ Some waited)) where
    numbered-same : (ks : List ℕ) (xs ys : List Ty) → AreNumbered pairs ks xs ys → ((j : ℕ) → IsOne ks j → (q : Ty × Ty) → slice_get pairs j ≡ Some q → Same defs q.0 q.1) → SameAll defs xs ys
    numbered-same [] [] [] AreNumbered.none rec = SameAll.none
    numbered-same [] [] (y ∷ ys) n rec = elim n [ ]
    numbered-same [] (x ∷ xs) ys n rec = elim n [ ]
    numbered-same (k ∷ ks) [] ys n rec = elim n [ ]
    numbered-same (k ∷ ks) (x ∷ xs) [] n rec = elim n [ ]
    numbered-same (k ∷ ks) (x ∷ xs) (y ∷ ys) (AreNumbered.more e n) rec = SameAll.more (rec k (inl refl) (x, y) e) (numbered-same ks xs ys n (λ j m. rec j (inr m)))

    waits-same : (a b : Ty) (next : List ℕ) → EqualWaits defs pairs a b (Some next) → ((j : ℕ) → IsOne next j → (q : Ty × Ty) → slice_get pairs j ≡ Some q → Same defs q.0 q.1) → Same defs a b
    waits-same a b next (EqualWaits.equal t m n z) rec = Same.equal t m n
    waits-same a b next (EqualWaits.list k x y m n d e z) rec =
        let q : next ≡ k ∷ [] = cc in Same.list x y m n (rec k (subst (λ ns. IsOne ns k) (sym q) (inl refl)) (x, y) e)
    waits-same a b next (EqualWaits.option k x y m n d e z) rec =
        let q : next ≡ k ∷ [] = cc in Same.option x y m n (rec k (subst (λ ns. IsOne ns k) (sym q) (inl refl)) (x, y) e)
    waits-same a b next (EqualWaits.tuple ks xs ys m n d e z) rec =
        let q : next ≡ ks = cc in Same.tuple xs ys m n (numbered-same ks xs ys e (λ j i. rec j (subst (λ ns. IsOne ns j) (sym q) i)))
    waits-same a b next (EqualWaits.never f z) rec = cc

    pub ends-same : (k : ℕ) → EndsAt graph k → (p : Ty × Ty) → slice_get pairs k ≡ Some p → Same defs p.0 p.1
    ends-same k (EndsAt.ends next g all) p e = waits-same p.0 p.1 next (waits k p (Some next) e g) (λ j m q f. ends-same j (all j m) q f)

    ends-none : (k : ℕ) (waited : Option (List ℕ)) → slice_get graph k ≡ Some waited → waited ≡ Some [] → EndsAt graph k
    ends-none k waited g z = EndsAt.ends [] (g ∙ ap Some z) (λ j m. absurd m)

    ends-one : (k j : ℕ) (waited : Option (List ℕ)) → slice_get graph k ≡ Some waited → waited ≡ Some (j ∷ []) → EndsAt graph j → EndsAt graph k
    ends-one k j waited g z h = EndsAt.ends (j ∷ []) (g ∙ ap Some z) (λ i m. by i m)
      where
        by : (i : ℕ) → IsOne (j ∷ []) i → EndsAt graph i
        by i (inl q) = subst (EndsAt graph) (sym q) h
        by i (inr m) = absurd m

    equal-ends : (a b t : Ty) (k : ℕ) (waited : Option (List ℕ)) → Means defs a t → Means defs b t → slice_get graph k ≡ Some waited → EqualWaits defs pairs a b waited → EndsAt graph k
    equal-ends a b t k waited m n g (EqualWaits.equal u p q z) = ends-none k waited g z
    equal-ends a b t k waited m n g (EqualWaits.list j x y p q d e z) = absurd (d t m n)
    equal-ends a b t k waited m n g (EqualWaits.option j x y p q d e z) = absurd (d t m n)
    equal-ends a b t k waited m n g (EqualWaits.tuple ks xs ys p q d e z) = absurd (d t m n)
    equal-ends a b t k waited m n g (EqualWaits.never f z) = absurd (f (Same.equal t m n))

    list-ends : (a b x y : Ty) (k : ℕ) (waited : Option (List ℕ)) → Means defs a (ty.List x) → Means defs b (ty.List y) → Same defs a b → ((j : ℕ) → slice_get pairs j ≡ Some (x, y) → EndsAt graph j)
        → slice_get graph k ≡ Some waited → EqualWaits defs pairs a b waited → EndsAt graph k
    list-ends a b x y k waited m n s rec g (EqualWaits.equal u p q z) = ends-none k waited g z
    list-ends a b x y k waited m n s rec g (EqualWaits.list j x' y' p q d e z) =
        let v = list-one x' x (Means-single defs a (ty.List x') (ty.List x) p m) in
        let w = list-one y' y (Means-single defs b (ty.List y') (ty.List y) q n) in
        ends-one k j waited g z (rec j (e ∙ (λ i. Some (v i, w i))))
    list-ends a b x y k waited m n s rec g (EqualWaits.option j x' y' p q d e z) = absurd (list-option x x' (Means-single defs a (ty.List x) (ty.Opt x') m p))
    list-ends a b x y k waited m n s rec g (EqualWaits.tuple ks xs ys p q d e z) = absurd (list-tuple x xs (Means-single defs a (ty.List x) (ty.Tuple xs) m p))
    list-ends a b x y k waited m n s rec g (EqualWaits.never f z) = absurd (f s)

    option-ends : (a b x y : Ty) (k : ℕ) (waited : Option (List ℕ)) → Means defs a (ty.Opt x) → Means defs b (ty.Opt y) → Same defs a b → ((j : ℕ) → slice_get pairs j ≡ Some (x, y) → EndsAt graph j)
        → slice_get graph k ≡ Some waited → EqualWaits defs pairs a b waited → EndsAt graph k
    option-ends a b x y k waited m n s rec g (EqualWaits.equal u p q z) = ends-none k waited g z
    option-ends a b x y k waited m n s rec g (EqualWaits.option j x' y' p q d e z) =
        let v = option-one x' x (Means-single defs a (ty.Opt x') (ty.Opt x) p m) in
        let w = option-one y' y (Means-single defs b (ty.Opt y') (ty.Opt y) q n) in
        ends-one k j waited g z (rec j (e ∙ (λ i. Some (v i, w i))))
    option-ends a b x y k waited m n s rec g (EqualWaits.list j x' y' p q d e z) = absurd (list-option x' x (Means-single defs a (ty.List x') (ty.Opt x) p m))
    option-ends a b x y k waited m n s rec g (EqualWaits.tuple ks xs ys p q d e z) = absurd (option-tuple x xs (Means-single defs a (ty.Opt x) (ty.Tuple xs) m p))
    option-ends a b x y k waited m n s rec g (EqualWaits.never f z) = absurd (f s)

    tuple-ends : (a b : Ty) (xs ys : List Ty) (k : ℕ) (waited : Option (List ℕ)) → Means defs a (ty.Tuple xs) → Means defs b (ty.Tuple ys) → Same defs a b
        → ((ks : List ℕ) → AreNumbered pairs ks xs ys → (j : ℕ) → IsOne ks j → EndsAt graph j) → slice_get graph k ≡ Some waited → EqualWaits defs pairs a b waited → EndsAt graph k
    tuple-ends a b xs ys k waited m n s rec g (EqualWaits.equal u p q z) = ends-none k waited g z
    tuple-ends a b xs ys k waited m n s rec g (EqualWaits.list j x' y' p q d e z) = absurd (list-tuple x' xs (Means-single defs a (ty.List x') (ty.Tuple xs) p m))
    tuple-ends a b xs ys k waited m n s rec g (EqualWaits.option j x' y' p q d e z) = absurd (option-tuple x' xs (Means-single defs a (ty.Opt x') (ty.Tuple xs) p m))
    tuple-ends a b xs ys k waited m n s rec g (EqualWaits.tuple ks xs' ys' p q d e z) =
        let v = tuple-one xs' xs (Means-single defs a (ty.Tuple xs') (ty.Tuple xs) p m) in
        let w = tuple-one ys' ys (Means-single defs b (ty.Tuple ys') (ty.Tuple ys) q n) in
        EndsAt.ends ks (g ∙ ap Some z) (rec ks (subst (λ zs. AreNumbered pairs ks zs ys) v (subst (λ zs. AreNumbered pairs ks xs' zs) w e)))
    tuple-ends a b xs ys k waited m n s rec g (EqualWaits.never f z) = absurd (f s)

    first-rest : (k : ℕ) (ks : List ℕ) → EndsAt graph k → ((j : ℕ) → IsOne ks j → EndsAt graph j) → (j : ℕ) → IsOne (k ∷ ks) j → EndsAt graph j
    first-rest k ks h rest j (inl q) = subst (EndsAt graph) (sym q) h
    first-rest k ks h rest j (inr m) = rest j m

    mutual
      pub same-ends : (a b : Ty) (k : ℕ) → slice_get pairs k ≡ Some (a, b) → Same defs a b → EndsAt graph k
      same-ends a b k e (Same.equal t p q) = let g = total k (a, b) e in equal-ends a b t k g.0 p q g.1 (waits k (a, b) g.0 e g.1)
      same-ends a b k e (Same.list x y p q s) = let g = total k (a, b) e in list-ends a b x y k g.0 p q (Same.list x y p q s) (λ j f. same-ends x y j f s) g.1 (waits k (a, b) g.0 e g.1)
      same-ends a b k e (Same.option x y p q s) = let g = total k (a, b) e in option-ends a b x y k g.0 p q (Same.option x y p q s) (λ j f. same-ends x y j f s) g.1 (waits k (a, b) g.0 e g.1)
      same-ends a b k e (Same.tuple xs ys p q s) = let g = total k (a, b) e in tuple-ends a b xs ys k g.0 p q (Same.tuple xs ys p q s) (λ ks f. all-end xs ys ks f s) g.1 (waits k (a, b) g.0 e g.1)

      all-end : (xs ys : List Ty) (ks : List ℕ) → AreNumbered pairs ks xs ys → SameAll defs xs ys → (j : ℕ) → IsOne ks j → EndsAt graph j
      all-end [] [] [] AreNumbered.none s = λ j m. absurd m
      all-end [] [] (k ∷ ks) n s = elim n [ ]
      all-end [] (y ∷ ys) ks n s = elim s [ ]
      all-end (x ∷ xs) [] ks n s = elim s [ ]
      all-end (x ∷ xs) (y ∷ ys) [] n s = elim n [ ]
      all-end (x ∷ xs) (y ∷ ys) (k ∷ ks) (AreNumbered.more e n) (SameAll.more s r) = first-rest k ks (same-ends x y k e s) (all-end xs ys ks n r)

  -- ---- types below others, by a graph

  abbrev AreLists : Ty-F Ty → Ty-F Ty → Type 0
  AreLists (Ty-F.List x) (Ty-F.List y) = Unit {0}
  AreLists (Ty-F.Opt x) (Ty-F.Opt y) = Unit {0}
  AreLists _ _ = ⊥

  pub elements-waits : (pairs : Pairs) (a b u w : Ty) (waited : Option (List ℕ)) → Means defs a u → Means defs b w → (BelowHere defs a b → ⊥) → ElementsWait pairs (out-Ty u) (out-Ty w) waited
      → BelowWaits defs pairs a b waited
  elements-waits pairs a b u w waited m n d h = by (out-Ty u) (out-Ty w) refl refl h
    where
      lists : Sub defs a b → AreLists (out-Ty u) (out-Ty w)
      lists (Sub.same s) = absurd (d (inl s))
      lists (Sub.number p q) = absurd (d (inr (inl (p, q))))
      lists (Sub.variant c) = absurd (d (inr (inr c)))
      lists (Sub.list x y p q s) = moved defs AreLists {k = Ty-F.List x} {n = Ty-F.List y}
          (ap out-Ty (Means-single defs a u (ty.List x) m p) ∙ ty.outs-List x) (ap out-Ty (Means-single defs b w (ty.List y) n q) ∙ ty.outs-List y) tt
      lists (Sub.option x y p q s) = moved defs AreLists {k = Ty-F.Opt x} {n = Ty-F.Opt y}
          (ap out-Ty (Means-single defs a u (ty.Opt x) m p) ∙ ty.outs-Opt x) (ap out-Ty (Means-single defs b w (ty.Opt y) n q) ∙ ty.outs-Opt y) tt

      whole : (t : Ty) (l : Ty-F Ty) → out-Ty t ≡ l → t ≡ roll-Ty l
      whole t l p = sym (roll-out-Ty t) ∙ ap roll-Ty p

      never : (l k : Ty-F Ty) → out-Ty u ≡ l → out-Ty w ≡ k → (AreLists l k → ⊥) → Sub defs a b → ⊥
      never l k p q none s = none (moved defs AreLists (sym p) (sym q) (lists s))

      by : (l k : Ty-F Ty) → out-Ty u ≡ l → out-Ty w ≡ k → ElementsWait pairs l k waited → BelowWaits defs pairs a b waited
      by (Ty-F.List x) (Ty-F.List y) p q (k, e) =
          BelowWaits.list k x y (subst (Means defs a) (whole u (Ty-F.List x) p ∙ ty.rolls-List x) m) (subst (Means defs b) (whole w (Ty-F.List y) q ∙ ty.rolls-List y) n) (λ s. d (inl s)) e.0 e.1
      by (Ty-F.Opt x) (Ty-F.Opt y) p q (k, e) =
          BelowWaits.option k x y (subst (Means defs a) (whole u (Ty-F.Opt x) p ∙ ty.rolls-Opt x) m) (subst (Means defs b) (whole w (Ty-F.Opt y) q ∙ ty.rolls-Opt y) n) (λ s. d (inl s)) e.0 e.1
      by l k p q z = BelowWaits.never (never l k p q (λ s. s)) z

  pub below-here : (a b : Ty) → BelowHere defs a b → Sub defs a b
  below-here a b (inl s) = Sub.same s
  below-here a b (inr (inl p)) = Sub.number p.0 p.1
  below-here a b (inr (inr c)) = Sub.variant c

  -- what is below another without a meaning of both is so by no elements
  pub no-below : (a b : Ty) → (BelowHere defs a b → ⊥) → ((u w : Ty) → Means defs a u → Means defs b w → ⊥) → Sub defs a b → ⊥
  no-below a b d n (Sub.same s) = d (inl s)
  no-below a b d n (Sub.number p q) = d (inr (inl (p, q)))
  no-below a b d n (Sub.variant c) = d (inr (inr c))
  no-below a b d n (Sub.list x y p q s) = n (ty.List x) (ty.List y) p q
  no-below a b d n (Sub.option x y p q s) = n (ty.Opt x) (ty.Opt y) p q

  no-list-cases : (a x : Ty) (cs : List CaseDef) → Means defs a (ty.List x) → HasCases defs a cs → ⊥
  no-list-cases a x cs m h =
      let e = Means-single defs a h.variant (ty.List x) h.means m in
      let z : None ≡ Some h.alternatives = sym (ap (λ l. listed (named_at defs l)) (ap out-Ty e ∙ ty.outs-List x)) ∙ h.declared in
      cc

  no-option-cases : (a x : Ty) (cs : List CaseDef) → Means defs a (ty.Opt x) → HasCases defs a cs → ⊥
  no-option-cases a x cs m h =
      let e = Means-single defs a h.variant (ty.Opt x) h.means m in
      let z : None ≡ Some h.alternatives = sym (ap (λ l. listed (named_at defs l)) (ap out-Ty e ∙ ty.outs-Opt x)) ∙ h.declared in
      cc

  module _ (pairs : Pairs) (graph : Graph)
      (waits : (k : ℕ) (p : Ty × Ty) (waited : Option (List ℕ)) → slice_get pairs k ≡ Some p → slice_get graph k ≡ Some waited → BelowWaits defs pairs p.0 p.1 waited)
      (total : (k : ℕ) (p : Ty × Ty) → slice_get pairs k ≡ Some p → (waited : Option (List ℕ)) × (slice_get graph k ≡ Some waited)) where
    waits-sub : (a b : Ty) (next : List ℕ) → BelowWaits defs pairs a b (Some next) → ((j : ℕ) → IsOne next j → (q : Ty × Ty) → slice_get pairs j ≡ Some q → Sub defs q.0 q.1) → Sub defs a b
    waits-sub a b next (BelowWaits.holds s z) rec = s
    waits-sub a b next (BelowWaits.list k x y m n d e z) rec =
        let q : next ≡ k ∷ [] = cc in Sub.list x y m n (rec k (subst (λ ns. IsOne ns k) (sym q) (inl refl)) (x, y) e)
    waits-sub a b next (BelowWaits.option k x y m n d e z) rec =
        let q : next ≡ k ∷ [] = cc in Sub.option x y m n (rec k (subst (λ ns. IsOne ns k) (sym q) (inl refl)) (x, y) e)
    waits-sub a b next (BelowWaits.never f z) rec = cc

    pub ends-sub : (k : ℕ) → EndsAt graph k → (p : Ty × Ty) → slice_get pairs k ≡ Some p → Sub defs p.0 p.1
    ends-sub k (EndsAt.ends next g all) p e = waits-sub p.0 p.1 next (waits k p (Some next) e g) (λ j m q f. ends-sub j (all j m) q f)

    below-none : (k : ℕ) (waited : Option (List ℕ)) → slice_get graph k ≡ Some waited → waited ≡ Some [] → EndsAt graph k
    below-none k waited g z = EndsAt.ends [] (g ∙ ap Some z) (λ j m. absurd m)

    below-one : (k j : ℕ) (waited : Option (List ℕ)) → slice_get graph k ≡ Some waited → waited ≡ Some (j ∷ []) → EndsAt graph j → EndsAt graph k
    below-one k j waited g z h = EndsAt.ends (j ∷ []) (g ∙ ap Some z) (λ i m. by i m)
      where
        by : (i : ℕ) → IsOne (j ∷ []) i → EndsAt graph i
        by i (inl q) = subst (EndsAt graph) (sym q) h
        by i (inr m) = absurd m

    sub-by-same : (a b : Ty) (k : ℕ) (waited : Option (List ℕ)) → Same defs a b → slice_get graph k ≡ Some waited → BelowWaits defs pairs a b waited → EndsAt graph k
    sub-by-same a b k waited s g (BelowWaits.holds t z) = below-none k waited g z
    sub-by-same a b k waited s g (BelowWaits.list j x y m n d e z) = absurd (d s)
    sub-by-same a b k waited s g (BelowWaits.option j x y m n d e z) = absurd (d s)
    sub-by-same a b k waited s g (BelowWaits.never f z) = absurd (f (Sub.same s))

    sub-by-number : (a b : Ty) (k : ℕ) (waited : Option (List ℕ)) → Means defs a ty.Nat → Means defs b ty.Int → slice_get graph k ≡ Some waited → BelowWaits defs pairs a b waited → EndsAt graph k
    sub-by-number a b k waited p q g (BelowWaits.holds t z) = below-none k waited g z
    sub-by-number a b k waited p q g (BelowWaits.list j x y m n d e z) = absurd (nat-list x (Means-single defs a ty.Nat (ty.List x) p m))
    sub-by-number a b k waited p q g (BelowWaits.option j x y m n d e z) = absurd (nat-option x (Means-single defs a ty.Nat (ty.Opt x) p m))
    sub-by-number a b k waited p q g (BelowWaits.never f z) = absurd (f (Sub.number p q))

    sub-by-variant : (a b : Ty) (k : ℕ) (waited : Option (List ℕ)) → IsContained defs a b → slice_get graph k ≡ Some waited → BelowWaits defs pairs a b waited → EndsAt graph k
    sub-by-variant a b k waited c g (BelowWaits.holds t z) = below-none k waited g z
    sub-by-variant a b k waited c g (BelowWaits.list j x y m n d e z) = absurd (no-list-cases a x c.lower m c.lower_cases)
    sub-by-variant a b k waited c g (BelowWaits.option j x y m n d e z) = absurd (no-option-cases a x c.lower m c.lower_cases)
    sub-by-variant a b k waited c g (BelowWaits.never f z) = absurd (f (Sub.variant c))

    sub-by-list : (a b x y : Ty) (k : ℕ) (waited : Option (List ℕ)) → Means defs a (ty.List x) → Means defs b (ty.List y) → Sub defs a b → ((j : ℕ) → slice_get pairs j ≡ Some (x, y) → EndsAt graph j)
        → slice_get graph k ≡ Some waited → BelowWaits defs pairs a b waited → EndsAt graph k
    sub-by-list a b x y k waited m n s rec g (BelowWaits.holds t z) = below-none k waited g z
    sub-by-list a b x y k waited m n s rec g (BelowWaits.list j x' y' p q d e z) =
        let v = list-one x' x (Means-single defs a (ty.List x') (ty.List x) p m) in
        let w = list-one y' y (Means-single defs b (ty.List y') (ty.List y) q n) in
        below-one k j waited g z (rec j (e ∙ (λ i. Some (v i, w i))))
    sub-by-list a b x y k waited m n s rec g (BelowWaits.option j x' y' p q d e z) = absurd (list-option x x' (Means-single defs a (ty.List x) (ty.Opt x') m p))
    sub-by-list a b x y k waited m n s rec g (BelowWaits.never f z) = absurd (f s)

    sub-by-option : (a b x y : Ty) (k : ℕ) (waited : Option (List ℕ)) → Means defs a (ty.Opt x) → Means defs b (ty.Opt y) → Sub defs a b → ((j : ℕ) → slice_get pairs j ≡ Some (x, y) → EndsAt graph j)
        → slice_get graph k ≡ Some waited → BelowWaits defs pairs a b waited → EndsAt graph k
    sub-by-option a b x y k waited m n s rec g (BelowWaits.holds t z) = below-none k waited g z
    sub-by-option a b x y k waited m n s rec g (BelowWaits.option j x' y' p q d e z) =
        let v = option-one x' x (Means-single defs a (ty.Opt x') (ty.Opt x) p m) in
        let w = option-one y' y (Means-single defs b (ty.Opt y') (ty.Opt y) q n) in
        below-one k j waited g z (rec j (e ∙ (λ i. Some (v i, w i))))
    sub-by-option a b x y k waited m n s rec g (BelowWaits.list j x' y' p q d e z) = absurd (list-option x' x (Means-single defs a (ty.List x') (ty.Opt x) p m))
    sub-by-option a b x y k waited m n s rec g (BelowWaits.never f z) = absurd (f s)

    pub sub-ends : (a b : Ty) (k : ℕ) → slice_get pairs k ≡ Some (a, b) → Sub defs a b → EndsAt graph k
    sub-ends a b k e (Sub.same s) = let g = total k (a, b) e in sub-by-same a b k g.0 s g.1 (waits k (a, b) g.0 e g.1)
    sub-ends a b k e (Sub.number p q) = let g = total k (a, b) e in sub-by-number a b k g.0 p q g.1 (waits k (a, b) g.0 e g.1)
    sub-ends a b k e (Sub.variant c) = let g = total k (a, b) e in sub-by-variant a b k g.0 c g.1 (waits k (a, b) g.0 e g.1)
    sub-ends a b k e (Sub.list x y p q s) = let g = total k (a, b) e in sub-by-list a b x y k g.0 p q (Sub.list x y p q s) (λ j f. sub-ends x y j f s) g.1 (waits k (a, b) g.0 e g.1)
    sub-ends a b k e (Sub.option x y p q s) = let g = total k (a, b) e in sub-by-option a b x y k g.0 p q (Sub.option x y p q s) (λ j f. sub-ends x y j f s) g.1 (waits k (a, b) g.0 e g.1)

  -- ---- contained variants

  stands-alike : (c : CaseDef) (cs ds : List CaseDef) → Alike cs ds → StandsIn defs c cs → StandsIn defs c ds
  stands-alike c cs ds a s = record { operands = s.operands; found = sym (a.first c.tag) ∙ s.found; equal = s.equal }

  stands-back : (c : CaseDef) (cs ds : List CaseDef) → Alike cs ds → StandsIn defs c ds → StandsIn defs c cs
  stands-back c cs ds a s = record { operands = s.operands; found = a.first c.tag ∙ s.found; equal = s.equal }

  all-stand : (cs ds : List CaseDef) → ((c : CaseDef) → IsCase cs c → StandsIn defs c ds) → AllStandIn defs cs ds
  all-stand [] ds h = tt
  all-stand (c ∷ cs) ds h = (h c (inl refl), all-stand cs ds (λ d m. h d (inr m)))

  stand-each : (cs ds : List CaseDef) → AllStandIn defs cs ds → (c : CaseDef) → IsCase cs c → StandsIn defs c ds
  stand-each [] ds h c m = absurd m
  stand-each (d ∷ cs) ds h c (inl e) = subst (λ z. StandsIn defs z ds) (sym e) h.0
  stand-each (d ∷ cs) ds h c (inr m) = stand-each cs ds h.1 c m

  pub contained-exact : (cases : List CaseDef) (a b : Ty) (lower upper : List ℕ) (r : Bool) → HasFlat defs cases a lower → HasFlat defs cases b upper
      → (IsTrue r ↔ ((c : CaseDef) → IsCase (cases_at cases lower) c → StandsIn defs c (cases_at cases upper))) → IsTrue r ↔ IsContained defs a b
  contained-exact cases a b lower upper r f g h = (λ y. to (h.0 y), λ c. h.1 (from c))
    where
      to : ((c : CaseDef) → IsCase (cases_at cases lower) c → StandsIn defs c (cases_at cases upper)) → IsContained defs a b
      to k = record {
        lower = f.whole;
        upper = g.whole;
        lower_cases = f.has;
        upper_cases = g.has;
        stand = all-stand f.whole g.whole (λ c m. stands-alike c (cases_at cases upper) g.whole g.alike (k c (f.alike.from c m)));
      }

      from : IsContained defs a b → (c : CaseDef) → IsCase (cases_at cases lower) c → StandsIn defs c (cases_at cases upper)
      from s c m =
          let p = HasCases-single defs a s.lower f.whole s.lower_cases f.has in
          let q = HasCases-single defs b s.upper g.whole s.upper_cases g.has in
          let k : AllStandIn defs f.whole g.whole = subst (λ z. AllStandIn defs z g.whole) p (subst (λ z. AllStandIn defs s.lower z) q s.stand) in
          stands-back c (cases_at cases upper) g.whole g.alike (stand-each f.whole g.whole k c (f.alike.to c m))

  stand-split : (cs ds others : List CaseDef) → EachStandsIn defs (cs ++ ds) others ↔ (EachStandsIn defs cs others × EachStandsIn defs ds others)
  stand-split [] ds others = (λ h. (λ c m. absurd m, h), λ h. h.1)
  stand-split (c ∷ cs) ds others = by (stand-split cs ds others)
    where
      by : EachStandsIn defs (cs ++ ds) others ↔ (EachStandsIn defs cs others × EachStandsIn defs ds others)
          → EachStandsIn defs (c ∷ (cs ++ ds)) others ↔ (EachStandsIn defs (c ∷ cs) others × EachStandsIn defs ds others)
      by rest = (
        λ h. let r = rest.0 (λ d m. h d (inr m)) in (λ d m. elim m [ inl e ↦ h d (inl e) | inr k ↦ r.0 d k ], r.1),
        λ h d m. elim m [ inl e ↦ h.0 d (inl e) | inr k ↦ rest.1 (λ z n. h.0 z (inr n), h.1) d k ],
      )

  -- the cases from a number on, by that of the first
  pub stand-at : (cases : List CaseDef) (ns : List ℕ) (i : ℕ) (others : List CaseDef) → i < length ns
      → EachStandsIn defs (cases_at cases (drop i ns)) others ↔ (EachStandsIn defs (one_case (slice_get cases (slice_index ns i))) others × EachStandsIn defs (cases_at cases (drop (i + 1) ns)) others)
  stand-at cases ns i others h =
      let q : drop i ns ≡ slice_index ns i ∷ drop (i + 1) ns = drop-cons ns i 0 h ∙ ap (λ n. slice_index ns i ∷ drop n ns) (sym (add-one i)) in
      let s = stand-split (one_case (slice_get cases (slice_index ns i))) (cases_at cases (drop (i + 1) ns)) others in
      (λ k. s.0 (subst (λ z. EachStandsIn defs (cases_at cases z) others) q k), λ k. subst (λ z. EachStandsIn defs (cases_at cases z) others) (sym q) (s.1 k))

  pub stand-end : (cases : List CaseDef) (ns : List ℕ) (i : ℕ) (others : List CaseDef) → length ns ≤ i → EachStandsIn defs (cases_at cases (drop i ns)) others
  stand-end cases ns i others h = subst (λ z. EachStandsIn defs (cases_at cases z) others) (sym (drop_all i ns h)) (λ c m. absurd m)

  pub stand-one : (c : CaseDef) (o : Option CaseDef) (others : List CaseDef) (r : Bool) → Some c ≡ o → (IsTrue r ↔ StandsIn defs c others) → IsTrue r ↔ EachStandsIn defs (one_case o) others
  stand-one c o others r e h = subst (λ z. IsTrue r ↔ EachStandsIn defs (one_case z) others) e (
    λ y d m. elim m [ inl q ↦ subst (λ z. StandsIn defs z others) (sym q) (h.0 y) | inr k ↦ absurd k ],
    λ k. h.1 (k c (inl refl)),
  )

  pub stand-none : (o : Option CaseDef) (others : List CaseDef) → None ≡ o → EachStandsIn defs (one_case o) others
  stand-none o others e = subst (λ z. EachStandsIn defs (one_case z) others) e (λ c m. absurd m)

  -- a case with the operands of its tag
  pub stands-with : (c : CaseDef) (others : List CaseDef) (operands : List Ty) (r : Bool) → Some operands ≡ operands_of others c.tag → (IsTrue r ↔ SameAll defs c.operands operands) → IsTrue r ↔ StandsIn defs c others
  stands-with c others operands r e h = (
    λ y. record { operands = operands; found = sym e; equal = h.0 y },
    λ s. let z : Some operands ≡ Some s.operands = e ∙ s.found in let z' : operands ≡ s.operands = cc in h.1 (subst (SameAll defs c.operands) (sym z') s.equal),
  )

  pub stands-without : (c : CaseDef) (others : List CaseDef) → None ≡ operands_of others c.tag → StandsIn defs c others → ⊥
  stands-without c others e s = let z : None ≡ Some s.operands = e ∙ s.found in cc

  -- the operands of a case of a type, by the numbers of its cases
  pub operands-exact : (cases : List CaseDef) (t : Ty) (tag : List ℕ) (ns : List ℕ) (o : Option (Bor (List Ty))) → HasFlat defs cases t ns → option_copied o ≡ operands_of (cases_at cases ns) tag
      → MatchOption o ((operands : List Ty) → HasOperands defs t tag operands → ⊥) (λ operands. HasOperands defs t tag operands.now)
  operands-exact cases t tag ns None f e = λ operands h.
      let same = HasCases-single defs t h.cases f.whole h.has f.has in
      let z : None ≡ Some operands = e ∙ f.alike.first tag ∙ ap (λ cs. operands_of cs tag) (sym same) ∙ h.found in
      cc
  operands-exact cases t tag ns (Some x) f e = record { cases = f.whole; has = f.has; found = sym (f.alike.first tag) ∙ sym e }

  -- ---- numbers

  numbers-at : (l k : Ty-F Ty) → AreNumbers l k → (l ≡ Ty-F.Nat) × (k ≡ Ty-F.Int)
  numbers-at Ty-F.Nat Ty-F.Int h = (refl, refl)
  numbers-at _ _ h = absurd h

  pub numbers-exact : (a b u w : Ty) (r : Bool) → Means defs a u → Means defs b w → (IsTrue r ↔ AreNumbers (out-Ty u) (out-Ty w)) → IsTrue r ↔ (Means defs a ty.Nat × Means defs b ty.Int)
  numbers-exact a b u w r m n h = (λ y. to (numbers-at (out-Ty u) (out-Ty w) (h.0 y)), λ p. h.1 (from p))
    where
      to : (out-Ty u ≡ Ty-F.Nat) × (out-Ty w ≡ Ty-F.Int) → Means defs a ty.Nat × Means defs b ty.Int
      to p = (
        subst (Means defs a) (sym (roll-out-Ty u) ∙ ap roll-Ty p.0 ∙ ty.rolls-Nat) m,
        subst (Means defs b) (sym (roll-out-Ty w) ∙ ap roll-Ty p.1 ∙ ty.rolls-Int) n,
      )

      from : Means defs a ty.Nat × Means defs b ty.Int → AreNumbers (out-Ty u) (out-Ty w)
      from p = subst (λ l. AreNumbers l (out-Ty w)) (sym (ap out-Ty (Means-single defs a u ty.Nat m p.0) ∙ ty.outs-Nat))
          (subst (AreNumbers Ty-F.Nat) (sym (ap out-Ty (Means-single defs b w ty.Int n p.1) ∙ ty.outs-Int)) tt)

  pub below-contained : (a b : Ty) (r : Bool) → (Same defs a b → ⊥) → (Means defs a ty.Nat × Means defs b ty.Int → ⊥) → (IsTrue r ↔ IsContained defs a b) → IsTrue r ↔ BelowHere defs a b
  below-contained a b r d e h = (λ y. inr (inr (h.0 y)), λ k. elim k [ inl s ↦ absurd (d s) | inr p ↦ elim p [ inl q ↦ absurd (e q) | inr c ↦ h.1 c ] ])

  -- ---- pairs by their numbers

  pub total-from : (pairs : Pairs) (graph : Graph) → length pairs ≤ length graph → (k : ℕ) (p : Ty × Ty) → slice_get pairs k ≡ Some p → (waited : Option (List ℕ)) × (slice_get graph k ≡ Some waited)
  total-from pairs graph h k p e = at graph k (let w = slice_get_within pairs k p e in omega (arith, w, h))
    where
      at : (g : Graph) (k : ℕ) → k < length g → (waited : Option (List ℕ)) × (slice_get g k ≡ Some waited)
      at [] k w = absurd (omega (arith, w))
      at (n ∷ ns) zero w = (n, refl)
      at (n ∷ ns) (suc k) w = at ns k (omega (arith, w))

pub length-more : (graph : Graph) (waited : Option (List ℕ)) → length (graph ++ waited ∷ []) ≡ length graph + 1
length-more [] waited = refl
length-more (n ∷ ns) waited = let h = length-more ns waited in omega (arith, h)

-- ---- what is explored

module _ (W : Pairs → Ty → Ty → Option (List ℕ) → Type 0) (moves : (before after : Pairs) (a b : Ty) (waited : Option (List ℕ)) → Grows before after → W before a b waited → W after a b waited) where
  pub explored-start : (a b : Ty) (pairs : Pairs) (graph : Graph) → pairs ≡ (a, b) ∷ [] → graph ≡ [] → IsExplored W a b pairs graph
  explored-start a b pairs graph e g = record {
    first = ap (λ z. slice_get z 0) e;
    waits = λ k p waited f h. let z : slice_get [] k ≡ Some waited = ap (λ y. slice_get y k) (sym g) ∙ h in absurd (empty k waited z);
  }
    where
      empty : (k : ℕ) (waited : Option (List ℕ)) → ◌≡◌ {A = Option (Option (List ℕ))} (slice_get [] k) (Some waited) → ⊥
      empty k waited z = cc

  pub explored-next : (a b x y : Ty) (pairs pairs' : Pairs) (graph graph' : Graph) (waited : Option (List ℕ)) → IsExplored W a b pairs graph → Grows pairs pairs' → slice_get pairs (length graph) ≡ Some (x, y) → W pairs' x y waited
      → graph' ≡ graph ++ waited ∷ [] → IsExplored W a b pairs' graph'
  explored-next a b x y pairs pairs' graph graph' waited r g there w e = subst (IsExplored W a b pairs') (sym e) (record {
    first = at-grow pairs pairs' 0 (a, b) g r.first;
    waits = λ k p other f h. by graph k p other f h (λ n. n);
  })
    where
      front : (gr : Graph) (k : ℕ) (other : Option (List ℕ)) → k < length gr → slice_get (gr ++ waited ∷ []) k ≡ Some other → slice_get gr k ≡ Some other
      front [] k other l h = absurd (omega (arith, l))
      front (n ∷ ns) zero other l h = h
      front (n ∷ ns) (suc k) other l h = front ns k other (omega (arith, l)) h

      last : (gr : Graph) (k : ℕ) (other : Option (List ℕ)) → length gr ≤ k → slice_get (gr ++ waited ∷ []) k ≡ Some other → (k ≡ length gr) × (waited ≡ other)
      last [] zero other l h = (refl, cc)
      last [] (suc k) other l h = cc
      last (n ∷ ns) zero other l h = absurd (omega (arith, l))
      last (n ∷ ns) (suc k) other l h = let r = last ns k other (omega (arith, l)) h in (ap suc r.0, r.1)

      by : (gr : Graph) (k : ℕ) (p : Ty × Ty) (other : Option (List ℕ)) → slice_get pairs' k ≡ Some p → slice_get (graph ++ waited ∷ []) k ≡ Some other → (ℕ → ℕ) → W pairs' p.0 p.1 other
      by gr k p other f h n = at (split k (length graph))
        where
          split : (i j : ℕ) → (i < j) ⊎ (j ≤ i)
          split zero zero = inr (omega arith)
          split zero (suc j) = inl (omega arith)
          split (suc i) zero = inr (omega arith)
          split (suc i) (suc j) = elim (split i j) [ inl q ↦ inl (omega (arith, q)) | inr q ↦ inr (omega (arith, q)) ]

          pair-at : (gr : Graph) → k < length gr → slice_get (gr ++ waited ∷ []) k ≡ Some other → (q : Ty × Ty) → slice_get pairs k ≡ Some q → q ≡ p
          pair-at gr l h q s = let z : Some q ≡ Some p = sym (at-grow pairs pairs' k q g s) ∙ f in cc

          at : (k < length graph) ⊎ (length graph ≤ k) → W pairs' p.0 p.1 other
          at (inl l) = old (item pairs k (let m = slice_get_within pairs (length graph) (x, y) there in omega (arith, l, m)))
            where
              item : (ps : Pairs) (k : ℕ) → k < length ps → (q : Ty × Ty) × (slice_get ps k ≡ Some q)
              item [] k l = absurd (omega (arith, l))
              item (q ∷ ps) zero l = (q, refl)
              item (q ∷ ps) (suc k) l = item ps k (omega (arith, l))

              old : (q : Ty × Ty) × (slice_get pairs k ≡ Some q) → W pairs' p.0 p.1 other
              old (q, s) = moves pairs pairs' p.0 p.1 other g (subst (λ z. W pairs z.0 z.1 other) (pair-at graph l h q s) (r.waits k q other s (front graph k other l h)))
          at (inr l) =
              let m = last graph k other l h in
              let z : Some (x, y) ≡ Some p = sym (at-grow pairs pairs' (length graph) (x, y) g there) ∙ ap (slice_get pairs') (sym m.0) ∙ f in
              let z' : (x, y) ≡ p = cc in
              subst (λ q. W pairs' q.0 q.1 other) z' (subst (W pairs' x y) m.1 w)

pub EqualWaits-grow : (defs : List SyntaxDef) (before after : Pairs) (a b : Ty) (waited : Option (List ℕ)) → Grows before after → EqualWaits defs before a b waited → EqualWaits defs after a b waited
EqualWaits-grow defs before after a b waited g (EqualWaits.equal t m n z) = EqualWaits.equal t m n z
EqualWaits-grow defs before after a b waited g (EqualWaits.list k x y m n d e z) = EqualWaits.list k x y m n d (at-grow before after k (x, y) g e) z
EqualWaits-grow defs before after a b waited g (EqualWaits.option k x y m n d e z) = EqualWaits.option k x y m n d (at-grow before after k (x, y) g e) z
EqualWaits-grow defs before after a b waited g (EqualWaits.tuple ks xs ys m n d e z) = EqualWaits.tuple ks xs ys m n d (AreNumbered-grow before after ks xs ys g e) z
EqualWaits-grow defs before after a b waited g (EqualWaits.never f z) = EqualWaits.never f z

pub BelowWaits-grow : (defs : List SyntaxDef) (before after : Pairs) (a b : Ty) (waited : Option (List ℕ)) → Grows before after → BelowWaits defs before a b waited → BelowWaits defs after a b waited
BelowWaits-grow defs before after a b waited g (BelowWaits.holds s z) = BelowWaits.holds s z
BelowWaits-grow defs before after a b waited g (BelowWaits.list k x y m n d e z) = BelowWaits.list k x y m n d (at-grow before after k (x, y) g e) z
BelowWaits-grow defs before after a b waited g (BelowWaits.option k x y m n d e z) = BelowWaits.option k x y m n d (at-grow before after k (x, y) g e) z
BelowWaits-grow defs before after a b waited g (BelowWaits.never f z) = BelowWaits.never f z

-- what is explored whole decides what was asked
pub equal-explored : (defs : List SyntaxDef) (a b : Ty) (pairs : Pairs) (graph : Graph) → IsExplored (EqualWaits defs) a b pairs graph → length pairs ≤ length graph → EndsAt graph 0 ↔ Same defs a b
equal-explored defs a b pairs graph r h = (
  λ e. ends-same defs pairs graph r.waits (total-from defs pairs graph h) 0 e (a, b) r.first,
  λ s. same-ends defs pairs graph r.waits (total-from defs pairs graph h) a b 0 r.first s,
)

pub below-explored : (defs : List SyntaxDef) (a b : Ty) (pairs : Pairs) (graph : Graph) → IsExplored (BelowWaits defs) a b pairs graph → length pairs ≤ length graph → EndsAt graph 0 ↔ Sub defs a b
below-explored defs a b pairs graph r h = (
  λ e. ends-sub defs pairs graph r.waits (total-from defs pairs graph h) 0 e (a, b) r.first,
  λ s. sub-ends defs pairs graph r.waits (total-from defs pairs graph h) a b 0 r.first s,
)

-- the answer by ranks
pub ranked-answer : (graph : Graph) (ranks : List ℕ) (P : Type 0) (r : Bool) → AreRanks graph ranks → (EndsAt graph 0 ↔ P) → (IsTrue r ↔ (0 < slice_index ranks 0)) → IsTrue r ↔ P
ranked-answer graph ranks P r right h k = (λ y. h.0 ((right.exact 0).0 (k.0 y)), λ p. k.1 ((right.exact 0).1 (h.1 p)))
