-- A value of a type has each type above it.
use Rattle.std.proofs.Common.{◌≡◌, refl, sym, ap, ◌∙◌, subst, List, [], ◌∷◌, Bool, true, false, Option, Some, None, ℕ, nat_eq, if◌then◌else◌}
use Rattle.std.proofs.lemmas.Slice.Eq.{bytes_eq-Decides}
use Rattle.std.specs.Cmp.Lexicographic.{pointwise}
use Rattle.st_il.specs.declared.ty.Ty.{Ty, out-Ty}
use Rattle.st_il.specs.declared.ty.Ty.TheOpen.{Ty-F}
use Rattle.st_il.specs.declared.ty.Ty.TheVariants as ty
use Rattle.st_il.specs.declared.value.Value.{Value, out-Value}
use Rattle.st_il.specs.declared.value.Value.TheOpen.{Value-F}
use Rattle.st_il.specs.declared.definition.SyntaxDef.{SyntaxDef}
use Rattle.st_il.specs.declared.definition.SyntaxBody.{SyntaxBody}
use Rattle.st_il.specs.declared.definition.SyntaxBody.TheVariants as body
use Rattle.st_il.specs.declared.definition.Alternative.{Alternative}
use Rattle.st_type_table.specs.declared.entry.CaseDef.{CaseDef}
use Rattle.st_type_table.specs.Meaning.{Means, named, named_at, listed, recorded}
use Rattle.st_type_table.specs.Cases.{HasCases, HasFields, operands_of}
use Rattle.st_type_table.specs.HasType.{HasType, HaveTypes, AllHaveType}
use Rattle.st_type_table.specs.Same.{Same, SameAll}
use Rattle.st_type_table.specs.Sub.{Sub, IsContained, AllStandIn}
use Rattle.st_type_table.specs.GoesUp.{GoesUp}
use Rattle.st_type_table.specs.inner.TypedLevels.{TypedAt}
use Rattle.st_type_table.proofs.MeansLemmas.{Means-single}
use Rattle.st_type_table.proofs.CasesLemmas.{HasCases-single, no_cases, no_fields, moved_cases, moved_fields}
use Rattle.st_type_table.proofs.HasTypeLemmas.{typed-opened, typed-closed}

-- no body is both a record and a variant
not_both : (o : Option SyntaxBody) (fs : List (List ℕ × Ty)) (as' : List Alternative) → recorded o ≡ Some fs → listed o ≡ Some as' → ⊥
not_both None fs as' p q = cc
not_both (Some (body.Alias t)) fs as' p q = cc
not_both (Some (body.Variant alternatives)) fs as' p q = cc
not_both (Some (body.Fields fields)) fs as' p q = cc

module _ (defs : List SyntaxDef) where
  -- the level names no variant and no record
  abbrev IsPlain : Ty-F Ty → Type 0
  IsPlain l = (listed (named_at defs l) ≡ None) × (recorded (named_at defs l) ≡ None)

  no_cases_at : (a u : Ty) (l : Ty-F Ty) → out-Ty u ≡ l → IsPlain l → Means defs a u → (cs : List CaseDef) → HasCases defs a cs → ⊥
  no_cases_at a u l p plain m cs h = no_cases defs a u m (ap (λ z. listed (named_at defs z)) p ∙ plain.0) cs h

  no_fields_at : (a u : Ty) (l : Ty-F Ty) → out-Ty u ≡ l → IsPlain l → Means defs a u → (fs : List (List ℕ × Ty)) → HasFields defs a fs → ⊥
  no_fields_at a u l p plain m fs h = no_fields defs a u m (ap (λ z. recorded (named_at defs z)) p ∙ plain.1) fs h

  -- Each value of a level has the one type only where it has the other.
  abbrev UpAt : Ty-F Ty → Ty-F Ty → Ty → Ty → Type 0
  UpAt l k a b = (x : Value-F Value) → TypedAt defs x l a → TypedAt defs x k b

  up : (a b u w : Ty) (l k : Ty-F Ty) → Means defs a u → Means defs b w → out-Ty u ≡ l → out-Ty w ≡ k → UpAt l k a b → GoesUp defs a b
  up a b u w l k m n p q h v e =
      typed-closed defs v b w n (subst (λ z. TypedAt defs (out-Value v) z b) (sym q) (h (out-Value v) (subst (λ z. TypedAt defs (out-Value v) z a) p (typed-opened defs v a u m e))))

  abbrev UpAll : List Ty → List Ty → Type 0
  UpAll [] [] = Unit {0}
  UpAll (x ∷ xs) (y ∷ ys) = GoesUp defs x y × UpAll xs ys
  UpAll _ _ = ⊥

  each_up : (x y : Ty) → GoesUp defs x y → (vs : List Value) → AllHaveType defs vs x → AllHaveType defs vs y
  each_up x y h [] e = AllHaveType.no_more
  each_up x y h (v ∷ vs) (AllHaveType.one_more e r) = AllHaveType.one_more (h v e) (each_up x y h vs r)

  all_up : (xs ys : List Ty) → UpAll xs ys → (vs : List Value) → HaveTypes defs vs xs → HaveTypes defs vs ys
  all_up [] [] h vs e = e
  all_up [] (y ∷ ys) h vs e = absurd h
  all_up (x ∷ xs) [] h vs e = absurd h
  all_up (x ∷ xs) (y ∷ ys) h [] e = elim e [ ]
  all_up (x ∷ xs) (y ∷ ys) h (v ∷ vs) (HaveTypes.more e r) = HaveTypes.more (h.0 v e) (all_up xs ys h.1 vs r)

  list_up : (a b u x y : Ty) → Means defs a u → out-Ty u ≡ Ty-F.List x → GoesUp defs x y → UpAt (Ty-F.List x) (Ty-F.List y) a b
  list_up a b u x y m p h (Value-F.List vs) e = each_up x y h vs e
  list_up a b u x y m p h (Value-F.Bool t) e = absurd e
  list_up a b u x y m p h (Value-F.Num n) e = absurd e
  list_up a b u x y m p h (Value-F.Text s) e = absurd e
  list_up a b u x y m p h (Value-F.Case tag vs) e = absurd (no_cases_at a u (Ty-F.List x) p (refl, refl) m e.has.cases e.has.has)
  list_up a b u x y m p h (Value-F.Fields fs) e = absurd (no_fields_at a u (Ty-F.List x) p (refl, refl) m e.declared e.has)
  list_up a b u x y m p h (Value-F.Tuple vs) e = absurd e
  list_up a b u x y m p h (Value-F.Opt None) e = absurd e
  list_up a b u x y m p h (Value-F.Opt (Some v)) e = absurd e

  option_up : (a b u x y : Ty) → Means defs a u → out-Ty u ≡ Ty-F.Opt x → GoesUp defs x y → UpAt (Ty-F.Opt x) (Ty-F.Opt y) a b
  option_up a b u x y m p h (Value-F.Opt None) e = tt
  option_up a b u x y m p h (Value-F.Opt (Some v)) e = h v e
  option_up a b u x y m p h (Value-F.Bool t) e = absurd e
  option_up a b u x y m p h (Value-F.Num n) e = absurd e
  option_up a b u x y m p h (Value-F.Text s) e = absurd e
  option_up a b u x y m p h (Value-F.Case tag vs) e = absurd (no_cases_at a u (Ty-F.Opt x) p (refl, refl) m e.has.cases e.has.has)
  option_up a b u x y m p h (Value-F.Fields fs) e = absurd (no_fields_at a u (Ty-F.Opt x) p (refl, refl) m e.declared e.has)
  option_up a b u x y m p h (Value-F.Tuple vs) e = absurd e
  option_up a b u x y m p h (Value-F.List vs) e = absurd e

  tuple_up : (a b u : Ty) (xs ys : List Ty) → Means defs a u → out-Ty u ≡ Ty-F.Tuple xs → UpAll xs ys → UpAt (Ty-F.Tuple xs) (Ty-F.Tuple ys) a b
  tuple_up a b u xs ys m p h (Value-F.Tuple vs) e = all_up xs ys h vs e
  tuple_up a b u xs ys m p h (Value-F.Bool t) e = absurd e
  tuple_up a b u xs ys m p h (Value-F.Num n) e = absurd e
  tuple_up a b u xs ys m p h (Value-F.Text s) e = absurd e
  tuple_up a b u xs ys m p h (Value-F.Case tag vs) e = absurd (no_cases_at a u (Ty-F.Tuple xs) p (refl, refl) m e.has.cases e.has.has)
  tuple_up a b u xs ys m p h (Value-F.Fields fs) e = absurd (no_fields_at a u (Ty-F.Tuple xs) p (refl, refl) m e.declared e.has)
  tuple_up a b u xs ys m p h (Value-F.List vs) e = absurd e
  tuple_up a b u xs ys m p h (Value-F.Opt None) e = absurd e
  tuple_up a b u xs ys m p h (Value-F.Opt (Some v)) e = absurd e

  number_up : (a b u : Ty) → Means defs a u → out-Ty u ≡ Ty-F.Nat → UpAt Ty-F.Nat Ty-F.Int a b
  number_up a b u m p (Value-F.Num n) e = tt
  number_up a b u m p (Value-F.Bool t) e = absurd e
  number_up a b u m p (Value-F.Text s) e = absurd e
  number_up a b u m p (Value-F.Case tag vs) e = absurd (no_cases_at a u Ty-F.Nat p (refl, refl) m e.has.cases e.has.has)
  number_up a b u m p (Value-F.Fields fs) e = absurd (no_fields_at a u Ty-F.Nat p (refl, refl) m e.declared e.has)
  number_up a b u m p (Value-F.Tuple vs) e = absurd e
  number_up a b u m p (Value-F.List vs) e = absurd e
  number_up a b u m p (Value-F.Opt None) e = absurd e
  number_up a b u m p (Value-F.Opt (Some v)) e = absurd e

  equal_up : (a b t : Ty) → Means defs a t → Means defs b t → UpAt (out-Ty t) (out-Ty t) a b
  equal_up a b t m n (Value-F.Case tag vs) e = record {
    operands = e.operands;
    has = record { cases = e.has.cases; has = moved_cases defs a b t m n e.has.cases e.has.has; found = e.has.found };
    typed = e.typed;
  }
  equal_up a b t m n (Value-F.Fields fs) e = record { declared = e.declared; has = moved_fields defs a b t m n e.declared e.has; typed = e.typed }
  equal_up a b t m n (Value-F.Bool s) e = e
  equal_up a b t m n (Value-F.Num z) e = e
  equal_up a b t m n (Value-F.Text s) e = e
  equal_up a b t m n (Value-F.Tuple vs) e = e
  equal_up a b t m n (Value-F.List vs) e = e
  equal_up a b t m n (Value-F.Opt v) e = e

  mutual
    pub Same-up : (a b : Ty) → Same defs a b → GoesUp defs a b
    Same-up a b (Same.equal t m n) v h = up a b t t _ _ m n refl refl (equal_up a b t m n) v h
    Same-up a b (Same.list x y m n s) v h = up a b _ _ _ _ m n (ty.outs-List x) (ty.outs-List y) (list_up a b (ty.List x) x y m (ty.outs-List x) (Same-up x y s)) v h
    Same-up a b (Same.option x y m n s) v h = up a b _ _ _ _ m n (ty.outs-Opt x) (ty.outs-Opt y) (option_up a b (ty.Opt x) x y m (ty.outs-Opt x) (Same-up x y s)) v h
    Same-up a b (Same.tuple xs ys m n s) v h = up a b _ _ _ _ m n (ty.outs-Tuple xs) (ty.outs-Tuple ys) (tuple_up a b (ty.Tuple xs) xs ys m (ty.outs-Tuple xs) (SameAll-up xs ys s)) v h

    pub SameAll-up : (xs ys : List Ty) → SameAll defs xs ys → UpAll xs ys
    SameAll-up [] [] s = tt
    SameAll-up [] (y ∷ ys) s = elim s [ ]
    SameAll-up (x ∷ xs) [] s = elim s [ ]
    SameAll-up (x ∷ xs) (y ∷ ys) (SameAll.more s r) = (Same-up x y s, SameAll-up xs ys r)

  -- a case that is found in the one list is found in the other
  pub stands : (lower upper : List CaseDef) (tag : List ℕ) (operands : List Ty) → AllStandIn defs lower upper → operands_of lower tag ≡ Some operands
      → (others : List Ty) × (operands_of upper tag ≡ Some others) × SameAll defs operands others
  stands [] upper tag operands h e = cc
  stands (c ∷ cs) upper tag operands h e = by (pointwise nat_eq c.tag tag) refl (stands cs upper tag operands h.1) e
    where
      by : (b : Bool) → pointwise nat_eq c.tag tag ≡ b
          → (operands_of cs tag ≡ Some operands → (others : List Ty) × (operands_of upper tag ≡ Some others) × SameAll defs operands others)
          → (if b then Some c.operands else operands_of cs tag) ≡ Some operands
          → (others : List Ty) × (operands_of upper tag ≡ Some others) × SameAll defs operands others
      by true q next p =
          let same : c.tag ≡ tag = (bytes_eq-Decides c.tag tag).0 q in
          let is : c.operands ≡ operands = cc in
          (h.0.operands, ap (operands_of upper) (sym same) ∙ h.0.found, subst (λ z. SameAll defs z h.0.operands) is h.0.equal)
      by false q next p = next p

  variant_up : (a b : Ty) → IsContained defs a b → GoesUp defs a b
  variant_up a b c v (HasType.case tag parts cases operands p has found typed) =
      let e = HasCases-single defs a cases c.lower has c.lower_cases in
      let s = stands c.lower c.upper tag operands c.stand (ap (λ cs. operands_of cs tag) (sym e) ∙ found) in
      HasType.case tag parts c.upper s.0 p c.upper_cases s.1 (all_up operands s.0 (SameAll-up operands s.0 s.2) parts typed)
  variant_up a b c v (HasType.truth t p m) = absurd (no_cases_at a _ Ty-F.Bool ty.outs-Bool (refl, refl) m c.lower c.lower_cases)
  variant_up a b c v (HasType.natural n p m) = absurd (no_cases_at a _ Ty-F.Nat ty.outs-Nat (refl, refl) m c.lower c.lower_cases)
  variant_up a b c v (HasType.number z p m) = absurd (no_cases_at a _ Ty-F.Int ty.outs-Int (refl, refl) m c.lower c.lower_cases)
  variant_up a b c v (HasType.text s p m) = absurd (no_cases_at a _ Ty-F.Text ty.outs-Text (refl, refl) m c.lower c.lower_cases)
  variant_up a b c v (HasType.tuple parts types p m h) = absurd (no_cases_at a _ (Ty-F.Tuple types) (ty.outs-Tuple types) (refl, refl) m c.lower c.lower_cases)
  variant_up a b c v (HasType.list parts x p m h) = absurd (no_cases_at a _ (Ty-F.List x) (ty.outs-List x) (refl, refl) m c.lower c.lower_cases)
  variant_up a b c v (HasType.absent x p m) = absurd (no_cases_at a _ (Ty-F.Opt x) (ty.outs-Opt x) (refl, refl) m c.lower c.lower_cases)
  variant_up a b c v (HasType.present part x p m h) = absurd (no_cases_at a _ (Ty-F.Opt x) (ty.outs-Opt x) (refl, refl) m c.lower c.lower_cases)
  variant_up a b c v (HasType.fields parts declared p has typed) =
      let l = c.lower_cases in
      let s = Means-single defs a has.structure l.variant has.means l.means in
      let r : recorded (named defs l.variant) ≡ Some declared = ap (λ z. recorded (named defs z)) (sym s) ∙ has.declared in
      absurd (not_both (named defs l.variant) declared l.alternatives r l.declared)

  pub Sub-up : (a b : Ty) → Sub defs a b → GoesUp defs a b
  Sub-up a b (Sub.same s) v h = Same-up a b s v h
  Sub-up a b (Sub.number m n) v h = up a b _ _ _ _ m n ty.outs-Nat ty.outs-Int (number_up a b ty.Nat m ty.outs-Nat) v h
  Sub-up a b (Sub.variant c) v h = variant_up a b c v h
  Sub-up a b (Sub.list x y m n s) v h = up a b _ _ _ _ m n (ty.outs-List x) (ty.outs-List y) (list_up a b (ty.List x) x y m (ty.outs-List x) (Sub-up x y s)) v h
  Sub-up a b (Sub.option x y m n s) v h = up a b _ _ _ _ m n (ty.outs-Opt x) (ty.outs-Opt y) (option_up a b (ty.Opt x) x y m (ty.outs-Opt x) (Sub-up x y s)) v h
