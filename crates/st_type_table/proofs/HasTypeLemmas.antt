-- Which values have which types, one level at a time, and lists from a place on.
use Rattle.std.proofs.Common.{◌≡◌, ◌↔◌, refl, sym, ap, ◌∙◌, subst, ℕ, ℤ, pos, negsuc, suc, ◌+◌, ◌<◌, ◌≤◌, List, [], ◌∷◌, Bool, Option, Some, None, length, drop, get_or, drop-cons, add-one}
use Rattle.std.specs.Prelude.{IsTrue, MatchOption}
use Rattle.std.specs.Borrow.{Bor}
use Rattle.std.specs.Option.{option_copied}
use Rattle.std.proofs.lemmas.List.{drop_all}
use Rattle.st_il.specs.declared.ty.Ty.{Ty, out-Ty, roll-Ty, roll-out-Ty}
use Rattle.st_il.specs.declared.ty.Ty.TheOpen.{Ty-F}
use Rattle.st_il.specs.declared.ty.Ty.TheVariants as ty
use Rattle.st_il.specs.declared.value.Value.{Value, out-Value, roll-Value, roll-out-Value}
use Rattle.st_il.specs.declared.value.Value.TheOpen.{Value-F}
use Rattle.st_il.specs.declared.value.Value.TheVariants as value
use Rattle.st_il.specs.declared.definition.SyntaxDef.{SyntaxDef}
use Rattle.st_type_table.specs.Meaning.{Means}
use Rattle.st_type_table.specs.HasType.{HasType, HaveTypes, AllHaveType, FieldsHaveTypes}
use Rattle.st_type_table.specs.declared.entry.CaseDef.{CaseDef}
use Rattle.st_type_table.specs.Cases.{HasCases, HasFields, operands_of}
use Rattle.st_type_table.specs.inner.TypedLevels.{TypedAt, CaseHasType, RecordHasType, HasOperands, TruthAt, NumberAt, TextAt, TupleAt, ListAt, OptionAt}
use Rattle.st_type_table.proofs.MeansLemmas.{Means-single}
use Rattle.st_type_table.proofs.CasesLemmas.{HasCases-single, HasFields-single}

module _ (defs : List SyntaxDef) where
  level : (t u w : Ty) (l : Ty-F Ty) → Means defs t u → Means defs t w → out-Ty w ≡ l → out-Ty u ≡ l
  level t u w l m n e = ap out-Ty (Means-single defs t u w m n) ∙ e

  at : (v : Value) (x : Value) (k : Value-F Value) (u t : Ty) (l : Ty-F Ty) → v ≡ x → out-Value x ≡ k → out-Ty u ≡ l → TypedAt defs k l t → TypedAt defs (out-Value v) (out-Ty u) t
  at v x k u t l p q e h = subst (λ z. TypedAt defs z (out-Ty u) t) (sym q ∙ ap out-Value (sym p)) (subst (λ z. TypedAt defs k z t) (sym e) h)

  pub typed-opened : (v : Value) (t u : Ty) → Means defs t u → HasType defs v t → TypedAt defs (out-Value v) (out-Ty u) t
  typed-opened v t u m (HasType.truth b p n) = at v _ (Value-F.Bool b) u t Ty-F.Bool p (value.outs-Bool b) (level t u _ _ m n ty.outs-Bool) tt
  typed-opened v t u m (HasType.natural k p n) = at v _ (Value-F.Num (pos k)) u t Ty-F.Nat p (value.outs-Num (pos k)) (level t u _ _ m n ty.outs-Nat) tt
  typed-opened v t u m (HasType.number z p n) = at v _ (Value-F.Num z) u t Ty-F.Int p (value.outs-Num z) (level t u _ _ m n ty.outs-Int) tt
  typed-opened v t u m (HasType.text bytes p n) = at v _ (Value-F.Text bytes) u t Ty-F.Text p (value.outs-Text bytes) (level t u _ _ m n ty.outs-Text) tt
  typed-opened v t u m (HasType.case tag parts cases operands p has found typed) =
      at v _ (Value-F.Case tag parts) u t (out-Ty u) p (value.outs-Case tag parts) refl
      (record { operands = operands; has = record { cases = cases; has = has; found = found }; typed = typed })
  typed-opened v t u m (HasType.fields parts declared p has typed) =
      at v _ (Value-F.Fields parts) u t (out-Ty u) p (value.outs-Fields parts) refl (record { declared = declared; has = has; typed = typed })
  typed-opened v t u m (HasType.tuple parts types p n typed) =
      at v _ (Value-F.Tuple parts) u t (Ty-F.Tuple types) p (value.outs-Tuple parts) (level t u _ _ m n (ty.outs-Tuple types)) typed
  typed-opened v t u m (HasType.list parts element p n typed) =
      at v _ (Value-F.List parts) u t (Ty-F.List element) p (value.outs-List parts) (level t u _ _ m n (ty.outs-List element)) typed
  typed-opened v t u m (HasType.absent element p n) =
      at v _ (Value-F.Opt None) u t (Ty-F.Opt element) p (value.outs-Opt None) (level t u _ _ m n (ty.outs-Opt element)) tt
  typed-opened v t u m (HasType.present part element p n typed) =
      at v _ (Value-F.Opt (Some part)) u t (Ty-F.Opt element) p (value.outs-Opt (Some part)) (level t u _ _ m n (ty.outs-Opt element)) typed

  truth_closed : (v : Value) (t : Ty) (b : Bool) (l : Ty-F Ty) → v ≡ value.Bool b → Means defs t (roll-Ty l) → TruthAt l → HasType defs v t
  truth_closed v t b Ty-F.Bool p m h = HasType.truth b p (subst (Means defs t) ty.rolls-Bool m)
  truth_closed v t b _ p m h = absurd h

  number_closed : (v : Value) (t : Ty) (z : ℤ) (l : Ty-F Ty) → v ≡ value.Num z → Means defs t (roll-Ty l) → NumberAt z l → HasType defs v t
  number_closed v t (pos n) Ty-F.Nat p m h = HasType.natural n p (subst (Means defs t) ty.rolls-Nat m)
  number_closed v t (negsuc n) Ty-F.Nat p m h = absurd h
  number_closed v t z Ty-F.Int p m h = HasType.number z p (subst (Means defs t) ty.rolls-Int m)
  number_closed v t z Ty-F.Bool p m h = absurd h
  number_closed v t z Ty-F.Text p m h = absurd h
  number_closed v t z (Ty-F.Name x) p m h = absurd h
  number_closed v t z (Ty-F.List x) p m h = absurd h
  number_closed v t z (Ty-F.Opt x) p m h = absurd h
  number_closed v t z (Ty-F.Tuple x) p m h = absurd h

  text_closed : (v : Value) (t : Ty) (bytes : List ℕ) (l : Ty-F Ty) → v ≡ value.Text bytes → Means defs t (roll-Ty l) → TextAt l → HasType defs v t
  text_closed v t bytes Ty-F.Text p m h = HasType.text bytes p (subst (Means defs t) ty.rolls-Text m)
  text_closed v t bytes _ p m h = absurd h

  tuple_closed : (v : Value) (t : Ty) (parts : List Value) (l : Ty-F Ty) → v ≡ value.Tuple parts → Means defs t (roll-Ty l) → TupleAt defs parts l → HasType defs v t
  tuple_closed v t parts (Ty-F.Tuple types) p m h = HasType.tuple parts types p (subst (Means defs t) (ty.rolls-Tuple types) m) h
  tuple_closed v t parts _ p m h = absurd h

  list_closed : (v : Value) (t : Ty) (parts : List Value) (l : Ty-F Ty) → v ≡ value.List parts → Means defs t (roll-Ty l) → ListAt defs parts l → HasType defs v t
  list_closed v t parts (Ty-F.List element) p m h = HasType.list parts element p (subst (Means defs t) (ty.rolls-List element) m) h
  list_closed v t parts _ p m h = absurd h

  option_closed : (v : Value) (t : Ty) (part : Option Value) (l : Ty-F Ty) → v ≡ value.Opt part → Means defs t (roll-Ty l) → OptionAt defs part l → HasType defs v t
  option_closed v t None (Ty-F.Opt element) p m h = HasType.absent element p (subst (Means defs t) (ty.rolls-Opt element) m)
  option_closed v t (Some part) (Ty-F.Opt element) p m h = HasType.present part element p (subst (Means defs t) (ty.rolls-Opt element) m) h
  option_closed v t _ _ p m h = absurd h

  closed_by : (v : Value) (t : Ty) (k : Value-F Value) (l : Ty-F Ty) → v ≡ roll-Value k → Means defs t (roll-Ty l) → TypedAt defs k l t → HasType defs v t
  closed_by v t (Value-F.Bool b) l p m h = truth_closed v t b l (p ∙ value.rolls-Bool b) m h
  closed_by v t (Value-F.Num z) l p m h = number_closed v t z l (p ∙ value.rolls-Num z) m h
  closed_by v t (Value-F.Text bytes) l p m h = text_closed v t bytes l (p ∙ value.rolls-Text bytes) m h
  closed_by v t (Value-F.Case tag parts) l p m h = HasType.case tag parts h.has.cases h.operands (p ∙ value.rolls-Case tag parts) h.has.has h.has.found h.typed
  closed_by v t (Value-F.Fields parts) l p m h = HasType.fields parts h.declared (p ∙ value.rolls-Fields parts) h.has h.typed
  closed_by v t (Value-F.Tuple parts) l p m h = tuple_closed v t parts l (p ∙ value.rolls-Tuple parts) m h
  closed_by v t (Value-F.List parts) l p m h = list_closed v t parts l (p ∙ value.rolls-List parts) m h
  closed_by v t (Value-F.Opt part) l p m h = option_closed v t part l (p ∙ value.rolls-Opt part) m h

  pub typed-closed : (v : Value) (t u : Ty) → Means defs t u → TypedAt defs (out-Value v) (out-Ty u) t → HasType defs v t
  typed-closed v t u m h = closed_by v t (out-Value v) (out-Ty u) (sym (roll-out-Value v)) (subst (Means defs t) (sym (roll-out-Ty u)) m) h

  -- what decides a level decides the value and the type
  pub typed-arm : (v : Value) (t u : Ty) (r : Bool) → Means defs t u → (IsTrue r ↔ TypedAt defs (out-Value v) (out-Ty u) t) → IsTrue r ↔ HasType defs v t
  typed-arm v t u r m h = (λ e. typed-closed v t u m (h.0 e), λ e. h.1 (typed-opened v t u m e))

  -- ---- cases and records

  HasOperands-single : (t : Ty) (tag : List ℕ) (xs ys : List Ty) → HasOperands defs t tag xs → HasOperands defs t tag ys → xs ≡ ys
  HasOperands-single t tag xs ys p q =
      let e = HasCases-single defs t p.cases q.cases p.has q.has in
      let d : Some xs ≡ Some ys = sym p.found ∙ ap (λ cs. operands_of cs tag) e ∙ q.found in
      cc

  pub case-exact : (v : Value) (l : Ty-F Ty) (t : Ty) (tag : List ℕ) (parts : List Value) (operands : List Ty) (ps : List Value) (os : List Ty) (r : Bool)
      → v ≡ value.Case tag parts → HasOperands defs t tag operands → ps ≡ parts → os ≡ operands → (IsTrue r ↔ HaveTypes defs ps os)
      → IsTrue r ↔ TypedAt defs (out-Value v) l t
  case-exact v l t tag parts operands ps os r e has p q h =
      let is : out-Value v ≡ Value-F.Case tag parts = ap out-Value e ∙ value.outs-Case tag parts in (
        λ y. subst (λ k. TypedAt defs k l t) (sym is) (record { operands = operands; has = has; typed = subst (λ z. HaveTypes defs z operands) p (subst (λ z. HaveTypes defs ps z) q (h.0 y)) }),
        λ s. let of : CaseHasType defs tag parts t = subst (λ k. TypedAt defs k l t) is s in
            h.1 (subst (λ z. HaveTypes defs z os) (sym p) (subst (λ z. HaveTypes defs parts z) (HasOperands-single t tag of.operands operands of.has has ∙ sym q) of.typed)),
      )

  pub case-none : (v : Value) (l : Ty-F Ty) (t : Ty) (tag : List ℕ) (parts : List Value) → v ≡ value.Case tag parts
      → ((operands : List Ty) → HasOperands defs t tag operands → ⊥) → TypedAt defs (out-Value v) l t → ⊥
  case-none v l t tag parts e lacks s =
      let is : out-Value v ≡ Value-F.Case tag parts = ap out-Value e ∙ value.outs-Case tag parts in
      let of : CaseHasType defs tag parts t = subst (λ k. TypedAt defs k l t) is s in
      lacks of.operands of.has

  pub record-exact : (v : Value) (l : Ty-F Ty) (t : Ty) (parts : List (List ℕ × Value)) (declared : List (List ℕ × Ty)) (ps : List (List ℕ × Value)) (r : Bool)
      → v ≡ value.Fields parts → HasFields defs t declared → ps ≡ parts → (IsTrue r ↔ FieldsHaveTypes defs ps declared)
      → IsTrue r ↔ TypedAt defs (out-Value v) l t
  record-exact v l t parts declared ps r e has p h =
      let is : out-Value v ≡ Value-F.Fields parts = ap out-Value e ∙ value.outs-Fields parts in (
        λ y. subst (λ k. TypedAt defs k l t) (sym is) (record { declared = declared; has = has; typed = subst (λ z. FieldsHaveTypes defs z declared) p (h.0 y) }),
        λ s. let of : RecordHasType defs parts t = subst (λ k. TypedAt defs k l t) is s in
            h.1 (subst (λ z. FieldsHaveTypes defs z declared) (sym p) (subst (λ z. FieldsHaveTypes defs parts z) (HasFields-single defs t of.declared declared of.has has) of.typed)),
      )

  pub record-none : (v : Value) (l : Ty-F Ty) (t : Ty) (parts : List (List ℕ × Value)) → v ≡ value.Fields parts
      → ((fields : List (List ℕ × Ty)) → HasFields defs t fields → ⊥) → TypedAt defs (out-Value v) l t → ⊥
  record-none v l t parts e lacks s =
      let is : out-Value v ≡ Value-F.Fields parts = ap out-Value e ∙ value.outs-Fields parts in
      let of : RecordHasType defs parts t = subst (λ k. TypedAt defs k l t) is s in
      lacks of.declared of.has

  -- ---- lists

  pub HaveTypes-length : (vs : List Value) (ts : List Ty) → HaveTypes defs vs ts → length vs ≡ length ts
  HaveTypes-length [] [] h = refl
  HaveTypes-length [] (t ∷ ts) h = elim h [ ]
  HaveTypes-length (v ∷ vs) [] h = elim h [ ]
  HaveTypes-length (v ∷ vs) (t ∷ ts) (HaveTypes.more h r) = ap suc (HaveTypes-length vs ts r)

  HaveTypes-first : (v : Value) (t : Ty) (vs : List Value) (ts : List Ty) → HaveTypes defs (v ∷ vs) (t ∷ ts) → HasType defs v t × HaveTypes defs vs ts
  HaveTypes-first v t vs ts (HaveTypes.more h r) = (h, r)

  pub HaveTypes-at : (vs : List Value) (ts : List Ty) (i : ℕ) (v : Value) (t : Ty) → i < length vs → i < length ts → v ≡ get_or vs i v → t ≡ get_or ts i t
      → HaveTypes defs (drop i vs) (drop i ts) ↔ (HasType defs v t × HaveTypes defs (drop (i + 1) vs) (drop (i + 1) ts))
  HaveTypes-at vs ts i v t hv ht ev et =
      let p : drop i vs ≡ v ∷ drop (i + 1) vs = rw (add-one, drop-cons vs i v hv) (ap (λ z. z ∷ drop (suc i) vs) (sym ev)) in
      let q : drop i ts ≡ t ∷ drop (i + 1) ts = rw (add-one, drop-cons ts i t ht) (ap (λ z. z ∷ drop (suc i) ts) (sym et)) in (
        λ s. HaveTypes-first v t _ _ (subst (λ z. HaveTypes defs z (t ∷ drop (i + 1) ts)) p (subst (λ z. HaveTypes defs (drop i vs) z) q s)),
        λ s. subst (λ z. HaveTypes defs z (drop i ts)) (sym p) (subst (λ z. HaveTypes defs (v ∷ drop (i + 1) vs) z) (sym q) (HaveTypes.more s.0 s.1)),
      )

  pub HaveTypes-end : (vs : List Value) (ts : List Ty) (i : ℕ) → length vs ≤ i → length ts ≤ i → HaveTypes defs (drop i vs) (drop i ts)
  HaveTypes-end vs ts i hv ht = subst (λ z. HaveTypes defs z (drop i ts)) (sym (drop_all i vs hv)) (subst (λ z. HaveTypes defs [] z) (sym (drop_all i ts ht)) HaveTypes.none)

  AllHaveType-first : (v : Value) (vs : List Value) (t : Ty) → AllHaveType defs (v ∷ vs) t → HasType defs v t × AllHaveType defs vs t
  AllHaveType-first v vs t (AllHaveType.one_more h r) = (h, r)

  pub AllHaveType-at : (vs : List Value) (t : Ty) (i : ℕ) (v : Value) → i < length vs → v ≡ get_or vs i v
      → AllHaveType defs (drop i vs) t ↔ (HasType defs v t × AllHaveType defs (drop (i + 1) vs) t)
  AllHaveType-at vs t i v hv ev =
      let p : drop i vs ≡ v ∷ drop (i + 1) vs = rw (add-one, drop-cons vs i v hv) (ap (λ z. z ∷ drop (suc i) vs) (sym ev)) in (
        λ s. AllHaveType-first v _ t (subst (λ z. AllHaveType defs z t) p s),
        λ s. subst (λ z. AllHaveType defs z t) (sym p) (AllHaveType.one_more s.0 s.1),
      )

  pub AllHaveType-end : (vs : List Value) (t : Ty) (i : ℕ) → length vs ≤ i → AllHaveType defs (drop i vs) t
  AllHaveType-end vs t i hv = subst (λ z. AllHaveType defs z t) (sym (drop_all i vs hv)) AllHaveType.no_more

  pub Fields-length : (vs : List (List ℕ × Value)) (ts : List (List ℕ × Ty)) → FieldsHaveTypes defs vs ts → length vs ≡ length ts
  Fields-length [] [] h = refl
  Fields-length [] (t ∷ ts) h = elim h [ ]
  Fields-length (v ∷ vs) [] h = elim h [ ]
  Fields-length (v ∷ vs) (t ∷ ts) (FieldsHaveTypes.one_field e h r) = ap suc (Fields-length vs ts r)

  Fields-first : (v : List ℕ × Value) (t : List ℕ × Ty) (vs : List (List ℕ × Value)) (ts : List (List ℕ × Ty)) → FieldsHaveTypes defs (v ∷ vs) (t ∷ ts)
      → (v.0 ≡ t.0) × HasType defs v.1 t.1 × FieldsHaveTypes defs vs ts
  Fields-first v t vs ts (FieldsHaveTypes.one_field e h r) = (e, h, r)

  pub Fields-at : (vs : List (List ℕ × Value)) (ts : List (List ℕ × Ty)) (i : ℕ) (v : List ℕ × Value) (t : List ℕ × Ty) → i < length vs → i < length ts → v ≡ get_or vs i v → t ≡ get_or ts i t
      → FieldsHaveTypes defs (drop i vs) (drop i ts) ↔ ((v.0 ≡ t.0) × HasType defs v.1 t.1 × FieldsHaveTypes defs (drop (i + 1) vs) (drop (i + 1) ts))
  Fields-at vs ts i v t hv ht ev et =
      let p : drop i vs ≡ v ∷ drop (i + 1) vs = rw (add-one, drop-cons vs i v hv) (ap (λ z. z ∷ drop (suc i) vs) (sym ev)) in
      let q : drop i ts ≡ t ∷ drop (i + 1) ts = rw (add-one, drop-cons ts i t ht) (ap (λ z. z ∷ drop (suc i) ts) (sym et)) in (
        λ s. Fields-first v t _ _ (subst (λ z. FieldsHaveTypes defs z (t ∷ drop (i + 1) ts)) p (subst (λ z. FieldsHaveTypes defs (drop i vs) z) q s)),
        λ s. subst (λ z. FieldsHaveTypes defs z (drop i ts)) (sym p) (subst (λ z. FieldsHaveTypes defs (v ∷ drop (i + 1) vs) z) (sym q) (FieldsHaveTypes.one_field s.0 s.1 s.2)),
      )

  pub Fields-end : (vs : List (List ℕ × Value)) (ts : List (List ℕ × Ty)) (i : ℕ) → length vs ≤ i → length ts ≤ i → FieldsHaveTypes defs (drop i vs) (drop i ts)
  Fields-end vs ts i hv ht = subst (λ z. FieldsHaveTypes defs z (drop i ts)) (sym (drop_all i vs hv)) (subst (λ z. FieldsHaveTypes defs [] z) (sym (drop_all i ts ht)) FieldsHaveTypes.no_field)

-- the operands of a case of a type
pub operands-found : (defs : List SyntaxDef) (t : Ty) (tag : List ℕ) (cs : List CaseDef) (o : Option (Bor (List Ty))) → HasCases defs t cs → option_copied o ≡ operands_of cs tag
    → MatchOption o ((operands : List Ty) → HasOperands defs t tag operands → ⊥) (λ operands. HasOperands defs t tag operands.now)
operands-found defs t tag cs None h e = λ operands has.
    let s = HasCases-single defs t cs has.cases h has.has in
    let d : None ≡ Some operands = e ∙ ap (λ xs. operands_of xs tag) s ∙ has.found in
    cc
operands-found defs t tag cs (Some x) h e = record { cases = cs; has = h; found = sym e }
