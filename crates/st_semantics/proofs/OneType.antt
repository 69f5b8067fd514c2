-- An expression has one type, up to equality through aliases.
use Rattle.std.proofs.Common.{◌≡◌, refl, sym, ◌∙◌, ap, subst, List, [], ◌∷◌, Some, None}
use Rattle.st_num.specs.declared.dim.Kind.{Kind}
use Rattle.st_num.specs.declared.dim.Kind.TheVariants as kind
use Rattle.st_il.specs.declared.definition.FunDef.{FunDef}
use Rattle.st_il.specs.declared.definition.Il.{Il}
use Rattle.st_il.specs.declared.definition.Listed.{Listed}
use Rattle.st_il.specs.declared.definition.SyntaxDef.{SyntaxDef}
use Rattle.st_il.specs.declared.expression.IlExp.{IlExp, out-IlExp}
use Rattle.st_il.specs.declared.expression.IlExp.TheOpen.{IlExp-F}
use Rattle.st_il.specs.declared.ty.Ty.{Ty, out-Ty}
use Rattle.st_il.specs.declared.ty.Ty.TheOpen.{Ty-F}
use Rattle.st_il.specs.declared.ty.Ty.TheVariants as ty
use Rattle.st_type_table.specs.Cases.{HasFields}
use Rattle.st_type_table.specs.Meaning.{Means, fields_of, itself}
use Rattle.st_type_table.specs.Same as same
use Rattle.st_type_table.specs.Same.{Same, SameAll}
use Rattle.st_type_table.proofs.MeansLemmas.{Means-single}
use Rattle.st_type_table.proofs.SubLaws.{Same-trans}
use Rattle.st_il.specs.Names.{Name}
use Rattle.st_il.specs.Definitions.{syntaxes}
use Rattle.st_semantics.specs.Environments.{wrapped, type_of, listed_as}
use Rattle.st_semantics.specs.Iterations.{kind_of}
use Rattle.st_semantics.specs.Scopes.{listed_inside}
use Rattle.st_semantics.specs.Typing as typing
use Rattle.st_semantics.specs.Typing.{function_named, ExpHasType, ExpsHaveTypes}
use Rattle.st_semantics.specs.OperationTypes as row
use Rattle.st_semantics.specs.OperationTypes.{plain_types, IsCompared, AccessType, field_type, Level, ConstructionType, RecordType, OperationType}
use Rattle.st_semantics.specs.Laws.{LawOfOneType}
use Rattle.st_semantics.proofs.Singles.{HasForm-single}
use Rattle.st_semantics.proofs.Elements.{no_alias_list, no_alias_option}
use Rattle.st_semantics.proofs.Lengths.{some_one}
use Rattle.st_semantics.proofs.KeptTypes.{types_to, no_alias_tuple}
use Rattle.st_semantics.proofs.TypedTerms.{turned}

module _ (defs : List SyntaxDef) (total : (t : Ty) → (u : Ty) × Means defs t u) where
  -- a type is equal to itself
  refl_same : (t : Ty) → Same defs t t
  refl_same t = same.equal (total t).0 (total t).1 (total t).1

  equal_same : (t u : Ty) → t ≡ u → Same defs t u
  equal_same t u e = subst (Same defs t) e (refl_same t)

  means_list : (t : Ty) → Means defs (ty.List t) (ty.List t)
  means_list t = itself (no_alias_list defs t) refl

  means_option : (t : Ty) → Means defs (ty.Opt t) (ty.Opt t)
  means_option t = itself (no_alias_option defs t) refl

  means_tuple : (ts : List Ty) → Means defs (ty.Tuple ts) (ty.Tuple ts)
  means_tuple ts = itself (no_alias_tuple defs ts) refl

  first_same : {t u : Ty} {ts us : List Ty} → SameAll defs (t ∷ ts) (u ∷ us) → Same defs t u
  first_same (same.more s rest) = s

  -- lists are equal only where their elements are
  list_elements : (t u a b : Ty) → a ≡ ty.List t → b ≡ ty.List u → Same defs a b → Same defs t u
  list_elements t u a b ea eb (same.equal c p q) =
      let one : ty.List t ≡ c = Means-single defs a (ty.List t) c (subst (λ z. Means defs z (ty.List t)) (sym ea) (means_list t)) p in
      let two : ty.List u ≡ c = Means-single defs b (ty.List u) c (subst (λ z. Means defs z (ty.List u)) (sym eb) (means_list u)) q in
      let opened : Ty-F.List t ≡ Ty-F.List u = sym (ty.outs-List t) ∙ (ap out-Ty (one ∙ sym two) ∙ ty.outs-List u) in
      let is : t ≡ u = cc in
      equal_same t u is
  list_elements t u a b ea eb (same.list x y p q s) =
      let one : ty.List t ≡ ty.List x = Means-single defs a (ty.List t) (ty.List x) (subst (λ z. Means defs z (ty.List t)) (sym ea) (means_list t)) p in
      let two : ty.List u ≡ ty.List y = Means-single defs b (ty.List u) (ty.List y) (subst (λ z. Means defs z (ty.List u)) (sym eb) (means_list u)) q in
      let first : Ty-F.List x ≡ Ty-F.List t = sym (ty.outs-List x) ∙ (ap out-Ty (sym one) ∙ ty.outs-List t) in
      let second : Ty-F.List y ≡ Ty-F.List u = sym (ty.outs-List y) ∙ (ap out-Ty (sym two) ∙ ty.outs-List u) in
      let is : x ≡ t = cc in
      let are : y ≡ u = cc in
      subst (Same defs t) are (subst (λ z. Same defs z y) is s)
  list_elements t u a b ea eb (same.option x y p q s) =
      let one : ty.List t ≡ ty.Opt x = Means-single defs a (ty.List t) (ty.Opt x) (subst (λ z. Means defs z (ty.List t)) (sym ea) (means_list t)) p in
      let bad : Ty-F.List t ≡ Ty-F.Opt x = sym (ty.outs-List t) ∙ (ap out-Ty one ∙ ty.outs-Opt x) in cc
  list_elements t u a b ea eb (same.tuple xs ys p q s) =
      let one : ty.List t ≡ ty.Tuple xs = Means-single defs a (ty.List t) (ty.Tuple xs) (subst (λ z. Means defs z (ty.List t)) (sym ea) (means_list t)) p in
      let bad : Ty-F.List t ≡ Ty-F.Tuple xs = sym (ty.outs-List t) ∙ (ap out-Ty one ∙ ty.outs-Tuple xs) in cc

  -- equal record types have the same fields
  no_fields : (a c : Ty) (ds : List (Name × Ty)) (has : HasFields defs a ds) → Means defs a c → fields_of defs c ≡ None → ⊥
  no_fields a c ds has p n =
      let is : has.structure ≡ c = Means-single defs a has.structure c has.means p in
      let bad : Some ds ≡ None = sym has.declared ∙ (ap (fields_of defs) is ∙ n) in cc

  fields_one : (a b : Ty) (ds es : List (Name × Ty)) → HasFields defs a ds → HasFields defs b es → Same defs a b → ds ≡ es
  fields_one a b ds es p q (same.equal c m n) =
      let one : p.structure ≡ c = Means-single defs a p.structure c p.means m in
      let two : q.structure ≡ c = Means-single defs b q.structure c q.means n in
      some_one (sym p.declared ∙ (ap (fields_of defs) (one ∙ sym two) ∙ q.declared))
  fields_one a b ds es p q (same.list x y m n s) = absurd (no_fields a (ty.List x) ds p m (simp (ty.outs-List x) refl))
  fields_one a b ds es p q (same.option x y m n s) = absurd (no_fields a (ty.Opt x) ds p m (simp (ty.outs-Opt x) refl))
  fields_one a b ds es p q (same.tuple xs ys m n s) = absurd (no_fields a (ty.Tuple xs) ds p m (simp (ty.outs-Tuple xs) refl))

  dot_one : (a b : Ty) (name : Name) (ds es : List (Name × Ty)) (t u : Ty) → HasFields defs a ds → HasFields defs b es → field_type name ds ≡ Some t → field_type name es ≡ Some u → Same defs a b → Same defs t u
  dot_one a b name ds es t u p q e f s = equal_same t u (some_one (sym e ∙ (ap (field_type name) (fields_one a b ds es p q s) ∙ f)))

  -- ---- rows

  plain_one : (ts us : List Ty) (t u : Ty) → Some (types_to ts t) ≡ Some (types_to us u) → Same defs t u
  plain_one ts us t u e = equal_same t u (ap (λ (p : List Ty × Ty). p.1) (some_one e))

  plain_compared : (y : Level) (s : Ty) (ts : List Ty) (t : Ty) → plain_types y ≡ Some (types_to ts t) → IsCompared y s → ⊥
  plain_compared (IlExp-F.Eq e g) s ts t p c = cc
  plain_compared (IlExp-F.Ne e g) s ts t p c = cc
  plain_compared (IlExp-F.Lt e g) s ts t p c = cc
  plain_compared (IlExp-F.Gt e g) s ts t p c = cc
  plain_compared (IlExp-F.Le e g) s ts t p c = cc
  plain_compared (IlExp-F.Ge e g) s ts t p c = cc
  plain_compared _ s ts t p c = absurd c

  plain_access : (y : Level) (us : List Ty) (u : Ty) (ts : List Ty) (t : Ty) → AccessType y us u → plain_types y ≡ Some (types_to ts t) → ⊥
  plain_access y us u ts t (row.len v) p = cc
  plain_access y us u ts t (row.element v) p = cc
  plain_access y us u ts t (row.part v) p = cc
  plain_access y us u ts t (row.cat v) p = cc
  plain_access y us u ts t (row.member v) p = cc

  compared_access : (y : Level) (us : List Ty) (u s : Ty) → AccessType y us u → IsCompared y s → Same defs ty.Bool u
  compared_access y us u s (row.len v) c = absurd c
  compared_access y us u s (row.element v) c = absurd c
  compared_access y us u s (row.part v) c = absurd c
  compared_access y us u s (row.cat v) c = absurd c
  compared_access y us u s (row.member v) c = absurd c

  access_one : (y : Level) (ts us : List Ty) (t u : Ty) → AccessType y ts t → AccessType y us u → SameAll defs ts us → Same defs t u
  access_one y ts us t u (row.len v) (row.len v') e = refl_same ty.Nat
  access_one y ts us t u (row.element v) (row.element v') e = list_elements v v' (ty.List v) (ty.List v') refl refl (first_same e)
  access_one y ts us t u (row.part v) (row.part v') e = first_same e
  access_one y ts us t u (row.cat v) (row.cat v') e = first_same e
  access_one y ts us t u (row.member v) (row.member v') e = refl_same ty.Bool

  plain_construction : (y : Level) (us : List Ty) (u : Ty) (ts : List Ty) (t : Ty) → ConstructionType defs y us u → plain_types y ≡ Some (types_to ts t) → ⊥
  plain_construction y us u ts t (row.case cases told has found) p = cc
  plain_construction y us u ts t (row.fields ds has named) p = cc
  plain_construction y us u ts t (row.tuple vs) p = cc
  plain_construction y us u ts t row.list p = cc
  plain_construction y us u ts t row.empty p = cc
  plain_construction y us u ts t (row.present v) p = cc
  plain_construction y us u ts t row.absent p = cc

  compared_construction : (y : Level) (us : List Ty) (u s : Ty) → ConstructionType defs y us u → IsCompared y s → ⊥
  compared_construction y us u z (row.case cases told has found) c = absurd c
  compared_construction y us u z (row.fields ds has named) c = absurd c
  compared_construction y us u z (row.tuple vs) c = absurd c
  compared_construction y us u z row.list c = absurd c
  compared_construction y us u z row.empty c = absurd c
  compared_construction y us u z (row.present v) c = absurd c
  compared_construction y us u z row.absent c = absurd c

  access_construction : (y : Level) (us : List Ty) (u : Ty) (ts : List Ty) (t : Ty) → ConstructionType defs y us u → AccessType y ts t → ⊥
  access_construction y us u ts t (row.case cases told has found) a = elim a [ ]
  access_construction y us u ts t (row.fields ds has named) a = elim a [ ]
  access_construction y us u ts t (row.tuple vs) a = elim a [ ]
  access_construction y us u ts t row.list a = elim a [ ]
  access_construction y us u ts t row.empty a = elim a [ ]
  access_construction y us u ts t (row.present v) a = elim a [ ]
  access_construction y us u ts t row.absent a = elim a [ ]

  construction_one : (y : Level) (ts us0 : List Ty) (t u : Ty) → ConstructionType defs y ts t → ConstructionType defs y us0 u → SameAll defs ts us0 → Same defs t u
  construction_one y ts us0 t u (row.case cases told has found) (row.case cases' told' has' found') e = refl_same t
  construction_one y ts us0 t u (row.fields ds has named) (row.fields ds' has' named') e = refl_same t
  construction_one y ts us0 t u (row.tuple us) (row.tuple us') e = same.tuple ts us0 (means_tuple ts) (means_tuple us0) e
  construction_one y ts us0 t u row.list row.list e = refl_same t
  construction_one y ts us0 t u row.empty row.empty e = refl_same t
  construction_one y ts us0 t u (row.present s) (row.present s') e = same.option s s' (means_option s) (means_option s') (first_same e)
  construction_one y ts us0 t u row.absent row.absent e = refl_same t

  plain_record : (y : Level) (us : List Ty) (u : Ty) (ts : List Ty) (t : Ty) → RecordType defs y us u → plain_types y ≡ Some (types_to ts t) → ⊥
  plain_record y us u ts t (row.dot ds has found) p = cc
  plain_record y us u ts t (row.set vs w leads) p = cc
  plain_record y us u ts t (row.extend vs w v leads means) p = cc
  plain_record y us u ts t (row.join s joins) p = cc

  compared_record : (y : Level) (us : List Ty) (u s : Ty) → RecordType defs y us u → IsCompared y s → ⊥
  compared_record y us u z (row.dot ds has found) c = absurd c
  compared_record y us u z (row.set vs w leads) c = absurd c
  compared_record y us u z (row.extend vs w v leads means) c = absurd c
  compared_record y us u z (row.join s joins) c = absurd c

  access_record : (y : Level) (us : List Ty) (u : Ty) (ts : List Ty) (t : Ty) → RecordType defs y us u → AccessType y ts t → ⊥
  access_record y us u ts t (row.dot ds has found) a = elim a [ ]
  access_record y us u ts t (row.set vs w leads) a = elim a [ ]
  access_record y us u ts t (row.extend vs w v leads means) a = elim a [ ]
  access_record y us u ts t (row.join s joins) a = elim a [ ]

  record_one : (y : Level) (ts us0 : List Ty) (t u : Ty) → RecordType defs y ts t → RecordType defs y us0 u → SameAll defs ts us0 → Same defs t u
  record_one y ts us0 t u (row.dot {name = name_of} {t = s} ds has found) (row.dot {t = s'} ds' has' found') e = dot_one s s' name_of ds ds' t u has has' found found' (first_same e)
  record_one y ts us0 t u (row.set {t = s} us w leads) (row.set {t = s'} us' w' leads') e = first_same e
  record_one y ts us0 t u (row.extend {t = s} us w v leads means) (row.extend {t = s'} us' w' v' leads' means') e = first_same e
  record_one y ts us0 t u (row.join s joins) (row.join s' joins') e = first_same e

  construction_record : (y : Level) (us : List Ty) (u : Ty) (ts : List Ty) (t : Ty) → ConstructionType defs y us u → RecordType defs y ts t → ⊥
  construction_record y us u ts t (row.case cases told has found) r = elim r [ ]
  construction_record y us u ts t (row.fields ds has named) r = elim r [ ]
  construction_record y us u ts t (row.tuple vs) r = elim r [ ]
  construction_record y us u ts t row.list r = elim r [ ]
  construction_record y us u ts t row.empty r = elim r [ ]
  construction_record y us u ts t (row.present v) r = elim r [ ]
  construction_record y us u ts t row.absent r = elim r [ ]

  row_one : (y : Level) (ts us0 : List Ty) (t u : Ty) → OperationType defs y ts t → OperationType defs y us0 u → SameAll defs ts us0 → Same defs t u
  row_one y ts us0 t u (row.plain p) (row.plain q) e = plain_one ts us0 t u (sym p ∙ q)
  row_one y ts us0 t u (row.plain p) (row.compared s c) e = absurd (plain_compared y s ts t p c)
  row_one y ts us0 t u (row.plain p) (row.access a) e = absurd (plain_access y us0 u ts t a p)
  row_one y ts us0 t u (row.compared s c) (row.plain q) e = absurd (plain_compared y s us0 u q c)
  row_one y ts us0 t u (row.compared s c) (row.compared s' c') e = refl_same ty.Bool
  row_one y ts us0 t u (row.compared s c) (row.access a) e = compared_access y us0 u s a c
  row_one y ts us0 t u (row.access a) (row.plain q) e = absurd (plain_access y ts t us0 u a q)
  row_one y ts us0 t u (row.access a) (row.compared s c) e = turned defs (compared_access y ts t s a c)
  row_one y ts us0 t u (row.access a) (row.access b) e = access_one y ts us0 t u a b e
  row_one y ts us0 t u (row.plain p) (row.number r) e = cc
  row_one y ts us0 t u (row.number r) (row.plain p) e = cc
  row_one y ts us0 t u (row.compared z c) (row.number r) e = absurd c
  row_one y ts us0 t u (row.number r) (row.compared z c) e = absurd c
  row_one y ts us0 t u (row.access a) (row.number r) e = elim a [ ]
  row_one y ts us0 t u (row.number r) (row.access a) e = elim a [ ]
  row_one y ts us0 t u (row.number r) (row.number r') e = refl_same ty.Nat
  row_one y ts us0 t u (row.plain p) (row.text told) e = cc
  row_one y ts us0 t u (row.text told) (row.plain p) e = cc
  row_one y ts us0 t u (row.compared z c) (row.text told) e = absurd c
  row_one y ts us0 t u (row.text told) (row.compared z c) e = absurd c
  row_one y ts us0 t u (row.access a) (row.text told) e = elim a [ ]
  row_one y ts us0 t u (row.text told) (row.access a) e = elim a [ ]
  row_one y ts us0 t u (row.text told) (row.text told') e = refl_same ty.Text
  row_one y ts us0 t u (row.plain p) (row.up v sub) e = cc
  row_one y ts us0 t u (row.up v sub) (row.plain p) e = cc
  row_one y ts us0 t u (row.compared z c) (row.up v sub) e = absurd c
  row_one y ts us0 t u (row.up v sub) (row.compared z c) e = absurd c
  row_one y ts us0 t u (row.access a) (row.up v sub) e = elim a [ ]
  row_one y ts us0 t u (row.up v sub) (row.access a) e = elim a [ ]
  row_one y ts us0 t u (row.up v sub) (row.up v' sub') e = refl_same t
  row_one y ts us0 t u (row.plain p) (row.construction c0) e = absurd (plain_construction y us0 u ts t c0 p)
  row_one y ts us0 t u (row.construction c0) (row.plain q) e = absurd (plain_construction y ts t us0 u c0 q)
  row_one y ts us0 t u (row.compared z c) (row.construction c0) e = absurd (compared_construction y us0 u z c0 c)
  row_one y ts us0 t u (row.construction c0) (row.compared z c) e = absurd (compared_construction y ts t z c0 c)
  row_one y ts us0 t u (row.access a) (row.construction c0) e = absurd (access_construction y us0 u ts t c0 a)
  row_one y ts us0 t u (row.construction c0) (row.access a) e = absurd (access_construction y ts t us0 u c0 a)
  row_one y ts us0 t u (row.construction c0) (row.construction c0') e = construction_one y ts us0 t u c0 c0' e
  row_one y ts us0 t u (row.construction c0) (row.number r) e = elim c0 [ ]
  row_one y ts us0 t u (row.number r) (row.construction c0) e = elim c0 [ ]
  row_one y ts us0 t u (row.construction c0) (row.text told) e = elim c0 [ ]
  row_one y ts us0 t u (row.text told) (row.construction c0) e = elim c0 [ ]
  row_one y ts us0 t u (row.construction c0) (row.up v sub) e = elim c0 [ ]
  row_one y ts us0 t u (row.up v sub) (row.construction c0) e = elim c0 [ ]
  row_one y ts us0 t u (row.plain p) (row.structure r0) e = absurd (plain_record y us0 u ts t r0 p)
  row_one y ts us0 t u (row.structure r0) (row.plain q) e = absurd (plain_record y ts t us0 u r0 q)
  row_one y ts us0 t u (row.compared z c) (row.structure r0) e = absurd (compared_record y us0 u z r0 c)
  row_one y ts us0 t u (row.structure r0) (row.compared z c) e = absurd (compared_record y ts t z r0 c)
  row_one y ts us0 t u (row.access a) (row.structure r0) e = absurd (access_record y us0 u ts t r0 a)
  row_one y ts us0 t u (row.structure r0) (row.access a) e = absurd (access_record y ts t us0 u r0 a)
  row_one y ts us0 t u (row.structure r0) (row.structure r0') e = record_one y ts us0 t u r0 r0' e
  row_one y ts us0 t u (row.structure r0) (row.number r) e = elim r0 [ ]
  row_one y ts us0 t u (row.number r) (row.structure r0) e = elim r0 [ ]
  row_one y ts us0 t u (row.structure r0) (row.text told) e = elim r0 [ ]
  row_one y ts us0 t u (row.text told) (row.structure r0) e = elim r0 [ ]
  row_one y ts us0 t u (row.structure r0) (row.up v sub) e = elim r0 [ ]
  row_one y ts us0 t u (row.up v sub) (row.structure r0) e = elim r0 [ ]
  row_one y ts us0 t u (row.construction c0) (row.structure r0) e = absurd (construction_record y ts t us0 u c0 r0)
  row_one y ts us0 t u (row.structure r0) (row.construction c0) e = absurd (construction_record y us0 u ts t c0 r0)

module _ (il : Il) (total : (t : Ty) → (u : Ty) × Means (syntaxes il) t u) where
  abbrev Equal : Ty → Ty → Type 0
  Equal t u = Same (syntaxes il) t u

  wrapped_one : (k : Kind) (t u : Ty) → Equal t u → Equal (wrapped (k ∷ []) t) (wrapped (k ∷ []) u)
  wrapped_one kind.List t u s = same.list t u (means_list (syntaxes il) total t) (means_list (syntaxes il) total u) s
  wrapped_one kind.Opt t u s = same.option t u (means_option (syntaxes il) total t) (means_option (syntaxes il) total u) s

  mutual
    one_type : {ls : List Listed} {e : IlExp} {t : Ty} → ExpHasType il ls e t → (u : Ty) → ExpHasType il ls e u → Equal t u
    one_type {t = t} (typing.same a x s) u y = Same-trans (syntaxes il) total t a u (turned (syntaxes il) s) (one_type x u y)
    one_type {t = t} x u (typing.same a y s) = Same-trans (syntaxes il) total t a u (one_type x a y) s
    one_type {ls = ls} {e = e} {t = t} (typing.strict es f ts h parts told) u (typing.strict es' f' us h' parts' told') =
        let form = HasForm-single (syntaxes il) e _ _ h h' in
        let ee : es' ≡ es = cc in
        row_one (syntaxes il) total (out-IlExp e) ts us t u told told' (all_one parts us (subst (λ z. ExpsHaveTypes il ls z us) ee parts'))
    one_type {e = e} (typing.strict es f ts h parts told) u (typing.variable x l h' at is) = let form = HasForm-single (syntaxes il) e _ _ h h' in cc
    one_type {e = e} (typing.strict es f ts h parts told) u (typing.call fun args declared h' found parts' is) = let form = HasForm-single (syntaxes il) e _ _ h h' in cc
    one_type {e = e} (typing.strict es f ts h parts told) u (typing.iteration how xs body v h' counts kinded inside is) = let form = HasForm-single (syntaxes il) e _ _ h h' in cc
    one_type {ls = ls} {e = e} {t = t} (typing.variable x l h at is) u (typing.variable x' l' h' at' is') =
        let form = HasForm-single (syntaxes il) e _ _ h h' in
        let xx : x' ≡ x = cc in
        let both : Some l ≡ Some l' = sym at ∙ (ap (λ z. listed_as z ls) (sym xx) ∙ at') in
        equal_same (syntaxes il) total t u (is ∙ (ap type_of (some_one both) ∙ sym is'))
    one_type {e = e} (typing.variable x l h at is) u (typing.strict es f ts h' parts told) = let form = HasForm-single (syntaxes il) e _ _ h h' in cc
    one_type {e = e} (typing.variable x l h at is) u (typing.call fun args declared h' found parts' is') = let form = HasForm-single (syntaxes il) e _ _ h h' in cc
    one_type {e = e} (typing.variable x l h at is) u (typing.iteration how xs body v h' counts kinded inside is') = let form = HasForm-single (syntaxes il) e _ _ h h' in cc
    one_type {e = e} {t = t} (typing.call fun args declared h found parts is) u (typing.call fun' args' declared' h' found' parts' is') =
        let form = HasForm-single (syntaxes il) e _ _ h h' in
        let ff : fun' ≡ fun = cc in
        let both : Some declared ≡ Some declared' = sym found ∙ (ap (function_named il) (sym ff) ∙ found') in
        equal_same (syntaxes il) total t u (is ∙ (ap (λ (z : FunDef). z.result) (some_one both) ∙ sym is'))
    one_type {e = e} (typing.call fun args declared h found parts is) u (typing.strict es f ts h' parts' told) = let form = HasForm-single (syntaxes il) e _ _ h h' in cc
    one_type {e = e} (typing.call fun args declared h found parts is) u (typing.variable x l h' at is') = let form = HasForm-single (syntaxes il) e _ _ h h' in cc
    one_type {e = e} (typing.call fun args declared h found parts is) u (typing.iteration how xs body v h' counts kinded inside is') = let form = HasForm-single (syntaxes il) e _ _ h h' in cc
    one_type {ls = ls} {e = e} {t = t} (typing.iteration how xs body v h counts kinded inside is) u (typing.iteration how' xs' body' v' h' counts' kinded' inside' is') =
        let form = HasForm-single (syntaxes il) e _ _ h h' in
        let kk : how' ≡ how = cc in
        let xx : xs' ≡ xs = cc in
        let bb : body' ≡ body = cc in
        let moved : ExpHasType il (listed_inside how xs ls) body v' =
        subst (λ z. ExpHasType il (listed_inside how xs ls) z v') bb (subst (λ z. ExpHasType il (listed_inside how z ls) body' v') xx (subst (λ z. ExpHasType il (listed_inside z xs' ls) body' v') kk inside')) in
        let inner : Equal v v' = one_type inside v' moved in
        let outer : Equal (wrapped (kind_of how ∷ []) v) (wrapped (kind_of how ∷ []) v') = wrapped_one (kind_of how) v v' inner in
        let second : wrapped (kind_of how ∷ []) v' ≡ u = ap (λ z. wrapped (kind_of z ∷ []) v') (sym kk) ∙ sym is' in
        subst (Equal t) second (subst (λ z. Equal z (wrapped (kind_of how ∷ []) v')) (sym is) outer)
    one_type {e = e} (typing.iteration how xs body v h counts kinded inside is) u (typing.strict es f ts h' parts told) = let form = HasForm-single (syntaxes il) e _ _ h h' in cc
    one_type {e = e} (typing.iteration how xs body v h counts kinded inside is) u (typing.variable x l h' at is') = let form = HasForm-single (syntaxes il) e _ _ h h' in cc
    one_type {e = e} (typing.iteration how xs body v h counts kinded inside is) u (typing.call fun args declared h' found parts is') = let form = HasForm-single (syntaxes il) e _ _ h h' in cc

    all_one : {ls : List Listed} {es : List IlExp} {ts : List Ty} → ExpsHaveTypes il ls es ts → (us : List Ty) → ExpsHaveTypes il ls es us → SameAll (syntaxes il) ts us
    all_one typing.none us typing.none = same.none
    all_one (typing.more x xs) us (typing.more {t = u} {ts = us'} y ys) = same.more (one_type x u y) (all_one xs us' ys)

pub law_of_one_type : LawOfOneType
law_of_one_type il total ls e t u x y = one_type il total x u y
