-- Two values of a type that are joined make a value of it.
use Rattle.std.proofs.Common.{◌≡◌, pos, refl, sym, ◌∙◌, ap, ap₂, subst, List, [], ◌∷◌, ◌++◌, map, Option, Some, None, option_map, All}
use Rattle.std.proofs.lemmas.List.Elements.{All-cons, All-head, All-tail, All-append}
use Rattle.st_num.specs.Number.{IsNumber}
use Rattle.st_num.specs.Texts.{IsText}
use Rattle.st_il.specs.declared.definition.SyntaxDef.{SyntaxDef}
use Rattle.st_il.specs.declared.ty.Ty.{Ty, out-Ty}
use Rattle.st_il.specs.declared.ty.Ty.TheOpen.{Ty-F}
use Rattle.st_il.specs.declared.ty.Ty.TheVariants as ty
use Rattle.st_il.specs.declared.value.Value.{Value, out-Value, roll-Value, out-roll-Value, fold-Value, fold_out-Value, map-Value}
use Rattle.st_il.specs.declared.value.Value.TheOpen.{Value-F}
use Rattle.st_il.specs.declared.value.Value.TheVariants as value
use Rattle.st_il.specs.Value.{texts_of}
use Rattle.st_il.specs.Value as texts
use Rattle.st_il.proofs.Induction.{Every, OfField, Parts, value-ind}
use Rattle.st_type_table.specs.Meaning.{Means}
use Rattle.st_type_table.specs.Cases.{HasFields}
use Rattle.st_type_table.proofs.MeansLemmas.{Means-single}
use Rattle.st_type_table.proofs.CasesLemmas.{HasFields-single}
use Rattle.st_type_table.specs.HasType as type
use Rattle.st_type_table.specs.HasType.{HasType, AllHaveType, FieldsHaveTypes}
use Rattle.st_il.specs.Names.{Name, flattened}
use Rattle.st_semantics.specs.Environments.{Entry, numbers_of}
use Rattle.st_semantics.specs.Parts.{option_list, binary, with_both}
use Rattle.st_semantics.specs.Operators.{Joining, joined_options, joined_fields, values_of, joined_by, joining_at, join}
use Rattle.st_semantics.specs.OperationTypes.{KeepsTypes}
use Rattle.st_semantics.proofs.Elements.{All-front, All-back}
use Rattle.st_semantics.proofs.Columns.{same_out}
use Rattle.st_semantics.proofs.Lengths.{some_one}
use Rattle.st_semantics.proofs.TypedParts.{texts-level, numbers-level}
use Rattle.st_semantics.proofs.KeptTypes.{binary_keeps}
use Rattle.st_semantics.proofs.KeptPaths.{Sound, sound_of, typed_by, SoundFields}

-- a value, and how it is joined
abbrev joining : Value → Joining
joining = fold-Value Joining joining_at

-- one level of how values are joined
abbrev joining_of : Value-F Value → Joining
joining_of y = joining_at (map-Value Value Joining joining y)

joining-level : (y : Value-F Value) → joining (roll-Value y) ≡ joining_of y
joining-level y = fold_out-Value Joining joining_at (roll-Value y) ∙ ap joining_of (out-roll-Value y)

-- ---- a value is its own

abbrev IsOwn : Value → Type 0
IsOwn v = (joining v).own ≡ v

own_each : (vs : List Value) → Every IsOwn vs → map (λ (j : Joining). j.own) (map joining vs) ≡ vs
own_each [] h = refl
own_each (v ∷ vs) h = ap₂ (λ x y. x ∷ y) h.0 (own_each vs h.1)

own_fields : (fs : List Entry) → Every (OfField IsOwn) fs → map (λ (f : Name × Joining). (f.0, f.1.own)) (map (λ (f : Entry). (f.0, joining f.1)) fs) ≡ fs
own_fields [] h = refl
own_fields (f ∷ fs) h = ap₂ (λ (x : Value) (y : List Entry). (f.0, x) ∷ y) h.0 (own_fields fs h.1)

own_level : (y : Value-F Value) → Parts IsOwn y → map-Value Joining Value (λ j. j.own) (map-Value Value Joining joining y) ≡ y
own_level (Value-F.Bool b) h = refl
own_level (Value-F.Num z) h = refl
own_level (Value-F.Text bytes) h = refl
own_level (Value-F.Case tag vs) h = ap (λ z. Value-F.Case tag z) (own_each vs h)
own_level (Value-F.Fields fs) h = ap (λ z. Value-F.Fields z) (own_fields fs h)
own_level (Value-F.Tuple vs) h = ap (λ z. Value-F.Tuple z) (own_each vs h)
own_level (Value-F.List vs) h = ap (λ z. Value-F.List z) (own_each vs h)
own_level (Value-F.Opt None) h = refl
own_level (Value-F.Opt (Some v)) h = ap (λ z. Value-F.Opt (Some z)) h

own-itself : (v : Value) → IsOwn v
own-itself = value-ind IsOwn (λ y h. ap (λ (j : Joining). j.own) (joining-level y) ∙ ap roll-Value (own_level y h))

values-own : (vs : List Value) → values_of (map joining vs) ≡ vs
values-own [] = refl
values-own (v ∷ vs) = ap₂ (λ x y. x ∷ y) (own-itself v) (values-own vs)

module _ (defs : List SyntaxDef) where
  -- ---- what the type of a value tells of its parts

  -- the type of a list is a list
  abbrev ListParts : List Value → Ty → Type 0
  ListParts xs t = (u : Ty) × Means defs t (ty.List u) × AllHaveType defs xs u

  list_parts : (v : Value) (xs : List Value) (t : Ty) → out-Value v ≡ Value-F.List xs → HasType defs v t → ListParts xs t
  list_parts v xs t is (type.truth b p m) = let bad : Value-F.Bool b ≡ Value-F.List xs = sym (value.outs-Bool b) ∙ (sym (ap out-Value p) ∙ is) in cc
  list_parts v xs t is (type.natural n p m) = let bad : Value-F.Num (pos n) ≡ Value-F.List xs = sym (value.outs-Num (pos n)) ∙ (sym (ap out-Value p) ∙ is) in cc
  list_parts v xs t is (type.number z p m) = let bad : Value-F.Num z ≡ Value-F.List xs = sym (value.outs-Num z) ∙ (sym (ap out-Value p) ∙ is) in cc
  list_parts v xs t is (type.text bytes p m) = let bad : Value-F.Text bytes ≡ Value-F.List xs = sym (value.outs-Text bytes) ∙ (sym (ap out-Value p) ∙ is) in cc
  list_parts v xs t is (type.case tag parts cases ops p has found typed) = let bad : Value-F.Case tag parts ≡ Value-F.List xs = sym (value.outs-Case tag parts) ∙ (sym (ap out-Value p) ∙ is) in cc
  list_parts v xs t is (type.fields parts ds p has typed) = let bad : Value-F.Fields parts ≡ Value-F.List xs = sym (value.outs-Fields parts) ∙ (sym (ap out-Value p) ∙ is) in cc
  list_parts v xs t is (type.tuple parts ts p m typed) = let bad : Value-F.Tuple parts ≡ Value-F.List xs = sym (value.outs-Tuple parts) ∙ (sym (ap out-Value p) ∙ is) in cc
  list_parts v xs t is (type.list parts u p m typed) =
      let both : Value-F.List parts ≡ Value-F.List xs = sym (value.outs-List parts) ∙ (sym (ap out-Value p) ∙ is) in
      let same : parts ≡ xs = cc in
      (u, m, subst (λ z. AllHaveType defs z u) same typed)
  list_parts v xs t is (type.absent u p m) = let bad : Value-F.Opt None ≡ Value-F.List xs = sym (value.outs-Opt None) ∙ (sym (ap out-Value p) ∙ is) in cc
  list_parts v xs t is (type.present part u p m typed) = let bad : Value-F.Opt (Some part) ≡ Value-F.List xs = sym (value.outs-Opt (Some part)) ∙ (sym (ap out-Value p) ∙ is) in cc

  abbrev RecordParts : List Entry → Ty → Type 0
  RecordParts fs t = (ds : List (Name × Ty)) × HasFields defs t ds × FieldsHaveTypes defs fs ds

  record_parts : (v : Value) (fs : List Entry) (t : Ty) → out-Value v ≡ Value-F.Fields fs → HasType defs v t → RecordParts fs t
  record_parts v fs t is (type.truth b p m) = let bad : Value-F.Bool b ≡ Value-F.Fields fs = sym (value.outs-Bool b) ∙ (sym (ap out-Value p) ∙ is) in cc
  record_parts v fs t is (type.natural n p m) = let bad : Value-F.Num (pos n) ≡ Value-F.Fields fs = sym (value.outs-Num (pos n)) ∙ (sym (ap out-Value p) ∙ is) in cc
  record_parts v fs t is (type.number z p m) = let bad : Value-F.Num z ≡ Value-F.Fields fs = sym (value.outs-Num z) ∙ (sym (ap out-Value p) ∙ is) in cc
  record_parts v fs t is (type.text bytes p m) = let bad : Value-F.Text bytes ≡ Value-F.Fields fs = sym (value.outs-Text bytes) ∙ (sym (ap out-Value p) ∙ is) in cc
  record_parts v fs t is (type.case tag parts cases ops p has found typed) = let bad : Value-F.Case tag parts ≡ Value-F.Fields fs = sym (value.outs-Case tag parts) ∙ (sym (ap out-Value p) ∙ is) in cc
  record_parts v fs t is (type.fields parts ds p has typed) =
      let both : Value-F.Fields parts ≡ Value-F.Fields fs = sym (value.outs-Fields parts) ∙ (sym (ap out-Value p) ∙ is) in
      let same : parts ≡ fs = cc in
      (ds, has, subst (λ z. FieldsHaveTypes defs z ds) same typed)
  record_parts v fs t is (type.tuple parts ts p m typed) = let bad : Value-F.Tuple parts ≡ Value-F.Fields fs = sym (value.outs-Tuple parts) ∙ (sym (ap out-Value p) ∙ is) in cc
  record_parts v fs t is (type.list parts u p m typed) = let bad : Value-F.List parts ≡ Value-F.Fields fs = sym (value.outs-List parts) ∙ (sym (ap out-Value p) ∙ is) in cc
  record_parts v fs t is (type.absent u p m) = let bad : Value-F.Opt None ≡ Value-F.Fields fs = sym (value.outs-Opt None) ∙ (sym (ap out-Value p) ∙ is) in cc
  record_parts v fs t is (type.present part u p m typed) = let bad : Value-F.Opt (Some part) ≡ Value-F.Fields fs = sym (value.outs-Opt (Some part)) ∙ (sym (ap out-Value p) ∙ is) in cc

  -- ---- joined values

  append_types : (u : Ty) (xs ys : List Value) → AllHaveType defs xs u → AllHaveType defs ys u → AllHaveType defs (xs ++ ys) u
  append_types u [] ys p q = q
  append_types u (x ∷ xs) ys (type.one_more h rest) q = type.one_more h (append_types u xs ys rest q)

  append_texts : (xs ys : List Value) → All IsText (texts.joined (map texts_of xs)) → All IsText (texts.joined (map texts_of ys)) → All IsText (texts.joined (map texts_of (xs ++ ys)))
  append_texts [] ys p q = q
  append_texts (x ∷ xs) ys p q = All-append IsText (texts_of x) _ (All-front IsText (texts_of x) _ p) (append_texts xs ys (All-back IsText (texts_of x) _ p) q)

  append_numbers : (xs ys : List Value) → All IsNumber (flattened (map numbers_of xs)) → All IsNumber (flattened (map numbers_of ys)) → All IsNumber (flattened (map numbers_of (xs ++ ys)))
  append_numbers [] ys p q = q
  append_numbers (x ∷ xs) ys p q = All-append IsNumber (numbers_of x) _ (All-front IsNumber (numbers_of x) _ p) (append_numbers xs ys (All-back IsNumber (numbers_of x) _ p) q)

  lists_join : (t : Ty) (a b : Value) (xs ys : List Value) → out-Value a ≡ Value-F.List xs → out-Value b ≡ Value-F.List ys → Sound defs t a → Sound defs t b → Sound defs t (value.List (xs ++ ys))
  lists_join t a b xs ys ia ib p q =
      let one = list_parts a xs t ia p.form in
      let two = list_parts b ys t ib q.form in
      let lists : ty.List two.0 ≡ ty.List one.0 = Means-single defs t (ty.List two.0) (ty.List one.0) two.1 one.1 in
      let opened : Ty-F.List two.0 ≡ Ty-F.List one.0 = sym (ty.outs-List two.0) ∙ (ap out-Ty lists ∙ ty.outs-List one.0) in
      let same : two.0 ≡ one.0 = cc in
      record {
        form = type.list (xs ++ ys) one.0 refl one.1 (append_types one.0 xs ys one.2 (subst (AllHaveType defs ys) same two.2));
        texts = subst (All IsText) (sym (texts-level defs (value.List (xs ++ ys)) (Value-F.List (xs ++ ys)) (value.outs-List (xs ++ ys))))
            (append_texts xs ys (subst (All IsText) (texts-level defs a (Value-F.List xs) ia) p.texts) (subst (All IsText) (texts-level defs b (Value-F.List ys) ib) q.texts));
        numbers = subst (All IsNumber) (sym (numbers-level defs (value.List (xs ++ ys)) (Value-F.List (xs ++ ys)) (value.outs-List (xs ++ ys))))
            (append_numbers xs ys (subst (All IsNumber) (numbers-level defs a (Value-F.List xs) ia) p.numbers) (subst (All IsNumber) (numbers-level defs b (Value-F.List ys) ib) q.numbers));
      }

  -- a value that is joined with another one keeps its type
  abbrev JoinsSound : Value → Type 0
  JoinsSound a = (t : Ty) (b v : Value) → Sound defs t a → Sound defs t b → (joining a).joined b ≡ Some v → Sound defs t v

  -- the first field and those behind it
  first_field : (f : Entry) (fs : List Entry) (d : Name × Ty) (ds : List (Name × Ty)) → SoundFields defs (f ∷ fs) (d ∷ ds) → (f.0 ≡ d.0) × Sound defs d.1 f.1 × SoundFields defs fs ds × IsText f.0
  first_field f fs d ds h = at h.have
    where
      at : FieldsHaveTypes defs (f ∷ fs) (d ∷ ds) → (f.0 ≡ d.0) × Sound defs d.1 f.1 × SoundFields defs fs ds × IsText f.0
      at (type.one_field same has rest) = (
        same,
        record { form = has; texts = All-front IsText (texts_of f.1) _ (All-tail IsText f.0 _ h.told); numbers = All-front IsNumber (numbers_of f.1) _ h.numbered },
        record { have = rest; told = All-back IsText (texts_of f.1) _ (All-tail IsText f.0 _ h.told); numbered = All-back IsNumber (numbers_of f.1) _ h.numbered },
        All-head IsText f.0 _ h.told,
      )

  no_more_fields : (f : Entry) (fs : List Entry) → SoundFields defs (f ∷ fs) [] → ⊥
  no_more_fields f fs h = at h.have
    where
      at : FieldsHaveTypes defs (f ∷ fs) [] → ⊥
      at g = elim g [ ]

  fields_join : (fs gs hs : List Entry) (ds : List (Name × Ty)) → Every (OfField JoinsSound) fs → SoundFields defs fs ds → SoundFields defs gs ds
      → joined_fields (map (λ (f : Entry). (f.0, joining f.1)) fs) gs ≡ Some hs → SoundFields defs hs ds
  fields_join [] [] hs ds h p q e = let same : [] ≡ hs = cc in subst (λ z. SoundFields defs z ds) same p
  fields_join [] (g ∷ gs) hs ds h p q e = cc
  fields_join (f ∷ fs) [] hs ds h p q e = cc
  fields_join (f ∷ fs) (g ∷ gs) hs [] h p q e = absurd (no_more_fields f fs p)
  fields_join (f ∷ fs) (g ∷ gs) hs (d ∷ ds) h p q e =
      at ((joining f.1).joined g.1) (joined_fields (map (λ (f : Entry). (f.0, joining f.1)) fs) gs) refl refl e (fields_join fs gs)
    where
      one : (f.0 ≡ d.0) × Sound defs d.1 f.1 × SoundFields defs fs ds × IsText f.0
      one = first_field f fs d ds p

      two : (g.0 ≡ d.0) × Sound defs d.1 g.1 × SoundFields defs gs ds × IsText g.0
      two = first_field g gs d ds q

      at : (o : Option Value) (r : Option (List Entry)) → (joining f.1).joined g.1 ≡ o → joined_fields (map (λ (f : Entry). (f.0, joining f.1)) fs) gs ≡ r → with_both (λ (v : Value) (rest : List Entry). Some ((f.0, v) ∷ rest)) o r ≡ Some hs
          → ((hs : List Entry) (ds : List (Name × Ty)) → Every (OfField JoinsSound) fs → SoundFields defs fs ds → SoundFields defs gs ds → joined_fields (map (λ (f : Entry). (f.0, joining f.1)) fs) gs ≡ Some hs → SoundFields defs hs ds) → SoundFields defs hs (d ∷ ds)
      at None r j k e ih = cc
      at (Some v) None j k e ih = cc
      at (Some v) (Some rest) j k e ih =
          let s : Sound defs d.1 v = h.0 d.1 g.1 v one.1 two.1 j in
          let more : SoundFields defs rest ds = ih rest ds h.1 one.2 two.2 k in
          subst (λ z. SoundFields defs z (d ∷ ds)) (some_one e) (record {
            have = type.one_field one.0 s.form more.have;
            told = All-cons IsText f.0 _ one.3 (All-append IsText (texts_of v) _ s.texts more.told);
            numbered = All-append IsNumber (numbers_of v) _ s.numbers more.numbered;
          })

  records_join : (t : Ty) (a b v : Value) (fs gs : List Entry) → out-Value a ≡ Value-F.Fields fs → out-Value b ≡ Value-F.Fields gs → Every (OfField JoinsSound) fs → Sound defs t a → Sound defs t b
      → option_map value.Fields (joined_fields (map (λ (f : Entry). (f.0, joining f.1)) fs) gs) ≡ Some v → Sound defs t v
  records_join t a b v fs gs ia ib h p q e = at (joined_fields (map (λ (f : Entry). (f.0, joining f.1)) fs) gs) refl e
    where
      one : RecordParts fs t
      one = record_parts a fs t ia p.form

      two : RecordParts gs t
      two = record_parts b gs t ib q.form

      sound_one : SoundFields defs fs one.0
      sound_one = record { have = one.2; told = subst (All IsText) (texts-level defs a (Value-F.Fields fs) ia) p.texts; numbered = subst (All IsNumber) (numbers-level defs a (Value-F.Fields fs) ia) p.numbers }

      sound_two : SoundFields defs gs one.0
      sound_two = record {
        have = subst (FieldsHaveTypes defs gs) (HasFields-single defs t two.0 one.0 two.1 one.1) two.2;
        told = subst (All IsText) (texts-level defs b (Value-F.Fields gs) ib) q.texts;
        numbered = subst (All IsNumber) (numbers-level defs b (Value-F.Fields gs) ib) q.numbers;
      }

      at : (o : Option (List Entry)) → joined_fields (map (λ (f : Entry). (f.0, joining f.1)) fs) gs ≡ o → option_map value.Fields o ≡ Some v → Sound defs t v
      at None k e = cc
      at (Some hs) k e =
          let s = fields_join fs gs hs one.0 h sound_one sound_two k in
          subst (Sound defs t) (some_one e) (record {
            form = type.fields hs one.0 refl one.1 s.have;
            texts = subst (All IsText) (sym (texts-level defs (value.Fields hs) (Value-F.Fields hs) (value.outs-Fields hs))) s.told;
            numbers = subst (All IsNumber) (sym (numbers-level defs (value.Fields hs) (Value-F.Fields hs) (value.outs-Fields hs))) s.numbered;
          })

  options_join : (t : Ty) (a b v : Value) (x y : Option Value) → out-Value a ≡ Value-F.Opt x → out-Value b ≡ Value-F.Opt y → Sound defs t a → Sound defs t b → joined_options (values_of (option_list (option_map joining x))) (option_list y) ≡ Some v → Sound defs t v
  options_join t a b v None None ia ib p q e = subst (Sound defs t) (same_out a (value.Opt None) (ia ∙ sym (value.outs-Opt None)) ∙ some_one e) p
  options_join t a b v None (Some y) ia ib p q e = subst (Sound defs t) (same_out b (value.Opt (Some y)) (ib ∙ sym (value.outs-Opt (Some y))) ∙ some_one e) q
  options_join t a b v (Some x) None ia ib p q e = subst (Sound defs t) (same_out a (value.Opt (Some x)) (ia ∙ sym (value.outs-Opt (Some x))) ∙ (ap (λ z. value.Opt (Some z)) (sym (own-itself x)) ∙ some_one e)) p
  options_join t a b v (Some x) (Some y) ia ib p q e = cc

  level_joins : (y : Value-F Value) → Parts JoinsSound y → (a : Value) → out-Value a ≡ y → (t : Ty) (b v : Value) (z : Value-F Value) → out-Value b ≡ z → Sound defs t a → Sound defs t b → joined_by (map-Value Value Joining joining y) z ≡ Some v → Sound defs t v
  level_joins (Value-F.List xs) h a ia t b v (Value-F.List ys) ib p q e =
      subst (Sound defs t) (ap (λ z. value.List (z ++ ys)) (sym (values-own xs)) ∙ some_one e) (lists_join t a b xs ys ia ib p q)
  level_joins (Value-F.Opt None) h a ia t b v (Value-F.Opt y) ib p q e = options_join t a b v None y ia ib p q e
  level_joins (Value-F.Opt (Some x)) h a ia t b v (Value-F.Opt y) ib p q e = options_join t a b v (Some x) y ia ib p q e
  level_joins (Value-F.Fields fs) h a ia t b v (Value-F.Fields gs) ib p q e = records_join t a b v fs gs ia ib h p q e
  level_joins (Value-F.List xs) h a ia t b v _ ib p q e = cc
  level_joins (Value-F.Opt None) h a ia t b v _ ib p q e = cc
  level_joins (Value-F.Opt (Some x)) h a ia t b v _ ib p q e = cc
  level_joins (Value-F.Fields fs) h a ia t b v _ ib p q e = cc
  level_joins (Value-F.Bool c) h a ia t b v z ib p q e = cc
  level_joins (Value-F.Num c) h a ia t b v z ib p q e = cc
  level_joins (Value-F.Text c) h a ia t b v z ib p q e = cc
  level_joins (Value-F.Case tag vs) h a ia t b v z ib p q e = cc
  level_joins (Value-F.Tuple vs) h a ia t b v z ib p q e = cc

  joins_sound : (a : Value) → JoinsSound a
  joins_sound = value-ind JoinsSound (λ y h t b v p q e. level_joins y h (roll-Value y) (out-roll-Value y) t b v (out-Value b) refl p q (ap (λ (j : Joining). j.joined b) (sym (joining-level y)) ∙ e))

  pub join_keeps : (t : Ty) → KeepsTypes defs (binary join) (t ∷ t ∷ []) t
  join_keeps t = binary_keeps defs join t t t (λ a b v p q m. typed_by defs t v (joins_sound a t b v (sound_of defs t a p) (sound_of defs t b q) m.0) m.1)
