-- What is replaced at the end of a path leaves the type of the whole as it was.
use Rattle.std.proofs.Common.{◌≡◌, ℕ, zero, suc, ◌+◌, ◌≤◌, refl, sym, ◌∙◌, ap, subst, List, [], ◌∷◌, ◌++◌, map, length, take, drop, Bool, true, false, not, ◌||◌, if◌then◌else◌, Option, Some, None, option_map, bytes_eq, nat_le, nat_eq, slice_get, All}
use Rattle.std.specs.Option.{option_and_then}
use Rattle.std.proofs.lemmas.List.Elements.{All-nil, All-cons, All-head, All-tail, All-append}
use Rattle.st_num.specs.Number.{IsNumber}
use Rattle.st_num.specs.Texts.{IsText}
use Rattle.st_num.specs.declared.limit.TheConstants.{HIGHEST_VALUE}
use Rattle.st_il.specs.declared.definition.SyntaxDef.{SyntaxDef}
use Rattle.st_il.specs.declared.expression.PathSeg.{PathSeg}
use Rattle.st_il.specs.declared.ty.Ty.{Ty, out-Ty}
use Rattle.st_il.specs.declared.ty.Ty.TheOpen.{Ty-F}
use Rattle.st_il.specs.declared.ty.Ty.TheVariants as ty
use Rattle.st_il.specs.declared.value.Value.{Value, out-Value}
use Rattle.st_il.specs.declared.value.Value.TheOpen.{Value-F}
use Rattle.st_il.specs.declared.value.Value.TheVariants as value
use Rattle.st_il.specs.Height.{height}
use Rattle.st_il.specs.Value.{texts_of}
use Rattle.st_il.specs.Value as texts
use Rattle.st_type_table.specs.Meaning.{Means}
use Rattle.st_type_table.specs.Cases.{HasFields}
use Rattle.st_type_table.proofs.CasesLemmas.{HasFields-single}
use Rattle.st_type_table.specs.HasType as type
use Rattle.st_type_table.specs.HasType.{HasType, AllHaveType, FieldsHaveTypes}
use Rattle.st_type_table.specs.inner.TypedLevels.{TypedAt, RecordHasType}
use Rattle.st_type_table.proofs.HasTypeLemmas.{typed-opened}
use Rattle.st_il.specs.Names.{Name, flattened}
use Rattle.st_semantics.specs.Environments.{Entry, IsTypedValue, AreTypedValues, numbers_of}
use Rattle.st_semantics.specs.Parts.{elements_at, fields_at, elements, natural, with_both}
use Rattle.st_semantics.specs.Operators.{concatenation}
use Rattle.st_semantics.specs.Paths.{Step, Into, Nth, Part, step_at, Path, longer, path_of, Replaces, in_field, in_element, put_back, in_part, replaced, finished, along, setting, extension}
use Rattle.st_semantics.specs.OperationTypes.{KeepsTypes}
use Rattle.st_semantics.specs.OperationTypes as row
use Rattle.st_semantics.specs.OperationTypes.{field_type, PathType}
use Rattle.st_semantics.proofs.Elements.{All-front, All-back}
use Rattle.st_semantics.proofs.Lengths.{some_one}
use Rattle.st_semantics.proofs.TypedParts.{texts-level, numbers-level}
use Rattle.st_semantics.proofs.KeptTypes.{made_parts, TextsIn, NumbersIn}

-- the steps and values behind them
abbrev path_with : List Step → List Value → Path
path_with steps rest = (steps, rest)

longer_parts : (step : Step) (o : Option Path) (steps : List Step) (rest : List Value) → option_map (longer step) o ≡ Some (path_with steps rest)
    → (st : List Step) × (o ≡ Some (path_with st rest)) × (step ∷ st ≡ steps)
longer_parts step None steps rest e = cc
longer_parts step (Some p) steps rest e =
    let both : longer step p ≡ path_with steps rest = some_one e in
    let behind : p.1 ≡ rest = ap (λ (z : Path). z.1) both in
    (p.0, ap (λ z. Some (path_with p.0 z)) behind, ap (λ (z : Path). z.0) both)

module _ (defs : List SyntaxDef) where
  -- a value has a type, with texts and numbers as they may be; nothing is told of its height
  pub record Sound (t : Ty) (v : Value) : Type 0 where
    pub form : HasType defs v t
    pub texts : All IsText (texts_of v)
    pub numbers : All IsNumber (numbers_of v)

  pub sound_of : (t : Ty) (v : Value) → IsTypedValue defs t v → Sound t v
  sound_of t v h = record { form = h.form; texts = h.value.texts; numbers = h.numbers }

  pub typed_by : (t : Ty) (v : Value) → Sound t v → height v ≤ HIGHEST_VALUE → IsTypedValue defs t v
  typed_by t v h low = record { form = h.form; value = record { height = low; texts = h.texts }; numbers = h.numbers }

  abbrev pub EachSound : Ty → List Value → Type 0
  EachSound t [] = Unit {0}
  EachSound t (v ∷ vs) = Sound t v × EachSound t vs

  -- ---- lists

  all_sound : (t : Ty) (vs : List Value) → AllHaveType defs vs t → All IsText (texts.joined (map texts_of vs)) → All IsNumber (flattened (map numbers_of vs)) → EachSound t vs
  all_sound t [] h te nu = tt
  all_sound t (v ∷ vs) (type.one_more h rest) te nu = (
    record { form = h; texts = All-front IsText (texts_of v) (texts.joined (map texts_of vs)) te; numbers = All-front IsNumber (numbers_of v) (flattened (map numbers_of vs)) nu },
    all_sound t vs rest (All-back IsText (texts_of v) (texts.joined (map texts_of vs)) te) (All-back IsNumber (numbers_of v) (flattened (map numbers_of vs)) nu),
  )

  pub parts_sound : (t u : Ty) → Means defs t (ty.List u) → (a : Value) (xs : List Value) → Sound t a → elements a ≡ Some xs → EachSound u xs
  parts_sound t u means a xs h e = at (out-Value a) refl e
    where
      at : (y : Value-F Value) → out-Value a ≡ y → elements_at y ≡ Some xs → EachSound u xs
      at (Value-F.List ys) is e =
          let same : ys ≡ xs = cc in
          let opened : TypedAt defs (out-Value a) (out-Ty (ty.List u)) t = typed-opened defs a t (ty.List u) means h.form in
          let have : AllHaveType defs ys u = subst (λ z. TypedAt defs z (Ty-F.List u) t) is (subst (λ z. TypedAt defs (out-Value a) z t) (ty.outs-List u) opened) in
          subst (EachSound u) same (all_sound u ys have (subst (All IsText) (texts-level defs a (Value-F.List ys) is) h.texts) (subst (All IsNumber) (numbers-level defs a (Value-F.List ys) is) h.numbers))
      at _ is e = cc

  each_types : (t : Ty) (vs : List Value) → EachSound t vs → AllHaveType defs vs t
  each_types t [] h = type.no_more
  each_types t (v ∷ vs) h = type.one_more h.0.form (each_types t vs h.1)

  each_texts : (t : Ty) (vs : List Value) → EachSound t vs → All IsText (texts.joined (map texts_of vs))
  each_texts t [] h = All-nil IsText
  each_texts t (v ∷ vs) h = All-append IsText (texts_of v) (texts.joined (map texts_of vs)) h.0.texts (each_texts t vs h.1)

  each_numbers : (t : Ty) (vs : List Value) → EachSound t vs → All IsNumber (flattened (map numbers_of vs))
  each_numbers t [] h = All-nil IsNumber
  each_numbers t (v ∷ vs) h = All-append IsNumber (numbers_of v) (flattened (map numbers_of vs)) h.0.numbers (each_numbers t vs h.1)

  pub list_sound : (t u : Ty) → Means defs t (ty.List u) → (vs : List Value) → EachSound u vs → Sound t (value.List vs)
  list_sound t u means vs h = record {
    form = type.list vs u refl means (each_types u vs h);
    texts = subst (All IsText) (sym (texts-level defs (value.List vs) (Value-F.List vs) (value.outs-List vs))) (each_texts u vs h);
    numbers = subst (All IsNumber) (sym (numbers-level defs (value.List vs) (Value-F.List vs) (value.outs-List vs))) (each_numbers u vs h);
  }

  pub sound_append : (t : Ty) (xs ys : List Value) → EachSound t xs → EachSound t ys → EachSound t (xs ++ ys)
  sound_append t [] ys p q = q
  sound_append t (x ∷ xs) ys p q = (p.0, sound_append t xs ys p.1 q)

  sound_drop : (t : Ty) (n : ℕ) (xs : List Value) → EachSound t xs → EachSound t (drop n xs)
  sound_drop t zero xs h = h
  sound_drop t (suc n) [] h = tt
  sound_drop t (suc n) (x ∷ xs) h = sound_drop t n xs h.1

  sound_take : (t : Ty) (n : ℕ) (xs : List Value) → EachSound t xs → EachSound t (take n xs)
  sound_take t zero xs h = tt
  sound_take t (suc n) [] h = tt
  sound_take t (suc n) (x ∷ xs) h = (h.0, sound_take t n xs h.1)

  sound_get : (t : Ty) (xs : List Value) (n : ℕ) (v : Value) → EachSound t xs → slice_get xs n ≡ Some v → Sound t v
  sound_get t [] n v h e = cc
  sound_get t (x ∷ xs) zero v h e = let same : x ≡ v = cc in subst (Sound t) same h.0
  sound_get t (x ∷ xs) (suc n) v h e = sound_get t xs n v h.1 e

  made_list : (t u : Ty) → Means defs t (ty.List u) → (xs : List Value) (v : Value) → EachSound u xs → value.List xs ≡ v → Sound t v
  made_list t u means xs v h e = subst (Sound t) e (list_sound t u means xs h)

  -- ---- steps

  -- these steps lead from a type to another one
  abbrev StepsType : List Step → Ty → Ty → Type 0
  StepsType [] t w = t ≡ w
  StepsType (Into name ∷ steps) t w = (ds : List (Name × Ty)) × (u : Ty) × HasFields defs t ds × (field_type name ds ≡ Some u) × StepsType steps u w
  StepsType (Nth n ∷ steps) t w = (u : Ty) × Means defs t (ty.List u) × StepsType steps u w
  StepsType (Part m n ∷ steps) t w = (u : Ty) × Means defs t (ty.List u) × StepsType steps t w

  path_steps : {path : List PathSeg} {t w : Ty} {ts : List Ty} → PathType defs path t ts w → (x : Ty) (vs : List Value) (steps : List Step) (rest : List Value) → AreTypedValues defs (ts ++ x ∷ []) vs
      → path_of path vs ≡ Some (path_with steps rest) → StepsType steps t w × AreTypedValues defs (x ∷ []) rest
  path_steps {t = t} row.here x vs steps rest h e =
      let both : path_with [] vs ≡ path_with steps rest = some_one e in
      (subst (λ z. StepsType z t t) (ap (λ (z : Path). z.0) both) refl, subst (AreTypedValues defs (x ∷ [])) (ap (λ (z : Path). z.1) both) h)
  path_steps {t = t} {w = w} (row.field {ss = ss} name u ds is has found more) x vs steps rest h e =
      let one = longer_parts (Into name) (path_of ss vs) steps rest (ap (λ z. option_and_then (λ (p : Step × List Value). option_map (longer p.0) (path_of ss p.1)) (step_at z vs)) (sym is) ∙ e) in
      let deeper = path_steps more x vs one.0 rest h one.1 in
      (subst (λ z. StepsType z t w) one.2 (ds, u, has, found, deeper.0), deeper.1)
  path_steps (row.element u g is means more) x [] steps rest h e = absurd h
  path_steps {t = t} {w = w} (row.element {ss = ss} {ts = us} u g is means more) x (v ∷ vs) steps rest h e =
      at (natural v) (ap (λ z. option_and_then (λ (p : Step × List Value). option_map (longer p.0) (path_of ss p.1)) (step_at z (v ∷ vs))) (sym is) ∙ e) (path_steps more x vs)
    where
      at : (o : Option ℕ) → option_and_then (λ (p : Step × List Value). option_map (longer p.0) (path_of ss p.1)) (option_map (λ (n : ℕ). (Nth n, vs)) o) ≡ Some (path_with steps rest)
          → ((st : List Step) (rest : List Value) → AreTypedValues defs (us ++ x ∷ []) vs → path_of ss vs ≡ Some (path_with st rest) → StepsType st u w × AreTypedValues defs (x ∷ []) rest)
          → StepsType steps t w × AreTypedValues defs (x ∷ []) rest
      at None e ih = cc
      at (Some n) e ih =
          let one = longer_parts (Nth n) (path_of ss vs) steps rest e in
          let deeper = ih one.0 rest h.1 one.1 in
          (subst (λ z. StepsType z t w) one.2 (u, means, deeper.0), deeper.1)
  path_steps (row.part u g k is means more) x [] steps rest h e = absurd h
  path_steps (row.part u g k is means more) x (v ∷ []) steps rest h e = absurd h.1
  path_steps {t = t} {w = w} (row.part {ss = ss} {ts = us} u g k is means more) x (v ∷ v' ∷ vs) steps rest h e =
      at (natural v) (natural v') (ap (λ z. option_and_then (λ (p : Step × List Value). option_map (longer p.0) (path_of ss p.1)) (step_at z (v ∷ v' ∷ vs))) (sym is) ∙ e) (path_steps more x vs)
    where
      at : (o o' : Option ℕ) → option_and_then (λ (p : Step × List Value). option_map (longer p.0) (path_of ss p.1)) (with_both (λ (m n : ℕ). Some (Part m n, vs)) o o') ≡ Some (path_with steps rest)
          → ((st : List Step) (rest : List Value) → AreTypedValues defs (us ++ x ∷ []) vs → path_of ss vs ≡ Some (path_with st rest) → StepsType st t w × AreTypedValues defs (x ∷ []) rest)
          → StepsType steps t w × AreTypedValues defs (x ∷ []) rest
      at None o' e ih = cc
      at (Some m) None e ih = cc
      at (Some m) (Some n) e ih =
          let one = longer_parts (Part m n) (path_of ss vs) steps rest e in
          let deeper = ih one.0 rest h.1.1 one.1 in
          (subst (λ z. StepsType z t w) one.2 (u, means, deeper.0), deeper.1)

  -- ---- what stands at the end is replaced

  -- sound values stay sound
  abbrev KeepsSound : Ty → Replaces → Type 0
  KeepsSound t r = (x y : Value) → Sound t x → r x ≡ Some y → Sound t y

  -- the fields of a record
  pub record SoundFields (fs : List Entry) (ds : List (Name × Ty)) : Type 0 where
    pub have : FieldsHaveTypes defs fs ds
    pub told : TextsIn defs fs
    pub numbered : NumbersIn defs fs

  field_sound : (name : Name) (u : Ty) (r : Replaces) → KeepsSound u r → (fs gs : List Entry) (ds : List (Name × Ty)) → SoundFields fs ds → field_type name ds ≡ Some u → in_field name r fs ≡ Some gs → SoundFields gs ds
  field_sound name u r keeps [] gs ds h found e = cc
  field_sound name u r keeps (f ∷ fs) gs [] h found e = cc
  field_sound name u r keeps (f ∷ fs) gs (d ∷ ds) h found e = by h.have (field_sound name u r keeps fs)
    where
      by : FieldsHaveTypes defs (f ∷ fs) (d ∷ ds) → ((gs : List Entry) (ds : List (Name × Ty)) → SoundFields fs ds → field_type name ds ≡ Some u → in_field name r fs ≡ Some gs → SoundFields gs ds) → SoundFields gs (d ∷ ds)
      by (type.one_field same has rest) ih = at (bytes_eq name f.0) refl e ih
        where
          first_texts : All IsText (texts_of f.1)
          first_texts = All-front IsText (texts_of f.1) _ (All-tail IsText f.0 _ h.told)

          first_numbers : All IsNumber (numbers_of f.1)
          first_numbers = All-front IsNumber (numbers_of f.1) _ h.numbered

          others : SoundFields fs ds
          others = record { have = rest; told = All-back IsText (texts_of f.1) _ (All-tail IsText f.0 _ h.told); numbered = All-back IsNumber (numbers_of f.1) _ h.numbered }

          -- with this value in the first field
          first : (v : Value) → Sound d.1 v → (f.0, v) ∷ fs ≡ gs → SoundFields gs (d ∷ ds)
          first v s is = subst (λ z. SoundFields z (d ∷ ds)) is (record {
            have = type.one_field same s.form rest;
            told = All-cons IsText f.0 _ (All-head IsText f.0 _ h.told) (All-append IsText (texts_of v) _ s.texts others.told);
            numbered = All-append IsNumber (numbers_of v) _ s.numbers others.numbered;
          })

          -- with these fields behind the first one
          behind : (more : List Entry) → SoundFields more ds → f ∷ more ≡ gs → SoundFields gs (d ∷ ds)
          behind more s is = subst (λ z. SoundFields z (d ∷ ds)) is (record {
            have = type.one_field same has s.have;
            told = All-cons IsText f.0 _ (All-head IsText f.0 _ h.told) (All-append IsText (texts_of f.1) _ first_texts s.told);
            numbered = All-append IsNumber (numbers_of f.1) _ first_numbers s.numbered;
          })

          here : bytes_eq name f.0 ≡ true → (o : Option Value) → r f.1 ≡ o → option_map (λ (v : Value). (f.0, v) ∷ fs) o ≡ Some gs → SoundFields gs (d ∷ ds)
          here j None k e = cc
          here j (Some v) k e =
              let typed : Some d.1 ≡ Some u = ap (λ z. if z then Some d.1 else field_type name ds) (sym (ap (bytes_eq name) (sym same) ∙ j)) ∙ found in
              let is_u : d.1 ≡ u = some_one typed in
              let old : Sound d.1 f.1 = record { form = has; texts = first_texts; numbers = first_numbers } in
              first v (subst (λ z. Sound z v) (sym is_u) (keeps f.1 v (subst (λ z. Sound z f.1) is_u old) k)) (some_one e)

          later : bytes_eq name f.0 ≡ false → (o : Option (List Entry)) → in_field name r fs ≡ o → option_map (λ (rest : List Entry). f ∷ rest) o ≡ Some gs
              → ((gs : List Entry) (ds : List (Name × Ty)) → SoundFields fs ds → field_type name ds ≡ Some u → in_field name r fs ≡ Some gs → SoundFields gs ds) → SoundFields gs (d ∷ ds)
          later j None k e ih = cc
          later j (Some more) k e ih = behind more (ih more ds others (ap (λ z. if z then Some d.1 else field_type name ds) (sym (ap (bytes_eq name) (sym same) ∙ j)) ∙ found) k) (some_one e)

          at : (b : Bool) → bytes_eq name f.0 ≡ b → (if b then option_map (λ (v : Value). (f.0, v) ∷ fs) (r f.1) else option_map (λ (rest : List Entry). f ∷ rest) (in_field name r fs)) ≡ Some gs
              → ((gs : List Entry) (ds : List (Name × Ty)) → SoundFields fs ds → field_type name ds ≡ Some u → in_field name r fs ≡ Some gs → SoundFields gs ds) → SoundFields gs (d ∷ ds)
          at true j e ih = here j (r f.1) refl e
          at false j e ih = later j (in_field name r fs) refl e ih

  -- ---- along a path

  replaced_sound : (keep : Bool) (r : Replaces) (w : Ty) → KeepsSound w r → (steps : List Step) (t : Ty) → StepsType steps t w → KeepsSound t (replaced keep r steps)
  replaced_sound keep r w keeps [] t is x y h e = subst (λ z. Sound z y) (sym is) (keeps x y (subst (λ z. Sound z x) is h) e)
  replaced_sound keep r w keeps (Into name ∷ steps) t (ds, u, has, found, more) x y h e = at (out-Value x) refl e (replaced_sound keep r w keeps steps u more)
    where
      with_fields : (fs gs : List Entry) → out-Value x ≡ Value-F.Fields fs → SoundFields gs ds → value.Fields gs ≡ y → Sound t y
      with_fields fs gs is s made_is = subst (Sound t) made_is (record {
        form = type.fields gs ds refl has s.have;
        texts = subst (All IsText) (sym (texts-level defs (value.Fields gs) (Value-F.Fields gs) (value.outs-Fields gs))) s.told;
        numbers = subst (All IsNumber) (sym (numbers-level defs (value.Fields gs) (Value-F.Fields gs) (value.outs-Fields gs))) s.numbered;
      })

      old_fields : (fs : List Entry) → out-Value x ≡ Value-F.Fields fs → SoundFields fs ds
      old_fields fs is =
          let opened : TypedAt defs (out-Value x) (out-Ty has.structure) t = typed-opened defs x t has.structure has.means h.form in
          let record_is : RecordHasType defs fs t = subst (λ z. TypedAt defs z (out-Ty has.structure) t) is opened in
          let same : record_is.declared ≡ ds = HasFields-single defs t record_is.declared ds record_is.has has in
          record {
            have = subst (FieldsHaveTypes defs fs) same record_is.typed;
            told = subst (All IsText) (texts-level defs x (Value-F.Fields fs) is) h.texts;
            numbered = subst (All IsNumber) (numbers-level defs x (Value-F.Fields fs) is) h.numbers;
          }

      by : (fs : List Entry) → out-Value x ≡ Value-F.Fields fs → (o : Option (List Entry)) → in_field name (replaced keep r steps) fs ≡ o → option_map value.Fields o ≡ Some y → KeepsSound u (replaced keep r steps) → Sound t y
      by fs is None k e ih = cc
      by fs is (Some gs) k e ih = with_fields fs gs is (field_sound name u (replaced keep r steps) ih fs gs ds (old_fields fs is) found k) (some_one e)

      at : (z : Value-F Value) → out-Value x ≡ z → option_map value.Fields (option_and_then (in_field name (replaced keep r steps)) (fields_at z)) ≡ Some y → KeepsSound u (replaced keep r steps) → Sound t y
      at (Value-F.Fields fs) is e ih = by fs is (in_field name (replaced keep r steps) fs) refl e ih
      at _ is e ih = cc
  replaced_sound keep r w keeps (Nth n ∷ steps) t (u, means, more) x y h e = at (elements x) refl e (replaced_sound keep r w keeps steps u more)
    where
      back : (zs : List Value) → EachSound u zs → value.List zs ≡ y → Sound t y
      back zs s made_is = made_list t u means zs y s made_is

      put : (xs : List Value) → EachSound u xs → (o : Option Value) (v : Value) → slice_get xs n ≡ Some v → replaced keep r steps v ≡ o → option_map value.List (option_map (λ (y : Value). take n xs ++ y ∷ drop (n + 1) xs) o) ≡ Some y
          → KeepsSound u (replaced keep r steps) → Sound t y
      put xs s None v get k e ih = cc
      put xs s (Some v') v get k e ih =
          back (take n xs ++ v' ∷ drop (n + 1) xs)
          (sound_append u (take n xs) (v' ∷ drop (n + 1) xs) (sound_take u n xs s) (ih v v' (sound_get u xs n v s get) k, sound_drop u (n + 1) xs s)) (some_one e)

      by : (xs : List Value) → EachSound u xs → (o : Option Value) → slice_get xs n ≡ o
          → option_map value.List (option_and_then (λ (x : Value). option_map (λ (y : Value). take n xs ++ y ∷ drop (n + 1) xs) (replaced keep r steps x)) o) ≡ Some y → KeepsSound u (replaced keep r steps) → Sound t y
      by xs s None get e ih = cc
      by xs s (Some v) get e ih = put xs s (replaced keep r steps v) v get refl e ih

      at : (o : Option (List Value)) → elements x ≡ o → option_map value.List (option_and_then (in_element n (replaced keep r steps)) o) ≡ Some y → KeepsSound u (replaced keep r steps) → Sound t y
      at None k e ih = cc
      at (Some xs) k e ih = by xs (parts_sound t u means x xs h k) (slice_get xs n) refl e ih
  replaced_sound keep r w keeps (Part from size ∷ steps) t (u, means, more) x y h e = at (elements x) refl e (replaced_sound keep r w keeps steps t more)
    where
      back : (xs ys : List Value) → EachSound u xs → EachSound u ys → (b : Bool) → option_map value.List (if b then Some (take from xs ++ ys ++ drop (from + size) xs) else None) ≡ Some y → Sound t y
      back xs ys s p true e =
          made_list t u means (take from xs ++ ys ++ drop (from + size) xs) y
          (sound_append u (take from xs ++ ys) (drop (from + size) xs) (sound_append u (take from xs) ys (sound_take u from xs s) p) (sound_drop u (from + size) xs s)) (some_one e)
      back xs ys s p false e = cc

      got : (xs : List Value) → EachSound u xs → (v : Value) → Sound t v → (o : Option (List Value)) → elements v ≡ o → option_map value.List (option_and_then (put_back keep from size xs) o) ≡ Some y → Sound t y
      got xs s v p None k e = cc
      got xs s v p (Some ys) k e = back xs ys s (parts_sound t u means v ys p k) (not keep || nat_eq (length ys) size) e

      changed : (xs ys : List Value) → EachSound u xs → EachSound u ys → (o : Option Value) → replaced keep r steps (value.List ys) ≡ o → option_map value.List (option_and_then (put_back keep from size xs) (option_and_then elements o)) ≡ Some y
          → KeepsSound t (replaced keep r steps) → Sound t y
      changed xs ys s p None k e ih = cc
      changed xs ys s p (Some v) k e ih = got xs s v (ih (value.List ys) v (list_sound t u means ys p) k) (elements v) refl e

      cut : (xs : List Value) → EachSound u xs → (b : Bool)
          → option_map value.List (option_and_then (put_back keep from size xs) (option_and_then elements (option_and_then (λ (ys : List Value). replaced keep r steps (value.List ys)) (if b then Some (take size (drop from xs)) else None)))) ≡ Some y
          → KeepsSound t (replaced keep r steps) → Sound t y
      cut xs s false e ih = cc
      cut xs s true e ih = changed xs (take size (drop from xs)) s (sound_take u size (drop from xs) (sound_drop u from xs s)) (replaced keep r steps (value.List (take size (drop from xs)))) refl e ih

      at : (o : Option (List Value)) → elements x ≡ o → option_map value.List (option_and_then (in_part keep from size (replaced keep r steps)) o) ≡ Some y → KeepsSound t (replaced keep r steps) → Sound t y
      at None k e ih = cc
      at (Some xs) k e ih = cut xs (parts_sound t u means x xs h k) (nat_le (from + size) (length xs)) e ih

  along_keeps : (keep : Bool) (f : Value → Replaces) (path : List PathSeg) (t w x : Ty) (ts : List Ty) → PathType defs path t ts w → ((new : Value) → Sound x new → KeepsSound w (f new))
      → KeepsTypes defs (along keep f path) (t ∷ (ts ++ x ∷ [])) t
  along_keeps keep f path t w x ts leads keeps [] v h e = absurd h
  along_keeps keep f path t w x ts leads keeps (a ∷ vs) v h e =
      let m = made_parts (option_and_then (finished keep f a) (path_of path vs)) v e in
      typed_by t v (at (path_of path vs) refl m.0) m.1
    where
      by : (steps : List Step) (rest : List Value) → StepsType steps t w → AreTypedValues defs (x ∷ []) rest → finished keep f a (path_with steps rest) ≡ Some v → Sound t v
      by steps [] s p e = absurd p
      by steps (new ∷ []) s p e = replaced_sound keep (f new) w (keeps new (sound_of x new p.0)) steps t s a v (sound_of t a h.0) e
      by steps (new ∷ other ∷ more) s p e = absurd p.1

      at : (o : Option Path) → path_of path vs ≡ o → option_and_then (finished keep f a) o ≡ Some v → Sound t v
      at None k e = cc
      at (Some p) k e = let both = path_steps leads x vs p.0 p.1 h.1 k in by p.0 p.1 both.0 both.1 e

  pub setting_keeps : (path : List PathSeg) (t w : Ty) (ts : List Ty) → PathType defs path t ts w → KeepsTypes defs (setting path) (t ∷ (ts ++ w ∷ [])) t
  setting_keeps path t w ts leads = along_keeps true (λ new old. Some new) path t w w ts leads (λ new s x y h e. let same : new ≡ y = some_one e in subst (Sound w) same s)

  pub extension_keeps : (path : List PathSeg) (t w u : Ty) (ts : List Ty) → PathType defs path t ts w → Means defs w (ty.List u) → KeepsTypes defs (extension path) (t ∷ (ts ++ w ∷ [])) t
  extension_keeps path t w u ts leads means = along_keeps false (λ new old. concatenation old new) path t w w ts leads (λ new s x y h e. at x new (elements x) (elements new) refl refl h s y e)
    where
      at : (a b : Value) (o r : Option (List Value)) → elements a ≡ o → elements b ≡ r → Sound w a → Sound w b → (y : Value) → with_both (λ (xs ys : List Value). Some (value.List (xs ++ ys))) o r ≡ Some y → Sound w y
      at a b None r j k p q y e = cc
      at a b (Some xs) None j k p q y e = cc
      at a b (Some xs) (Some ys) j k p q y e = made_list w u means (xs ++ ys) y (sound_append u xs ys (parts_sound w u means a xs p j) (parts_sound w u means b ys q k)) (some_one e)
