-- Records and variants, as the code takes them.
use Rattle.std.proofs.Common.{◌≡◌, refl, sym, ap, ◌∙◌, subst, arith, ℕ, ◌+◌, ◌<◌, List, [], ◌∷◌, ◌++◌, length, drop, get_or, append_assoc, append-nil, Bool, true, false, Option, Some, None, if◌then◌else◌}
use Rattle.std.specs.Prelude.{MatchOption}
use Rattle.std.specs.Option.{option_map}
use Rattle.std.proofs.lemmas.List.{map-append}
use Rattle.st_num.specs.declared.span.Span.{Span}
use Rattle.st_num.specs.declared.rule.RuleId.TheVariants.{Y4}
use Rattle.st_num.specs.Names.{same_name}
use Rattle.st_el.specs.declared.expression.Exp.{Exp}
use Rattle.st_il.specs.declared.ty.Ty.{Ty, out-Ty, roll-Ty, roll-out-Ty}
use Rattle.st_il.specs.declared.ty.Ty.TheOpen.{Ty-F}
use Rattle.st_il.specs.declared.ty.Ty.TheVariants as ty
use Rattle.st_il.specs.declared.definition.SyntaxDef.{SyntaxDef}
use Rattle.st_il.specs.declared.expression.IlExp.TheVariants as il
use Rattle.st_il.specs.declared.template.Template.{Template}
use Rattle.st_il.specs.Template.{HasTag}
use Rattle.st_type_table.specs.declared.entry.CaseDef.{CaseDef}
use Rattle.st_type_table.specs.Meaning.{Means, fields_of}
use Rattle.st_type_table.specs.Cases.{HasCases, HasFields}
use Rattle.st_type_table.proofs.MeansLemmas.{Means-single}
use Rattle.st_type_table.proofs.CasesLemmas.{HasCases-single}
use Rattle.st_notation.specs.declared.filled.Shape.{Shape}
use Rattle.st_notation.specs.declared.filled.Filled.{Filled}
use Rattle.st_notation.specs.Fits.{Filling, one, missing}
use Rattle.st_notation.specs.Fitted.{plain, fillings}
use Rattle.st_notation.specs.Key.{key_of}
use Rattle.st_elab_table.specs.declared.decls.Decls.{Decls}
use Rattle.st_elab_table.specs.declared.decls.Scope.{Scope}
use Rattle.st_dims.specs.declared.within.Within.{Within}
use Rattle.st_elab_table.proofs.ChoiceLemmas.{ChosenBy-single}
use Rattle.st_elab_table.specs.Choice.{shape_of, HaveShapes, IsChosenBy, IsChosenAt, FillsCase, takes_whole, IsCaseOf}
use Rattle.st_elab_table.specs.Questions.{Manner, Chosen, Answer, Fails, Step, asks}
use Rattle.st_elab_table.specs.Steps.{give, holes, holes_behind, exps}
use Rattle.st_elab_table.specs.Collections.{other_row}
use Rattle.st_elab_table.specs.Records.{is_omissible, omitted, aligned, shaped, field_names, field_types, filled_fields, fields_of_record, record_by, record_row, passed_on, case_row}
use Rattle.st_elab_table.specs.Elaboration.{Leads, ends, opens, fills}
use Rattle.st_elab_rows.proofs.Builds.{from_place}

-- ---- fields

some_or_none : {A B : Type 0} (f g : A → B) (o : Option A) → ((x : A) → f x ≡ g x) → option_map f o ≡ option_map g o
some_or_none f g None e = refl
some_or_none f g (Some x) e = ap Some (e x)

mapped_twice : {A B C : Type 0} (f : B → C) (g : A → B) (o : Option A) → option_map f (option_map g o) ≡ option_map (λ x. f (g x)) o
mapped_twice f g None = refl
mapped_twice f g (Some x) = refl

-- one field more is filled
pub align_more : (all left rest : Option (List Filling)) (done : List Filling) (f : Filling) → all ≡ option_map (λ (fs : List Filling). done ++ fs) left
    → left ≡ option_map (λ (fs : List Filling). f ∷ fs) rest → all ≡ option_map (λ (fs : List Filling). (done ++ f ∷ []) ++ fs) rest
align_more all left rest done f h is =
    h ∙ ap (option_map (λ (fs : List Filling). done ++ fs)) is ∙ mapped_twice (λ (fs : List Filling). done ++ fs) (λ (fs : List Filling). f ∷ fs) rest
    ∙ some_or_none (λ (fs : List Filling). done ++ f ∷ fs) (λ (fs : List Filling). (done ++ f ∷ []) ++ fs) rest (λ fs. sym (append_assoc done (f ∷ []) fs))

-- nothing fills what is left
pub align_none : (all left : Option (List Filling)) (done : List Filling) → all ≡ option_map (λ (fs : List Filling). done ++ fs) left → left ≡ None → all ≡ None
align_none all left done h is = h ∙ ap (option_map (λ (fs : List Filling). done ++ fs)) is

-- all is filled
pub align_ends : (all left : Option (List Filling)) (done : List Filling) → all ≡ option_map (λ (fs : List Filling). done ++ fs) left → left ≡ Some [] → all ≡ Some done
align_ends all left done h is = h ∙ ap (option_map (λ (fs : List Filling). done ++ fs)) is ∙ ap Some (append-nil done)

pub no_shapes : (names : List (List ℕ)) (name : List ℕ) (written : List (List ℕ × Exp)) (ss : List Shape) → ss ≡ [] → aligned (name ∷ names) ss written ≡ None
no_shapes names name written ss is = ap (λ z. aligned (name ∷ names) z written) is

module _ (D : Decls) (S : Scope) where
  pub shaped_leads : (ts : List Ty) (ss : List Shape) (next : List Shape → Step) (a : Answer) → HaveShapes D.types ts ss → Leads D S (next ss) a → Leads D S (shaped ts next) a
  shaped_leads [] [] next a h l = l
  shaped_leads [] (s ∷ ss) next a h l = absurd h
  shaped_leads (t ∷ ts) [] next a h l = absurd h
  shaped_leads (t ∷ ts) (s ∷ ss) next a h l =
      opens h.0.0 h.0.1 (shaped_leads ts ss (λ rs. next (shape_of h.0.0 ∷ rs)) a h.1 (subst (λ z. Leads D S (next (z ∷ ss)) a) h.0.2 l))

  -- the declared fields are filled
  pub record_fills : (w : Within) (at : Span) (name : List ℕ) (written : List (List ℕ × Exp)) (t : Ty) (fields : List (List ℕ × Ty)) (ss : List Shape) (fs : List Filling) (a : Answer)
      → HaveShapes D.types (field_types fields) ss → aligned (field_names fields) ss written ≡ Some fs
      → Leads D S (asks (holes w at fs (field_types fields)) (λ ms. give (il.Fields name (exps ms)) t)) a
      → Leads D S (fields_of_record w at name written t fields) a
  record_fills w at name written t fields ss fs a have is h =
      shaped_leads (field_types fields) ss _ a have (subst (λ z. Leads D S (filled_fields w at name (field_types fields) t z) a) (sym is) h)

  pub record_unfit : (w : Within) (at : Span) (name : List ℕ) (written : List (List ℕ × Exp)) (t : Ty) (fields : List (List ℕ × Ty)) (ss : List Shape)
      → HaveShapes D.types (field_types fields) ss → aligned (field_names fields) ss written ≡ None
      → Leads D S (fields_of_record w at name written t fields) (Fails (record { at = at; rule = Y4 }))
  record_unfit w at name written t fields ss have is =
      shaped_leads (field_types fields) ss _ _ have
      (subst (λ z. Leads D S (filled_fields w at name (field_types fields) t z) (Fails (record { at = at; rule = Y4 }))) (sym is) ends)

  -- ---- records

  pub record_has : (w : Within) (at : Span) (p : Manner) (e : Exp) (written : List (List ℕ × Exp)) (t u : Ty) (name : List ℕ) (fields : List (List ℕ × Ty)) (a : Answer)
      → t ≡ ty.Name name → Means D.types t u → HasFields D.types t fields
      → Leads D S (fields_of_record w at name written t fields) a → Leads D S (record_row D w at p e written t u) a
  record_has w at p e written t u name fields a is means has h =
      let same : has.structure ≡ u = Means-single D.types t has.structure u has.means means in
      let declared : fields_of D.types u ≡ Some fields = subst (λ z. fields_of D.types z ≡ Some fields) same has.declared in
      subst (λ z. Leads D S (record_by w at p e written t u z (fields_of D.types u)) a) (sym (ap out-Ty is ∙ ty.outs-Name name))
      (subst (λ z. Leads D S (record_by w at p e written t u (Ty-F.Name name) z) a) (sym declared) h)

  fields_absent : (t u : Ty) → Means D.types t u → ((fields : List (List ℕ × Ty)) → HasFields D.types t fields → ⊥) → fields_of D.types u ≡ None
  fields_absent t u m none = go (fields_of D.types u) refl
    where
      go : (o : Option (List (List ℕ × Ty))) → fields_of D.types u ≡ o → o ≡ None
      go None e = refl
      go (Some fields) e = absurd (none fields (record { structure = u; means = m; declared = e }))

  by_none : (w : Within) (at : Span) (p : Manner) (e : Exp) (written : List (List ℕ × Exp)) (t u : Ty) (y : Ty-F Ty) → record_by w at p e written t u y None ≡ other_row w at p e t (out-Ty u)
  by_none w at p e written t u (Ty-F.Name n) = refl
  by_none w at p e written t u y = refl

  pub record_none : (w : Within) (at : Span) (p : Manner) (e : Exp) (written : List (List ℕ × Exp)) (t u : Ty) (a : Answer)
      → Means D.types t u → ((fields : List (List ℕ × Ty)) → HasFields D.types t fields → ⊥)
      → Leads D S (other_row w at p e t (out-Ty u)) a → Leads D S (record_row D w at p e written t u) a
  record_none w at p e written t u a means none h =
      subst (λ z. Leads D S (record_by w at p e written t u (out-Ty t) z) a) (sym (fields_absent t u means none))
      (subst (λ z. Leads D S z a) (sym (by_none w at p e written t u (out-Ty t))) h)

  by_no_name : (w : Within) (at : Span) (p : Manner) (e : Exp) (written : List (List ℕ × Exp)) (t u : Ty) (o : Option (List (List ℕ × Ty))) (y : Ty-F Ty) → ((n : List ℕ) → y ≡ Ty-F.Name n → ⊥)
      → record_by w at p e written t u y o ≡ other_row w at p e t (out-Ty u)
  by_no_name w at p e written t u o (Ty-F.Name n) unnamed = absurd (unnamed n refl)
  by_no_name w at p e written t u o y unnamed = refl

  pub record_unnamed : (w : Within) (at : Span) (p : Manner) (e : Exp) (written : List (List ℕ × Exp)) (t u : Ty) (a : Answer)
      → ((n : List ℕ) → t ≡ ty.Name n → ⊥) → Leads D S (other_row w at p e t (out-Ty u)) a → Leads D S (record_row D w at p e written t u) a
  record_unnamed w at p e written t u a unnamed h =
      subst (λ z. Leads D S z a) (sym (by_no_name w at p e written t u (fields_of D.types u) (out-Ty t) (λ n o. unnamed n (sym (roll-out-Ty t) ∙ (ap roll-Ty o ∙ ty.rolls-Name n))))) h

  -- ---- variants

  -- what fills the chosen case
  pub case_fills : (w : Within) (at : Span) (passed : List (List ℕ)) (e : Exp) (t : Ty) (variant name : List ℕ) (c : CaseDef) (fs : List Filling) (whole : Bool) (a : Answer)
      → t ≡ ty.Name name → IsChosenAt D.types t (key_of e) c → FillsCase D.types c e fs → ((t : Template) → HasTag t c.tag → whole ≡ takes_whole t e)
      → Leads D S (asks (holes_behind w at (passed_on whole passed variant) fs c.operands) (λ ms. give (il.Case name c.tag (exps ms)) t)) a → Leads D S (case_row w at passed e t variant) a
  case_fills w at passed e t variant name c fs whole a is at_type filled takes h =
      fills (record { name = name; tag = c.tag; operands = c.operands; fillings = fs; whole = whole })
      (record { cases = at_type.cases; asked = is; has = at_type.has; chosen = at_type.chosen; filled = filled; whole = takes filled.template filled.tagged }) h

abbrev IsFilled : List SyntaxDef → CaseDef → Exp → Option (List Filled) → Type 0
IsFilled defs d e o = MatchOption o ((fs : List Filling) → FillsCase defs d e fs → ⊥) (λ filled. FillsCase defs d e (fillings filled))

-- what is filled fills the case
pub filled_in : (defs : List SyntaxDef) (d : CaseDef) (e : Exp) (o : Option (List Filled)) (filled : List Filled) → o ≡ Some filled → IsFilled defs d e o → FillsCase defs d e (fillings filled)
filled_in defs d e o filled is h = subst (IsFilled defs d e) is h

pub none_filled : (defs : List SyntaxDef) (d : CaseDef) (e : Exp) (o : Option (List Filled)) → o ≡ None → IsFilled defs d e o → (fs : List Filling) → FillsCase defs d e fs → ⊥
none_filled defs d e o is h = subst (IsFilled defs d e) is h

-- the expression is no case of the type
pub unnamed_unfit : (defs : List SyntaxDef) (t : Ty) (e : Exp) → ((n : List ℕ) → t ≡ ty.Name n → ⊥) → (c : Chosen) → IsCaseOf defs t e c → ⊥
unnamed_unfit defs t e unnamed c h = unnamed c.name h.asked

pub none_chosen : (defs : List SyntaxDef) (t : Ty) (e : Exp) → ((c : CaseDef) → IsChosenAt defs t (key_of e) c → ⊥) → (c : Chosen) → IsCaseOf defs t e c → ⊥
none_chosen defs t e none c h = none (record { tag = c.tag; operands = c.operands }) (record { cases = h.cases; has = h.has; chosen = h.chosen })

pub none_fills : (defs : List SyntaxDef) (t : Ty) (e : Exp) (d : CaseDef) → IsChosenAt defs t (key_of e) d
    → ((fs : List Filling) → FillsCase defs d e fs → ⊥) → (c : Chosen) → IsCaseOf defs t e c → ⊥
none_fills defs t e d at none c h =
    let one : CaseDef = record { tag = c.tag; operands = c.operands } in
    let there : IsChosenBy (key_of e) at.cases one = subst (λ z. IsChosenBy (key_of e) z one) (HasCases-single defs t h.cases at.cases h.has at.has) h.chosen in
    let same : one ≡ d = ChosenBy-single (key_of e) at.cases one d there at.chosen in
    none c.fillings (subst (λ z. FillsCase defs z e c.fillings) same h.filled)

-- ---- one declared field

pub none_written : (name : List ℕ) (names : List (List ℕ)) (s : Shape) (ss : List Shape) (written : List (List ℕ × Exp)) → written ≡ []
    → aligned (name ∷ names) (s ∷ ss) written ≡ omitted s (aligned names ss written)
none_written name names s ss written is = ap (aligned (name ∷ names) (s ∷ ss)) is ∙ ap (λ z. omitted s (aligned names ss z)) (sym is)

pub first_fills : (name : List ℕ) (names : List (List ℕ)) (s : Shape) (ss : List Shape) (written rest : List (List ℕ × Exp)) (w : List ℕ × Exp) → written ≡ w ∷ rest → same_name name w.0 ≡ true
    → aligned (name ∷ names) (s ∷ ss) written ≡ option_map (λ (fs : List Filling). one w.1 ∷ fs) (aligned names ss rest)
first_fills name names s ss written rest w is same =
    ap (aligned (name ∷ names) (s ∷ ss)) is
    ∙ ap (λ b. if b then option_map (λ (fs : List Filling). one w.1 ∷ fs) (aligned names ss rest) else omitted s (aligned names ss (w ∷ rest))) same

pub first_differs : (name : List ℕ) (names : List (List ℕ)) (s : Shape) (ss : List Shape) (written rest : List (List ℕ × Exp)) (w : List ℕ × Exp) → written ≡ w ∷ rest → same_name name w.0 ≡ false
    → aligned (name ∷ names) (s ∷ ss) written ≡ omitted s (aligned names ss written)
first_differs name names s ss written rest w is differs =
    ap (aligned (name ∷ names) (s ∷ ss)) is
    ∙ ap (λ b. if b then option_map (λ (fs : List Filling). one w.1 ∷ fs) (aligned names ss rest) else omitted s (aligned names ss (w ∷ rest))) differs
    ∙ ap (λ z. omitted s (aligned names ss z)) (sym is)

pub omitted_fills : (s : Shape) (o : Option (List Filling)) → is_omissible s ≡ true → omitted s o ≡ option_map (λ (fs : List Filling). missing ∷ fs) o
omitted_fills s o is = ap (λ b. if b then option_map (λ (fs : List Filling). missing ∷ fs) o else None) is

pub not_omitted : (s : Shape) (o : Option (List Filling)) → is_omissible s ≡ false → omitted s o ≡ None
not_omitted s o is = ap (λ b. if b then option_map (λ (fs : List Filling). missing ∷ fs) o else None) is

-- ---- all declared fields

aligned_from : (fields : List (List ℕ × Ty)) (i : ℕ) (field : List ℕ × Ty) (left others : List Shape) (s : Shape) (rest : List (List ℕ × Exp))
    → i < length fields → field ≡ get_or fields i field → left ≡ s ∷ others
    → aligned (field_names (drop i fields)) left rest ≡ aligned (field.0 ∷ field_names (drop (i + 1) fields)) (s ∷ others) rest
aligned_from fields i field left others s rest inside is taken =
    ap (λ z. aligned (field_names z) left rest) (from_place fields i field inside is)
    ∙ ap (λ z. aligned (field.0 ∷ field_names (drop (i + 1) fields)) z rest) taken

-- the next field is filled
pub align_step : (all : Option (List Filling)) (fields : List (List ℕ × Ty)) (i : ℕ) (field : List ℕ × Ty) (left others : List Shape) (s : Shape)
    (rest behind : List (List ℕ × Exp)) (filled now : List Filled) (f : Filled)
    → i < length fields → field ≡ get_or fields i field → left ≡ s ∷ others → now ≡ filled ++ f ∷ []
    → ((names : List (List ℕ)) (ss : List Shape) → aligned (field.0 ∷ names) (s ∷ ss) rest ≡ option_map (λ (fs : List Filling). plain f ∷ fs) (aligned names ss behind))
    → all ≡ option_map (λ (fs : List Filling). fillings filled ++ fs) (aligned (field_names (drop i fields)) left rest)
    → all ≡ option_map (λ (fs : List Filling). fillings now ++ fs) (aligned (field_names (drop (i + 1) fields)) others behind)
align_step all fields i field left others s rest behind filled now f inside is taken pushed placed h =
    let next = aligned (field_names (drop (i + 1) fields)) others behind in
    subst (λ z. all ≡ option_map (λ (fs : List Filling). z ++ fs) next) (sym (ap fillings pushed ∙ map-append plain filled (f ∷ [])))
    (align_more all (aligned (field_names (drop i fields)) left rest) next (fillings filled) (plain f) h
    (aligned_from fields i field left others s rest inside is taken ∙ placed (field_names (drop (i + 1) fields)) others))

-- the next field is not filled
pub align_stops : (all : Option (List Filling)) (fields : List (List ℕ × Ty)) (i : ℕ) (field : List ℕ × Ty) (left others : List Shape) (s : Shape)
    (rest : List (List ℕ × Exp)) (done : List Filling)
    → i < length fields → field ≡ get_or fields i field → left ≡ s ∷ others
    → ((names : List (List ℕ)) (ss : List Shape) → aligned (field.0 ∷ names) (s ∷ ss) rest ≡ None)
    → all ≡ option_map (λ (fs : List Filling). done ++ fs) (aligned (field_names (drop i fields)) left rest) → None ≡ all
align_stops all fields i field left others s rest done inside is taken none h =
    sym (align_none all _ done h (aligned_from fields i field left others s rest inside is taken ∙ none (field_names (drop (i + 1) fields)) others))

-- there is a field without a shape
pub align_unshaped : (all : Option (List Filling)) (fields : List (List ℕ × Ty)) (i : ℕ) (field : List ℕ × Ty) (left : List Shape)
    (rest : List (List ℕ × Exp)) (done : List Filling) → i < length fields → field ≡ get_or fields i field → left ≡ []
    → all ≡ option_map (λ (fs : List Filling). done ++ fs) (aligned (field_names (drop i fields)) left rest) → None ≡ all
align_unshaped all fields i field left rest done inside is none h =
    sym (align_none all _ done h
    (ap (λ z. aligned (field_names z) left rest) (from_place fields i field inside is) ∙ no_shapes (field_names (drop (i + 1) fields)) field.0 rest left none))

-- all declared fields are filled, and all written fields are used
pub align_whole : (all : Option (List Filling)) (fields : List (List ℕ × Ty)) (left : List Shape) (rest : List (List ℕ × Exp)) (done : List Filling)
    → fields ≡ [] → rest ≡ [] → all ≡ option_map (λ (fs : List Filling). done ++ fs) (aligned (field_names fields) left rest) → Some done ≡ all
align_whole all fields left rest done none used h =
    sym (align_ends all _ done h (ap (λ z. aligned (field_names z) left rest) none ∙ ap (aligned [] left) used))

unused : (left : List Shape) (rest : List (List ℕ × Exp)) → 0 < length rest → aligned [] left rest ≡ None
unused left [] h = absurd (omega arith)
unused left (w ∷ rest) h = refl

-- a written field is left
pub align_unused : (all : Option (List Filling)) (fields : List (List ℕ × Ty)) (left : List Shape) (rest : List (List ℕ × Exp)) (done : List Filling)
    → fields ≡ [] → 0 < length rest → all ≡ option_map (λ (fs : List Filling). done ++ fs) (aligned (field_names fields) left rest) → None ≡ all
align_unused all fields left rest done none more h =
    sym (align_none all _ done h (ap (λ z. aligned (field_names z) left rest) none ∙ unused left rest more))
