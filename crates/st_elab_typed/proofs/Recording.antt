-- Tuples, calls, records and cases have the types of their parts.
use Rattle.std.proofs.Common.{◌≡◌, refl, sym, ap, ◌∙◌, subst, ℕ, List, [], ◌∷◌, map, length, Bool, true, false}
use Rattle.std.specs.Prelude.{Option, Some, None, if◌then◌else◌, nat_eq}
use Rattle.std.proofs.lemmas.Bool.{eqb-true}
use Rattle.std.proofs.lemmas.List.{length-map}
use Rattle.std.proofs.lemmas.Slice.Eq.{bytes_eq-Decides}
use Rattle.st_num.specs.declared.span.Span.{Span}
use Rattle.st_num.specs.Names.{same_name, is_among}
use Rattle.st_el.specs.declared.expression.Exp.{Exp}
use Rattle.st_il.specs.Key.{PlainKey}
use Rattle.st_il.specs.declared.definition.FunDef.{FunDef}
use Rattle.st_il.specs.declared.definition.Il.{Il}
use Rattle.st_il.specs.declared.definition.Listed.{Listed}
use Rattle.st_il.specs.declared.definition.RelationDef.{RelationDef}
use Rattle.st_il.specs.declared.definition.SyntaxDef.{SyntaxDef}
use Rattle.st_il.specs.declared.expression.IlExp.TheVariants as exp
use Rattle.st_il.specs.declared.ty.Ty.{Ty, out-Ty, roll-Ty, roll-out-Ty}
use Rattle.st_il.specs.declared.ty.Ty.TheOpen.{Ty-F}
use Rattle.st_il.specs.declared.ty.Ty.TheVariants as ty
use Rattle.st_type_table.specs.declared.entry.CaseDef.{CaseDef}
use Rattle.st_type_table.specs.Meaning.{Means, fields_of}
use Rattle.st_type_table.specs.Cases.{HasCases, HasFields, operands_of}
use Rattle.st_type_table.specs.Keys.{HasKey, IsFirstWith, here, later}
use Rattle.st_notation.specs.declared.filled.Shape.{Shape}
use Rattle.st_notation.specs.Elements.{bare}
use Rattle.st_notation.specs.Fits.{Filling}
use Rattle.st_notation.proofs.FitsLemmas.{Fits-length}
use Rattle.st_dims.specs.declared.within.Within.{Within}
use Rattle.st_il.specs.Definitions.{syntaxes, funs_in}
use Rattle.st_semantics.specs.Typing.{function_named}
use Rattle.st_elab_table.specs.declared.decls.Scope.{Scope}
use Rattle.st_elab_table.specs.Choice.{HaveShapes, IsChosenBy, FillsCase, IsCaseOf}
use Rattle.st_elab_table.specs.Inferred.{fun_named, call_row, inferred_tuple}
use Rattle.st_elab_table.specs.Questions.{Manner, Made, Chosen, Step}
use Rattle.st_elab_table.specs.Steps.{give, found, each_asked, holes, holes_behind, ty_of, exps}
use Rattle.st_elab_table.specs.Records.{aligned, field_names, field_types, filled_fields, record_by, record_row, passed_on, variant_row, notation_row}
use Rattle.st_elab_table.proofs.FoundByName.{fun_named-found}
use Rattle.st_elab_typed.specs.Law.{AreListedAs}
use Rattle.st_elab_typed.proofs.Claims.{decls_of, IsChecked, IsInferred, Claims, Kept}
use Rattle.st_elab_typed.proofs.HasLemmas.{Has-exactly}
use Rattle.st_elab_typed.proofs.EachHas.{EachHas, EachIs, Has-Tuple, Has-Tuple_exact, Has-Call, Has-Fields, Has-Case}
use Rattle.st_elab_typed.proofs.Fitting.{Fits-fill, FillTypes, FillTypes-shaped, FillTypes-aligned}
use Rattle.st_elab_typed.proofs.Keeping.{is_tuple, keeps_if, keeps_asks, keeps_shaped}
use Rattle.st_elab_typed.proofs.Listing.{other_keeps}
use Rattle.st_elab_typed.proofs.KnownTypes.{fun_name}

same_itself : (name : List ℕ) → same_name name name ≡ true
same_itself name = (bytes_eq-Decides name name).1 refl

-- ---- cases by their tags

-- the first case with a key is the first with its tag
operands_of-first : (k : PlainKey) (cases : List CaseDef) (c : CaseDef) → IsFirstWith k cases c → HasKey c.tag k × (operands_of cases c.tag ≡ Some c.operands)
operands_of-first k [] c h = elim h [ ]
operands_of-first k (d ∷ cs) c (here h) = (h, ap (λ b. if b then Some c.operands else operands_of cs c.tag) (same_itself c.tag))
operands_of-first k (d ∷ cs) c (later n first) = let r = operands_of-first k cs c first in (r.0, by (same_name d.tag c.tag) refl r.0 r.1)
  where
    by : (b : Bool) → same_name d.tag c.tag ≡ b → HasKey c.tag k → operands_of cs c.tag ≡ Some c.operands → (if b then Some d.operands else operands_of cs c.tag) ≡ Some c.operands
    by true same has h = absurd (n (subst (λ z. HasKey z k) (sym ((bytes_eq-Decides d.tag c.tag).0 same)) has))
    by false same has h = h

operands_of-chosen : (k : PlainKey) (cases : List CaseDef) (c : CaseDef) → IsChosenBy k cases c → operands_of cases c.tag ≡ Some c.operands
operands_of-chosen k cases c (IsChosenBy.keyed first) = (operands_of-first k cases c first).1
operands_of-chosen k cases c (IsChosenBy.keyless none first) = (operands_of-first _ cases c first).1

-- ---- functions by their names

pub function_named-found : (il : Il) (name : List ℕ) (f : FunDef) → fun_named (funs_in il.defs) name ≡ Some f → function_named il f.name ≡ Some f
function_named-found il name f h =
    subst (λ z. function_named il z ≡ Some f) (sym (fun_name (funs_in il.defs) name f h)) (fun_named-found name (funs_in il.defs) ∙ h)

-- what fills a notation may fill its holes
pub FillTypes-case : (defs : List SyntaxDef) (c : CaseDef) (e : Exp) (fillings : List Filling) → FillsCase defs c e fillings → FillTypes defs fillings c.operands
FillTypes-case defs c e fillings h =
    let counted : length fillings ≡ length c.operands = Fits-length h.template h.shapes (bare e) fillings h.fits ∙ sym h.counted in
    FillTypes-shaped defs c.operands h.shapes fillings h.shaped (Fits-fill h.template h.shapes (bare e) fillings h.fits) counted

module _ (il : Il) (vars : List (List ℕ × Ty)) (relations : List RelationDef) (S : Scope) (total : (t : Ty) → (u : Ty) × Means (syntaxes il) t u) (w : Within) where
  abbrev Ok : List Listed → Type 0
  Ok = AreListedAs (decls_of il vars relations) S w

  abbrev Checks : Ty → Step → Type 0
  Checks t s = Kept il vars relations S (IsChecked il vars relations S w t) s

  abbrev Infers : Step → Type 0
  Infers s = Kept il vars relations S (IsInferred il vars relations S w) s

  -- ---- parts in order

  pub each_asked_has : (es : List Exp) (ts : List Ty) (ms : List Made) → length es ≡ length ts → Claims il vars relations S (each_asked w es ts) ms → EachHas il Ok (exps ms) ts
  each_asked_has [] [] [] l c = tt
  each_asked_has [] [] (m ∷ ms) l c = absurd c
  each_asked_has [] (t ∷ ts) ms l c = absurd (cc)
  each_asked_has (e ∷ es) [] ms l c = absurd (cc)
  each_asked_has (e ∷ es) (t ∷ ts) [] l c = absurd c
  each_asked_has (e ∷ es) (t ∷ ts) (m ∷ ms) l c = (c.0.0, each_asked_has es ts ms (cc) c.1)

  each_found_is : (es : List Exp) (ms : List Made) → Claims il vars relations S (map (found w) es) ms → EachIs il Ok (exps ms) (map ty_of ms)
  each_found_is [] [] c = tt
  each_found_is [] (m ∷ ms) c = absurd c
  each_found_is (e ∷ es) [] c = absurd c
  each_found_is (e ∷ es) (m ∷ ms) c = (c.0, each_found_is es ms c.1)

  pub each_hole_has : (at : Span) (passed : List (List ℕ)) (fs : List Filling) (ts : List Ty) (ms : List Made) → FillTypes (syntaxes il) fs ts → Claims il vars relations S (holes_behind w at passed fs ts) ms → EachHas il Ok (exps ms) ts
  each_hole_has at passed [] [] [] f c = tt
  each_hole_has at passed [] [] (m ∷ ms) f c = absurd c
  each_hole_has at passed [] (t ∷ ts) ms f c = absurd f
  each_hole_has at passed (g ∷ fs) [] ms f c = absurd f
  each_hole_has at passed (g ∷ fs) (t ∷ ts) [] f c = absurd c
  each_hole_has at passed (g ∷ fs) (t ∷ ts) (m ∷ ms) f c = (c.0 f.0, each_hole_has at passed fs ts ms f.1 c.1)

  -- ---- tuples and calls

  pub tuple_has : (es : List Exp) (ts : List Ty) (t u : Ty) (ms : List Made) → Means (syntaxes il) t u → out-Ty u ≡ Ty-F.Tuple ts → length es ≡ length ts → Claims il vars relations S (each_asked w es ts) ms
      → IsChecked il vars relations S w t (record { exp = exp.Tuple (exps ms); ty = t; spliced = false })
  tuple_has es ts t u ms means is l c = (Has-Tuple il Ok (exps ms) ts t (subst (Means (syntaxes il) t) (is_tuple u ts is) means) (each_asked_has es ts ms l c), refl)

  pub inferred_tuple_keeps : (es : List Exp) → Infers (inferred_tuple w es)
  inferred_tuple_keeps es = keeps_asks il vars relations S (IsInferred il vars relations S w) (map (found w) es) (λ ms. give (exp.Tuple (exps ms)) (ty.Tuple (map ty_of ms)))
      (λ ms c. Has-Tuple_exact il Ok (exps ms) (map ty_of ms) (each_found_is es ms c))

  pub call_keeps : (at : Span) (name : List ℕ) (es : List Exp) → Infers (call_row w at es (fun_named (funs_in il.defs) name))
  call_keeps at name es = by (fun_named (funs_in il.defs) name) refl
    where
      by : (o : Option FunDef) → fun_named (funs_in il.defs) name ≡ o → Infers (call_row w at es o)
      by None h = tt
      by (Some f) h = keeps_if il vars relations S (IsInferred il vars relations S w) (nat_eq (length es) (length f.params)) _ _
          (λ same. keeps_asks il vars relations S (IsInferred il vars relations S w) (each_asked w es f.params) (λ ms. give (exp.Call f.name (exps ms)) f.result)
          (λ ms c. Has-Call il Ok f.name (exps ms) f (function_named-found il name f h) (each_asked_has es f.params ms (eqb-true (length es) (length f.params) same) c)))
          (λ _. tt)

  -- ---- records

  named_is : (t : Ty) (name : List ℕ) → out-Ty t ≡ Ty-F.Name name → t ≡ ty.Name name
  named_is t name is = sym (roll-out-Ty t) ∙ ap roll-Ty is ∙ ty.rolls-Name name

  filled_keeps : (at : Span) (name : List ℕ) (given : List (List ℕ × Exp)) (t : Ty) (declared : List (List ℕ × Ty)) (ss : List Shape) → t ≡ ty.Name name → HasFields (syntaxes il) (ty.Name name) declared
      → HaveShapes (syntaxes il) (field_types declared) ss → Checks t (filled_fields w at name (field_types declared) t (aligned (field_names declared) ss given))
  filled_keeps at name given t declared ss is has shaped = by (aligned (field_names declared) ss given) refl
    where
      lengths : length (field_names declared) ≡ length (field_types declared)
      lengths = length-map declared (λ (f : List ℕ × Ty). f.0) ∙ sym (length-map declared (λ (f : List ℕ × Ty). f.1))

      by : (o : Option (List Filling)) → aligned (field_names declared) ss given ≡ o → Checks t (filled_fields w at name (field_types declared) t o)
      by None h = tt
      by (Some fs) h = keeps_asks il vars relations S (IsChecked il vars relations S w t) (holes w at fs (field_types declared)) (λ ms. give (exp.Fields name (exps ms)) t)
          (λ ms c. (subst (λ z. (IsChecked il vars relations S w z (record { exp = exp.Fields name (exps ms); ty = t; spliced = false }))) (sym is) (
            Has-exactly il Ok total (exp.Fields name (exps ms)) (ty.Name name)
                (Has-Fields il Ok name (exps ms) declared has
                (each_hole_has at [] fs (field_types declared) ms (FillTypes-aligned (syntaxes il) (field_names declared) (field_types declared) ss given fs lengths shaped h) c)),
            refl,
          )))

  pub record_keeps : (at : Span) (p : Manner) (e : Exp) (given : List (List ℕ × Exp)) (t u : Ty) → Means (syntaxes il) t u → Checks t (record_row (decls_of il vars relations) w at p e given t u)
  record_keeps at p e given t u means = by (out-Ty t) refl (fields_of (syntaxes il) u) refl
    where
      by : (y : Ty-F Ty) → out-Ty t ≡ y → (o : Option (List (List ℕ × Ty))) → fields_of (syntaxes il) u ≡ o → Checks t (record_by w at p e given t u y o)
      by (Ty-F.Name name) opens (Some declared) has =
          keeps_shaped il vars relations S (IsChecked il vars relations S w t) (field_types declared) (λ ss. filled_fields w at name (field_types declared) t (aligned (field_names declared) ss given))
          (λ ss shaped. filled_keeps at name given t declared ss (named_is t name opens)
          (record { structure = u; means = subst (λ z. Means (syntaxes il) z u) (named_is t name opens) means; declared = has }) shaped)
      by (Ty-F.Name name) opens None has = other_keeps il vars relations S total w at p e t u (out-Ty u) means refl
      by y opens o has = other_keeps il vars relations S total w at p e t u (out-Ty u) means refl

  -- ---- cases

  case_has : (at : Span) (passed : List (List ℕ)) (e : Exp) (t : Ty) (c : Chosen) (ms : List Made) → IsCaseOf (syntaxes il) t e c → Claims il vars relations S (holes_behind w at passed c.fillings c.operands) ms
      → IsChecked il vars relations S w t (record { exp = exp.Case c.name c.tag (exps ms); ty = t; spliced = false })
  case_has at passed e t c ms h g =
      let case : CaseDef = record { tag = c.tag; operands = c.operands } in
      let fill = FillTypes-case (syntaxes il) case e c.fillings h.filled in
      subst (λ z. IsChecked il vars relations S w z (record { exp = exp.Case c.name c.tag (exps ms); ty = t; spliced = false })) (sym h.asked) (
        Has-exactly il Ok total (exp.Case c.name c.tag (exps ms)) (ty.Name c.name)
            (Has-Case il Ok c.name c.tag (exps ms) h.cases c.operands (subst (λ z. HasCases (syntaxes il) z h.cases) h.asked h.has) (operands_of-chosen _ h.cases case h.chosen)
            (each_hole_has at passed c.fillings c.operands ms fill g)),
        refl,
      )

  variant_keeps : (at : Span) (passed : List (List ℕ)) (e : Exp) (t : Ty) (y : Ty-F Ty) → Checks t (variant_row w at passed e t y)
  variant_keeps at passed e t (Ty-F.Name variant) = keeps_if il vars relations S (IsChecked il vars relations S w t) (is_among variant passed) _ _ (λ _. tt) (λ _. (
    (λ c h. keeps_asks il vars relations S (IsChecked il vars relations S w t) (holes_behind w at (passed_on c.whole passed variant) c.fillings c.operands) (λ ms. give (exp.Case c.name c.tag (exps ms)) t)
        (λ ms g. case_has at (passed_on c.whole passed variant) e t c ms h g)),
    (λ _. tt),
  ))
  variant_keeps at passed e t y = tt

  pub notation_keeps : (at : Span) (p : Manner) (e : Exp) (t u : Ty) → Means (syntaxes il) t u → Checks t (notation_row w at p e t u)
  notation_keeps at p e t u means = ((λ _. variant_keeps at p.passed e t (out-Ty u)), (λ _. other_keeps il vars relations S total w at p e t u (out-Ty u) means refl))
