-- Tuples, calls and records are erased to their parts.
use Rattle.std.proofs.Common.{◌≡◌, refl, sym, ◌∙◌, ap, subst, ℕ, List, [], ◌∷◌, ◌++◌, map, length, Bool, true, false}
use Rattle.std.specs.Prelude.{Option, Some, None, if◌then◌else◌, nat_eq}
use Rattle.std.specs.Option.{option_map}
use Rattle.std.proofs.lemmas.Bool.{eqb-true}
use Rattle.std.proofs.lemmas.Slice.Eq.{bytes_eq-Decides}
use Rattle.st_num.specs.declared.span.Span.{Span}
use Rattle.st_el.specs.declared.expression.Exp.{Exp}
use Rattle.st_el.specs.declared.expression.Node.{roll-Node}
use Rattle.st_el.specs.declared.expression.Node.TheVariants as node
use Rattle.st_el.specs.declared.expression.Count.TheOpen.{Node-F}
use Rattle.st_num.specs.Names.{same_name}
use Rattle.st_el.specs.Plain.{plain_exp}
use Rattle.st_il.specs.declared.definition.IlDef.{IlDef}
use Rattle.st_il.specs.declared.definition.FunDef.{FunDef}
use Rattle.st_il.specs.declared.ty.Ty.{Ty, out-Ty, roll-Ty, roll-out-Ty}
use Rattle.st_il.specs.declared.ty.Ty.TheOpen.{Ty-F}
use Rattle.st_il.specs.declared.ty.Ty.TheVariants as ty
use Rattle.st_il.specs.declared.expression.IlExp.TheVariants as il
use Rattle.st_type_table.specs.Meaning.{Means, fields_of}
use Rattle.st_notation.specs.declared.filled.Shape.{Shape}
use Rattle.st_notation.specs.Elements.{opened}
use Rattle.st_notation.specs.Fits.{Filling, one, missing}
use Rattle.st_erase.specs.declared.erased.ErasedKind.{ErasedKind}
use Rattle.st_erase.specs.declared.erased.ErasedKind.TheVariants as kind
use Rattle.st_erase.specs.Places.{exp, whole}
use Rattle.st_erase.specs.Records.{fields_of as names_of}
use Rattle.st_erase.specs.Erasure.{written, fields, erased}
use Rattle.st_elab_table.specs.declared.decls.Decls.{Decls}
use Rattle.st_dims.specs.declared.within.Within.{Within}
use Rattle.st_elab_table.specs.Inferred.{fun_named, call_row, inferred_tuple}
use Rattle.st_elab_table.specs.Questions.{Manner, Made}
use Rattle.st_elab_table.specs.Steps.{give, found, each_asked, holes, ty_of, exps}
use Rattle.st_elab_table.specs.Records.{is_omissible, omitted, aligned, field_names, field_types, filled_fields, record_by, record_row}
use Rattle.st_elab_law.proofs.Claims.{IsPresent, IsWritten, Claim, Claims}
use Rattle.st_elab_law.specs.Agreement.{IsTableOf}
use Rattle.st_elab_law.proofs.Agreeing.{knows_fields}
use Rattle.st_elab_law.proofs.Erasings.{erased-Tuple, erased-Call, erased-Fields}
use Rattle.st_elab_law.proofs.Writing.{whole_source, form_written}
use Rattle.st_elab_law.proofs.Keeping.{keeps_if, keeps_asks, keeps_shaped, Writes, Kept}
use Rattle.st_elab_law.proofs.Listing.{other_keeps}

-- ---- fields

abbrev pub plain_field : List ℕ × Exp → List ℕ × Exp
plain_field f = (f.0, plain_exp f.1)

pub omitted_some : (s : Shape) (rest : Option (List Filling)) (fs : List Filling) → omitted s rest ≡ Some fs → (gs : List Filling) × (rest ≡ Some gs) × (fs ≡ missing ∷ gs)
omitted_some s rest fs h = by (is_omissible s) rest h
  where
    by : (b : Bool) (o : Option (List Filling)) → (if b then option_map (λ (xs : List Filling). missing ∷ xs) o else None) ≡ Some fs → (gs : List Filling) × (o ≡ Some gs) × (fs ≡ missing ∷ gs)
    by true None e = absurd (cc)
    by true (Some gs) e = (gs, refl, cc)
    by false o e = absurd (cc)

pub one_some : (e : Exp) (rest : Option (List Filling)) (fs : List Filling) → option_map (λ (xs : List Filling). one e ∷ xs) rest ≡ Some fs → (gs : List Filling) × (rest ≡ Some gs) × (fs ≡ one e ∷ gs)
one_some e None fs h = absurd (cc)
one_some e (Some gs) fs h = (gs, refl, cc)

written_one : (k : ErasedKind) (e : Exp) → IsPresent k → written k e ≡ e ∷ []
written_one kind.Plain e h = refl
written_one kind.Arithmetic e h = refl
written_one kind.Run e h = refl
written_one kind.Absent e h = absurd h

module _ (defs : List IlDef) (D : Decls) where
  -- ---- parts in order

  pub each_written : (w : Within) (es : List Exp) (ts : List Ty) (ms : List Made) → length es ≡ length ts → Claims (Claim defs D) (each_asked w es ts) ms
      → map plain_exp (map whole (map (erased defs) (exps ms))) ≡ map plain_exp es
  each_written w [] ts [] l c = refl
  each_written w [] ts (m ∷ ms) l c = absurd c
  each_written w (e ∷ es) [] ms l c = absurd (cc)
  each_written w (e ∷ es) (t ∷ ts) [] l c = absurd c
  each_written w (e ∷ es) (t ∷ ts) (m ∷ ms) l c =
      let first = whole_source (erased defs m.exp) e c.0.same in
      let rest = each_written w es ts ms (cc) c.1 in
      λ i. first i ∷ rest i

  found_written : (w : Within) (es : List Exp) (ms : List Made) → Claims (Claim defs D) (map (found w) es) ms → map plain_exp (map whole (map (erased defs) (exps ms))) ≡ map plain_exp es
  found_written w [] [] c = refl
  found_written w [] (m ∷ ms) c = absurd c
  found_written w (e ∷ es) [] c = absurd c
  found_written w (e ∷ es) (m ∷ ms) c =
      let first = whole_source (erased defs m.exp) e c.0.same in
      let rest = found_written w es ms c.1 in
      λ i. first i ∷ rest i

  pub tuple_written : (Alone : Type 0) (e : Exp) (es : List Exp) (ms : List Made) → opened e ≡ Node-F.Tuple es → map plain_exp (map whole (map (erased defs) (exps ms))) ≡ map plain_exp es
      → IsWritten Alone (erased defs (il.Tuple (exps ms))) e
  tuple_written Alone e es ms is h =
      form_written Alone (erased defs (il.Tuple (exps ms))) e (node.Tuple (map whole (map (erased defs) (exps ms)))) _ _ (erased-Tuple defs (exps ms)) (node.outs-Tuple (map whole (map (erased defs) (exps ms)))) is (λ i. exp (roll-Node (Node-F.Tuple (h i))))

  pub inferred_tuple_keeps : (w : Within) (e : Exp) (es : List Exp) → opened e ≡ Node-F.Tuple es → Kept defs D (Unit {0}) e (inferred_tuple w es)
  inferred_tuple_keeps w e es is = keeps_asks D (Claim defs D) (Writes defs (Unit {0}) e) (map (found w) es) (λ ms. give (il.Tuple (exps ms)) (ty.Tuple (map ty_of ms))) (λ ms c. tuple_written (Unit {0}) e es ms is (found_written w es ms c))

  -- ---- calls

  named : (fs : List FunDef) (name : List ℕ) (f : FunDef) → fun_named fs name ≡ Some f → f.name ≡ name
  named [] name f h = absurd (cc)
  named (g ∷ gs) name f h = by (same_name name g.name) refl h (named gs name f)
    where
      by : (b : Bool) → same_name name g.name ≡ b → (if b then Some g else fun_named gs name) ≡ Some f → (fun_named gs name ≡ Some f → f.name ≡ name) → f.name ≡ name
      by true e k later = let same : g ≡ f = cc in ap (λ z. z.name) (sym same) ∙ sym ((bytes_eq-Decides name g.name).0 e)
      by false e k later = later k

  pub call_keeps : (w : Within) (at : Span) (e : Exp) (name : List ℕ) (es : List Exp) → opened e ≡ Node-F.Call name es → Kept defs D (Unit {0}) e (call_row w at es (fun_named D.funs name))
  call_keeps w at e name es is = by (fun_named D.funs name) refl
    where
      by : (o : Option FunDef) → fun_named D.funs name ≡ o → Kept defs D (Unit {0}) e (call_row w at es o)
      by None h = tt
      by (Some f) h = keeps_if D (Claim defs D) (Writes defs (Unit {0}) e) (nat_eq (length es) (length f.params)) _ _
          (λ same. keeps_asks D (Claim defs D) (Writes defs (Unit {0}) e) (each_asked w es f.params) (λ ms. give (il.Call f.name (exps ms)) f.result) (λ ms c.
          let parts = each_written w es f.params ms (eqb-true (length es) (length f.params) same) c in
          let called = named D.funs name f h in
          form_written (Unit {0}) (erased defs (il.Call f.name (exps ms))) e (node.Call f.name (map whole (map (erased defs) (exps ms)))) _ _ (erased-Call defs f.name (exps ms)) (node.outs-Call f.name (map whole (map (erased defs) (exps ms)))) is (λ i. exp (roll-Node (Node-F.Call (called i) (parts i))))))
          (λ _. tt)

  -- ---- records

  -- the fields that are written are those that are given
  abbrev Fielded : List (List ℕ × Ty) → List Made → List (List ℕ × Exp) → Type 0
  Fielded declared ms given = map plain_field (fields (field_names declared) (map (erased defs) (exps ms))) ≡ map plain_field given

  abbrev Aligns : Within → Span → List (List ℕ × Ty) → List Shape → Type 0
  Aligns w at declared ss = (given : List (List ℕ × Exp)) (gs : List Filling) (ms : List Made) → aligned (field_names declared) ss given ≡ Some gs
      → Claims (Claim defs D) (holes w at gs (field_types declared)) ms → Fielded declared ms given

  -- a field that is left out
  aligned_without : (w : Within) (at : Span) (d : List ℕ × Ty) (declared : List (List ℕ × Ty)) (ss : List Shape) (given : List (List ℕ × Exp)) (fs gs : List Filling) (ms : List Made)
      → Aligns w at declared ss → aligned (field_names declared) ss given ≡ Some gs → fs ≡ missing ∷ gs
      → Claims (Claim defs D) (holes w at fs (field_types (d ∷ declared))) ms → Fielded (d ∷ declared) ms given
  aligned_without w at d declared ss given fs gs ms others rest is c = go ms (subst (λ z. Claims (Claim defs D) (holes w at z (field_types (d ∷ declared))) ms) is c)
    where
      go : (ms : List Made) → Claims (Claim defs D) (holes w at (missing ∷ gs) (field_types (d ∷ declared))) ms → Fielded (d ∷ declared) ms given
      go [] k = absurd k
      go (m ∷ ms) k =
          ap (λ z. map plain_field (map (λ (e : Exp). (d.0, e)) (written z (whole (erased defs m.exp))) ++ fields (field_names declared) (map (erased defs) (exps ms)))) k.0
          ∙ others given gs ms rest k.1

  -- a field that is given
  aligned_beside : (w : Within) (at : Span) (d : List ℕ × Ty) (declared : List (List ℕ × Ty)) (ss : List Shape) (g : List ℕ × Exp) (given : List (List ℕ × Exp)) (fs gs : List Filling) (ms : List Made)
      → Aligns w at declared ss → d.0 ≡ g.0 → aligned (field_names declared) ss given ≡ Some gs → fs ≡ one g.1 ∷ gs
      → Claims (Claim defs D) (holes w at fs (field_types (d ∷ declared))) ms → Fielded (d ∷ declared) ms (g ∷ given)
  aligned_beside w at d declared ss g given fs gs ms others name rest is c = go ms (subst (λ z. Claims (Claim defs D) (holes w at z (field_types (d ∷ declared))) ms) is c)
    where
      go : (ms : List Made) → Claims (Claim defs D) (holes w at (one g.1 ∷ gs) (field_types (d ∷ declared))) ms → Fielded (d ∷ declared) ms (g ∷ given)
      go [] k = absurd k
      go (m ∷ ms) k =
          let part = whole_source (erased defs m.exp) g.1 k.0.same in
          let behind = others given gs ms rest k.1 in
          ap (λ z. map plain_field (map (λ (e : Exp). (d.0, e)) z ++ fields (field_names declared) (map (erased defs) (exps ms)))) (written_one (erased defs m.exp).kind (whole (erased defs m.exp)) k.0.present)
          ∙ (λ i. (name i, part i) ∷ behind i)

  aligned_next : (w : Within) (at : Span) (d : List ℕ × Ty) (declared : List (List ℕ × Ty)) (s : Shape) (ss : List Shape) (g : List ℕ × Exp) (given : List (List ℕ × Exp)) (fs : List Filling) (ms : List Made)
      → Aligns w at declared ss → (b : Bool) → same_name d.0 g.0 ≡ b
      → (if b then option_map (λ (xs : List Filling). one g.1 ∷ xs) (aligned (field_names declared) ss given) else omitted s (aligned (field_names declared) ss (g ∷ given))) ≡ Some fs
      → Claims (Claim defs D) (holes w at fs (field_types (d ∷ declared))) ms → Fielded (d ∷ declared) ms (g ∷ given)
  aligned_next w at d declared s ss g given fs ms others true e k c =
      let o = one_some g.1 (aligned (field_names declared) ss given) fs k in
      aligned_beside w at d declared ss g given fs o.0 ms others ((bytes_eq-Decides d.0 g.0).0 e) o.1 o.2 c
  aligned_next w at d declared s ss g given fs ms others false e k c =
      let o = omitted_some s (aligned (field_names declared) ss (g ∷ given)) fs k in
      aligned_without w at d declared ss (g ∷ given) fs o.0 ms others o.1 o.2 c

  aligned_written : (w : Within) (at : Span) (declared : List (List ℕ × Ty)) (ss : List Shape) → Aligns w at declared ss
  aligned_written w at [] ss [] fs ms h c = refl
  aligned_written w at [] ss (g ∷ given) fs ms h c = absurd (cc)
  aligned_written w at (d ∷ declared) [] given fs ms h c = absurd (cc)
  aligned_written w at (d ∷ declared) (s ∷ ss) [] fs ms h c =
      let o = omitted_some s (aligned (field_names declared) ss []) fs h in
      aligned_without w at d declared ss [] fs o.0 ms (aligned_written w at declared ss) o.1 o.2 c
  aligned_written w at (d ∷ declared) (s ∷ ss) (g ∷ given) fs ms h c =
      aligned_next w at d declared s ss g given fs ms (aligned_written w at declared ss) (same_name d.0 g.0) refl h c

  module _ (table : IsTableOf defs D) where
    filled_keeps : (Alone : Type 0) (w : Within) (at : Span) (e : Exp) (name : List ℕ) (given : List (List ℕ × Exp)) (t u : Ty) (declared : List (List ℕ × Ty)) (ss : List Shape)
        → opened e ≡ Node-F.Fields given → Means D.types (ty.Name name) u → fields_of D.types u ≡ Some declared
        → Kept defs D Alone e (filled_fields w at name (field_types declared) t (aligned (field_names declared) ss given))
    filled_keeps Alone w at e name given t u declared ss is means has = by (aligned (field_names declared) ss given) refl
      where
        by : (o : Option (List Filling)) → aligned (field_names declared) ss given ≡ o → Kept defs D Alone e (filled_fields w at name (field_types declared) t o)
        by None h = tt
        by (Some fs) h = keeps_asks D (Claim defs D) (Writes defs Alone e) (holes w at fs (field_types declared)) (λ ms. give (il.Fields name (exps ms)) t) (λ ms c.
            let same = ap (λ z. map plain_field (fields z (map (erased defs) (exps ms)))) (knows_fields defs D table name u declared means has) ∙ aligned_written w at declared ss given fs ms h c in
            form_written Alone (erased defs (il.Fields name (exps ms))) e (node.Fields (fields (names_of (length defs) defs name) (map (erased defs) (exps ms)))) _ _ (erased-Fields defs name (exps ms)) (node.outs-Fields (fields (names_of (length defs) defs name) (map (erased defs) (exps ms)))) is (λ i. exp (roll-Node (Node-F.Fields (same i)))))

    pub record_keeps : (Alone : Type 0) (w : Within) (at : Span) (p : Manner) (e : Exp) (given : List (List ℕ × Exp)) (t u : Ty) → opened e ≡ Node-F.Fields given → Means D.types t u
        → Kept defs D Alone e (record_row D w at p e given t u)
    record_keeps Alone w at p e given t u is means = by (out-Ty t) refl (fields_of D.types u) refl
      where
        by : (y : Ty-F Ty) → out-Ty t ≡ y → (o : Option (List (List ℕ × Ty))) → fields_of D.types u ≡ o → Kept defs D Alone e (record_by w at p e given t u y o)
        by (Ty-F.Name name) opens (Some declared) has =
            let named : t ≡ ty.Name name = sym (roll-out-Ty t) ∙ ap roll-Ty opens ∙ ty.rolls-Name name in
            keeps_shaped D (Claim defs D) (Writes defs Alone e) (field_types declared) (λ ss. filled_fields w at name (field_types declared) t (aligned (field_names declared) ss given)) (λ ss. filled_keeps Alone w at e name given t u declared ss is (subst (λ z. Means D.types z u) named means) has)
        by (Ty-F.Name name) opens None has = other_keeps defs D Alone e w at p t (out-Ty u)
        by y opens o has = other_keeps defs D Alone e w at p t (out-Ty u)
