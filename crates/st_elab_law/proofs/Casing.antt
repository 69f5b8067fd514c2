-- Cases of variants are erased to the notation that they were written in.
use Rattle.std.proofs.Common.{◌≡◌, sym, ◌∙◌, ap, ℕ, List, [], ◌∷◌, map, length}
use Rattle.std.specs.Prelude.{Option, Some, None}
use Rattle.st_num.specs.declared.span.Span.{Span}
use Rattle.st_num.specs.Names.{is_among}
use Rattle.st_el.specs.declared.expression.Exp.{Exp}
use Rattle.st_el.specs.Plain.{plain_exp}
use Rattle.st_il.specs.declared.definition.IlDef.{IlDef}
use Rattle.st_il.specs.declared.ty.Ty.{Ty, out-Ty}
use Rattle.st_il.specs.declared.ty.Ty.TheOpen.{Ty-F}
use Rattle.st_il.specs.declared.ty.Ty.TheVariants as ty
use Rattle.st_il.specs.declared.template.Template.{Template}
use Rattle.st_il.specs.Template.{HasTag}
use Rattle.st_il.specs.declared.expression.IlExp.TheVariants as il
use Rattle.st_il.proofs.Tags.{one_template}
use Rattle.st_type_table.specs.declared.entry.CaseDef.{CaseDef}
use Rattle.st_type_table.proofs.MeansLemmas.{Means-single}
use Rattle.st_notation.specs.declared.filled.Shape.{Shape}
use Rattle.st_notation.specs.Elements.{bare}
use Rattle.st_notation.specs.Fits.{Filling, one, run, missing}
use Rattle.st_notation.proofs.FitsLemmas.{Fits-length}
use Rattle.st_erase.specs.declared.erased.Erased.{Erased}
use Rattle.st_erase.specs.declared.erased.ErasedKind.TheVariants as kind
use Rattle.st_erase.specs.Filling.{filled}
use Rattle.st_il.specs.Tags.{template_of, IsTemplateOf}
use Rattle.st_erase.specs.Erasure.{case_by, erased}
use Rattle.st_il.proofs.TagTemplates.{is_template}
use Rattle.st_elab_table.specs.declared.decls.Decls.{Decls}
use Rattle.st_dims.specs.declared.within.Within.{Within}
use Rattle.st_elab_table.specs.Choice.{shape_at, HasShape, HaveShapes, FillsCase, IsCaseOf}
use Rattle.st_elab_table.specs.Questions.{Manner, Made, Chosen}
use Rattle.st_elab_table.specs.Steps.{give, holes_behind, exps}
use Rattle.st_elab_table.specs.Records.{passed_on, variant_row, notation_row}
use Rattle.st_elab_law.proofs.Claims.{IsWritten, IsNoList, IsFilledBy, Claim, Claims}
use Rattle.st_elab_law.proofs.Plainness.{plain-bare}
use Rattle.st_elab_law.proofs.Erasings.{erased-Case}
use Rattle.st_elab_law.proofs.Writing.{alone_written}
use Rattle.st_elab_law.proofs.Keeping.{keeps_if, keeps_asks, Writes, Kept}
use Rattle.st_elab_law.proofs.Listing.{other_keeps}
use Rattle.st_elab_law.proofs.Fitting.{IsOther, AreFilled, Fits-writes}

-- ---- holes

filled_where : (A B : Type 0) (f : Filling) (x : Erased) → (B → A) → IsFilledBy A f x → IsFilledBy B f x
filled_where A B (one e) x goes h = record { same = h.same; present = h.present; single = λ b. h.single (goes b) }
filled_where A B (run es) x goes h = h
filled_where A B missing x goes h = h

module _ (defs : List IlDef) (D : Decls) where
  no_list : (t : Ty) (s : Shape) → HasShape D.types t s → IsOther s → IsNoList D t
  no_list t s (u, means, is) other x list =
      let same : u ≡ ty.List x = Means-single D.types t u (ty.List x) means list in
      let opens : out-Ty u ≡ Ty-F.List x = ap out-Ty same ∙ ty.outs-List x in
      other (is ∙ ap shape_at opens)

  are_filled : (w : Within) (at : Span) (passed : List (List ℕ)) (ts : List Ty) (ss : List Shape) (fs : List Filling) (ms : List Made) → HaveShapes D.types ts ss → length fs ≡ length ts → Claims (Claim defs D) (holes_behind w at passed fs ts) ms
      → AreFilled ss fs (map (erased defs) (exps ms))
  are_filled w at passed ts ss [] ms shapes l c = tt
  are_filled w at passed [] ss (f ∷ fs) ms shapes l c = absurd (cc)
  are_filled w at passed (t ∷ ts) [] (f ∷ fs) ms shapes l c = absurd shapes
  are_filled w at passed (t ∷ ts) (s ∷ ss) (f ∷ fs) [] shapes l c = absurd c
  are_filled w at passed (t ∷ ts) (s ∷ ss) (f ∷ fs) (m ∷ ms) shapes l c =
      (filled_where (IsNoList D t) (IsOther s) f (erased defs m.exp) (no_list t s shapes.0) c.0, are_filled w at passed ts ss fs ms shapes.1 (cc) c.1)

  -- ---- the case

  pub case-is : (tag : List ℕ) (t : Template) (xs : List Erased) → HasTag t tag → case_by (template_of tag) xs ≡ record { exp = filled t xs; kind = kind.Plain }
  case-is tag t xs h = by (template_of tag) (is_template tag)
    where
      by : (o : Option Template) → IsTemplateOf tag o → case_by o xs ≡ record { exp = filled t xs; kind = kind.Plain }
      by None k = absurd (k t h)
      by (Some u) k = ap (λ z. record { exp = filled z xs; kind = kind.Plain }) (one_template tag u t k h)

  -- what fits a notation is written in it
  pub fills_written : (w : Within) (at : Span) (passed : List (List ℕ)) (e : Exp) (c : CaseDef) (fs : List Filling) (ms : List Made) → (f : FillsCase D.types c e fs) → Claims (Claim defs D) (holes_behind w at passed fs c.operands) ms
      → plain_exp (filled f.template (map (erased defs) (exps ms))) ≡ plain_exp e
  fills_written w at passed e c fs ms f g =
      let counted : length fs ≡ length c.operands = Fits-length f.template f.shapes (bare e) fs f.fits ∙ sym f.counted in
      let parts = are_filled w at passed c.operands f.shapes fs ms f.shaped counted g in
      let writes = Fits-writes f.template f.shapes (bare e) fs (map (erased defs) (exps ms)) f.fits parts in
      writes.out ∙ plain-bare e

  case_written : (Alone : Type 0) (w : Within) (at : Span) (passed : List (List ℕ)) (e : Exp) (t : Ty) (c : Chosen) (ms : List Made) → IsCaseOf D.types t e c → Claims (Claim defs D) (holes_behind w at passed c.fillings c.operands) ms
      → IsWritten Alone (erased defs (il.Case c.name c.tag (exps ms))) e
  case_written Alone w at passed e t c ms h g =
      let case : CaseDef = record { tag = c.tag; operands = c.operands } in
      let template = h.filled.template in
      alone_written Alone (erased defs (il.Case c.name c.tag (exps ms))) (record { exp = filled template (map (erased defs) (exps ms)); kind = kind.Plain }) e
      (erased-Case defs c.name c.tag (exps ms) ∙ case-is c.tag template (map (erased defs) (exps ms)) h.filled.tagged) tt (fills_written w at passed e case c.fillings ms h.filled g)

  variant_keeps : (Alone : Type 0) (w : Within) (at : Span) (passed : List (List ℕ)) (e : Exp) (t : Ty) (y : Ty-F Ty) → Kept defs D Alone e (variant_row w at passed e t y)
  variant_keeps Alone w at passed e t (Ty-F.Name variant) = keeps_if D (Claim defs D) (Writes defs Alone e) (is_among variant passed) _ _ (λ _. tt) (λ _. (
    (λ c h. keeps_asks D (Claim defs D) (Writes defs Alone e) (holes_behind w at (passed_on c.whole passed variant) c.fillings c.operands) (λ ms. give (il.Case c.name c.tag (exps ms)) t)
        (λ ms g. case_written Alone w at (passed_on c.whole passed variant) e t c ms h g)),
    (λ _. tt),
  ))
  variant_keeps Alone w at passed e t y = tt

  pub notation_keeps : (Alone : Type 0) (w : Within) (at : Span) (p : Manner) (e : Exp) (t u : Ty) → Kept defs D Alone e (notation_row w at p e t u)
  notation_keeps Alone w at p e t u = ((λ _. variant_keeps Alone w at p.passed e t (out-Ty u)), (λ _. other_keeps defs D Alone e w at p t (out-Ty u)))
