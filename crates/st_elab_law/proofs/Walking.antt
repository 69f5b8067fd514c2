-- Parts of lists and records, and changes at paths, are erased to what they are made of.
use Rattle.std.proofs.Common.{◌≡◌, refl, sym, ◌∙◌, ap, ℕ, List, [], ◌∷◌, map}
use Rattle.st_num.specs.declared.span.Span.{Span}
use Rattle.st_el.specs.declared.expression.Exp.{Exp}
use Rattle.st_el.specs.declared.expression.Node.{Node, roll-Node}
use Rattle.st_el.specs.declared.expression.Node.TheVariants as node
use Rattle.st_el.specs.declared.expression.Count.{Count}
use Rattle.st_el.specs.declared.expression.Count.TheOpen.{Node-F, Seg-F}
use Rattle.st_el.specs.declared.expression.Seg.{Seg, out-Seg, roll-Seg}
use Rattle.st_el.specs.declared.expression.Seg.TheVariants as seg
use Rattle.st_el.specs.Plain.{plain_seg}
use Rattle.st_il.specs.declared.definition.IlDef.{IlDef}
use Rattle.st_il.specs.declared.ty.Ty.{Ty}
use Rattle.st_il.specs.declared.ty.Ty.TheVariants as ty
use Rattle.st_il.specs.declared.expression.IlExp.TheVariants as il
use Rattle.st_il.specs.declared.expression.PathSeg.{PathSeg}
use Rattle.st_il.specs.declared.expression.PathSeg.TheVariants as step
use Rattle.st_notation.specs.Elements.{opened}
use Rattle.st_erase.specs.Places.{exp, whole}
use Rattle.st_erase.specs.Erasure.{erased, erased_segment}
use Rattle.st_elab_table.specs.declared.decls.Decls.{Decls}
use Rattle.st_dims.specs.declared.within.Within.{Within}
use Rattle.st_elab_table.specs.Forms.{place}
use Rattle.st_elab_table.specs.Questions.{Made, Step, Asks}
use Rattle.st_elab_table.specs.Steps.{give, asked, as_list}
use Rattle.st_elab_table.specs.Paths.{length_row, position_row, slice_row, field_row, step_row, along, update_row, extension_row}
use Rattle.st_elab_table.proofs.Keeps.{Keeps}
use Rattle.st_elab_law.proofs.Claims.{Claim}
use Rattle.st_elab_law.proofs.Plainness.{seg-is}
use Rattle.st_elab_law.proofs.Erasings.{erased-Len, erased-At, erased-Slice, erased-Dot, erased-Set, erased-Extend, segment-Field, segment-At, segment-Slice}
use Rattle.st_elab_law.proofs.Writing.{whole_source, form_written}
use Rattle.st_elab_law.proofs.Keeping.{keeps_list, keeps_field, Writes, Kept}

module _ (defs : List IlDef) (D : Decls) where
  -- ---- parts

  pub length_keeps : (w : Within) (e inner : Exp) → opened e ≡ Node-F.Len inner → Kept defs D (Unit {0}) e (length_row w inner)
  length_keeps w e inner is = λ m f. keeps_list D (Claim defs D) (Writes defs (Unit {0}) e) (place inner) m.ty (λ x. give (il.Len m.exp) ty.Nat) (λ x.
      let part = whole_source (erased defs m.exp) inner f.same in
      form_written (Unit {0}) (erased defs (il.Len m.exp)) e (node.Len (whole (erased defs m.exp))) _ _ (erased-Len defs m.exp) (node.outs-Len (whole (erased defs m.exp))) is (λ i. exp (roll-Node (Node-F.Len (part i)))))

  pub position_keeps : (w : Within) (e list at : Exp) → opened e ≡ Node-F.Node::At list at → Kept defs D (Unit {0}) e (position_row w list at)
  position_keeps w e list at is = λ m f. keeps_list D (Claim defs D) (Writes defs (Unit {0}) e) (place list) m.ty (λ x. Asks (asked w at ty.Nat) (λ a. give (il.At m.exp a.exp) x)) (λ x. λ a g.
      let whole_list = whole_source (erased defs m.exp) list f.same in
      let whole_at = whole_source (erased defs a.exp) at g.same in
      form_written (Unit {0}) (erased defs (il.At m.exp a.exp)) e (node.At (whole (erased defs m.exp)) (whole (erased defs a.exp))) _ _ (erased-At defs m.exp a.exp) (node.outs-At (whole (erased defs m.exp)) (whole (erased defs a.exp))) is (λ i. exp (roll-Node (Node-F.Node::At (whole_list i) (whole_at i)))))

  pub slice_keeps : (w : Within) (e list from count : Exp) → opened e ≡ Node-F.Node::Slice list from count → Kept defs D (Unit {0}) e (slice_row w list from count)
  slice_keeps w e list from count is = λ m f. keeps_list D (Claim defs D) (Writes defs (Unit {0}) e) (place list) m.ty
      (λ x. Asks (asked w from ty.Nat) (λ a. Asks (asked w count ty.Nat) (λ b. give (il.Slice m.exp a.exp b.exp) m.ty))) (λ x. λ a g b h.
      let whole_list = whole_source (erased defs m.exp) list f.same in
      let whole_from = whole_source (erased defs a.exp) from g.same in
      let whole_count = whole_source (erased defs b.exp) count h.same in
      form_written (Unit {0}) (erased defs (il.Slice m.exp a.exp b.exp)) e (node.Slice (whole (erased defs m.exp)) (whole (erased defs a.exp)) (whole (erased defs b.exp))) _ _ (erased-Slice defs m.exp a.exp b.exp) (node.outs-Slice (whole (erased defs m.exp)) (whole (erased defs a.exp)) (whole (erased defs b.exp))) is
      (λ i. exp (roll-Node (Node-F.Node::Slice (whole_list i) (whole_from i) (whole_count i)))))

  pub field_keeps : (w : Within) (at : Span) (e inner : Exp) (name : List ℕ) → opened e ≡ Node-F.Dot inner name → Kept defs D (Unit {0}) e (field_row D w at inner name)
  field_keeps w at e inner name is = λ m f. keeps_field D (Claim defs D) (Writes defs (Unit {0}) e) (place inner) at name m.ty (λ t. give (il.Dot m.exp name) t) (λ t.
      let part = whole_source (erased defs m.exp) inner f.same in
      form_written (Unit {0}) (erased defs (il.Dot m.exp name)) e (node.Dot (whole (erased defs m.exp)) name) _ _ (erased-Dot defs m.exp name) (node.outs-Dot (whole (erased defs m.exp)) name) is (λ i. exp (roll-Node (Node-F.Dot (part i) name))))

  -- ---- paths

  module _ (Q : Made → Type 0) where
    step_keeps : (w : Within) (at : Span) (t : Ty) (next : PathSeg → Ty → Step) (s : Seg) (y : Seg-F Count Node Seg Exp) → out-Seg s ≡ y
        → ((p : PathSeg) (u : Ty) → plain_seg (erased_segment defs p) ≡ plain_seg s → Keeps D (Claim defs D) Q (next p u))
        → Keeps D (Claim defs D) Q (step_row D w at t next y)
    step_keeps w at t next s (Seg-F.Field name) is h =
        keeps_field D (Claim defs D) Q at at name t (next (step.Field name)) (λ u. h (step.Field name) u
        (ap plain_seg (segment-Field defs name) ∙ seg-is (seg.Field name) _ (seg.outs-Field name) ∙ sym (seg-is s _ is)))
    step_keeps w at t next s (Seg-F.Seg::At e) is h =
        keeps_list D (Claim defs D) Q at t (λ x. Asks (asked w e ty.Nat) (λ a. next (step.At a.exp) x)) (λ x. λ a f.
        let part = whole_source (erased defs a.exp) e f.same in
        h (step.At a.exp) x
        (ap plain_seg (segment-At defs a.exp) ∙ seg-is (seg.At (whole (erased defs a.exp))) _ (seg.outs-At (whole (erased defs a.exp))) ∙ (λ i. roll-Seg (Seg-F.Seg::At (part i))) ∙ sym (seg-is s _ is)))
    step_keeps w at t next s (Seg-F.Seg::Slice e n) is h =
        keeps_list D (Claim defs D) Q at t (λ x. Asks (asked w e ty.Nat) (λ a. Asks (asked w n ty.Nat) (λ b. next (step.Slice a.exp b.exp) t))) (λ x. λ a f b g.
        let part = whole_source (erased defs a.exp) e f.same in
        let other = whole_source (erased defs b.exp) n g.same in
        h (step.Slice a.exp b.exp) t
        (ap plain_seg (segment-Slice defs a.exp b.exp) ∙ seg-is (seg.Slice (whole (erased defs a.exp)) (whole (erased defs b.exp))) _ (seg.outs-Slice (whole (erased defs a.exp)) (whole (erased defs b.exp))) ∙ (λ i. roll-Seg (Seg-F.Seg::Slice (part i) (other i))) ∙ sym (seg-is s _ is)))

    along_keeps : (w : Within) (at : Span) (path : List Seg) (t : Ty) (next : List PathSeg → Ty → Step)
        → ((ps : List PathSeg) (u : Ty) → map plain_seg (map (erased_segment defs) ps) ≡ map plain_seg path → Keeps D (Claim defs D) Q (next ps u))
        → Keeps D (Claim defs D) Q (along D w at path t next)
    along_keeps w at [] t next h = h [] t refl
    along_keeps w at (s ∷ ss) t next h =
        step_keeps w at t (λ p u. along D w at ss u (λ ps v. next (p ∷ ps) v)) s (out-Seg s) refl (λ p u f. along_keeps w at ss u (λ ps v. next (p ∷ ps) v) (λ ps v g. h (p ∷ ps) v (λ i. f i ∷ g i)))

  pub update_keeps : (w : Within) (at : Span) (e inner : Exp) (path : List Seg) (value : Exp) → opened e ≡ Node-F.Update inner path value
      → Kept defs D (Unit {0}) e (update_row D w at inner path value)
  update_keeps w at e inner path value is = λ m f. along_keeps (Writes defs (Unit {0}) e) w at path m.ty (λ ps t. Asks (asked w value t) (λ v. give (il.Set m.exp ps v.exp) m.ty)) (λ ps t g. λ v h.
      let part = whole_source (erased defs m.exp) inner f.same in
      let other = whole_source (erased defs v.exp) value h.same in
      form_written (Unit {0}) (erased defs (il.Set m.exp ps v.exp)) e (node.Update (whole (erased defs m.exp)) (map (erased_segment defs) ps) (whole (erased defs v.exp))) _ _ (erased-Set defs m.exp ps v.exp) (node.outs-Update (whole (erased defs m.exp)) (map (erased_segment defs) ps) (whole (erased defs v.exp))) is
      (λ i. exp (roll-Node (Node-F.Update (part i) (g i) (other i)))))

  pub extension_keeps : (w : Within) (at : Span) (e inner : Exp) (path : List Seg) (list : Exp) → opened e ≡ Node-F.Extend inner path list
      → Kept defs D (Unit {0}) e (extension_row D w at inner path list)
  extension_keeps w at e inner path list is = λ m f. along_keeps (Writes defs (Unit {0}) e) w at path m.ty (λ ps t. as_list at t (λ x. Asks (asked w list t) (λ l. give (il.Extend m.exp ps l.exp) m.ty)))
      (λ ps t g. keeps_list D (Claim defs D) (Writes defs (Unit {0}) e) at t (λ x. Asks (asked w list t) (λ l. give (il.Extend m.exp ps l.exp) m.ty)) (λ x. λ l h.
      let part = whole_source (erased defs m.exp) inner f.same in
      let other = whole_source (erased defs l.exp) list h.same in
      form_written (Unit {0}) (erased defs (il.Extend m.exp ps l.exp)) e (node.Extend (whole (erased defs m.exp)) (map (erased_segment defs) ps) (whole (erased defs l.exp))) _ _ (erased-Extend defs m.exp ps l.exp) (node.outs-Extend (whole (erased defs m.exp)) (map (erased_segment defs) ps) (whole (erased defs l.exp))) is
      (λ i. exp (roll-Node (Node-F.Extend (part i) (g i) (other i))))))
