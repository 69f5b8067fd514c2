-- Parts of lists and records, and changes at paths, have the types that they are told to have.
use Rattle.std.proofs.Common.{◌≡◌, refl, sym, subst, ℕ, List, [], ◌∷◌, ◌++◌, map, Option, Some}
use Rattle.st_num.specs.declared.span.Span.{Span}
use Rattle.st_el.specs.declared.expression.Exp.{Exp}
use Rattle.st_el.specs.declared.expression.Node.{Node}
use Rattle.st_el.specs.declared.expression.Count.{Count}
use Rattle.st_el.specs.declared.expression.Count.TheOpen.{Seg-F}
use Rattle.st_el.specs.declared.expression.Seg.{Seg, out-Seg}
use Rattle.st_il.specs.declared.definition.Il.{Il}
use Rattle.st_il.specs.declared.definition.Listed.{Listed}
use Rattle.st_il.specs.declared.definition.RelationDef.{RelationDef}
use Rattle.st_il.specs.declared.expression.IlExp.{IlExp}
use Rattle.st_il.specs.declared.expression.IlExp.TheVariants as exp
use Rattle.st_il.specs.declared.expression.PathSeg.{PathSeg}
use Rattle.st_il.specs.declared.expression.PathSeg.TheVariants as step
use Rattle.st_il.specs.declared.ty.Ty.{Ty}
use Rattle.st_il.specs.declared.ty.Ty.TheVariants as ty
use Rattle.st_type_table.specs.Meaning.{Means}
use Rattle.st_dims.specs.declared.within.Within.{Within}
use Rattle.st_il.specs.Names.{flattened}
use Rattle.st_il.specs.Definitions.{syntaxes}
use Rattle.st_semantics.specs.Operands.{segment_at, segment_exps}
use Rattle.st_semantics.specs.OperationTypes.{PathType}
use Rattle.st_elab_table.specs.declared.decls.Scope.{Scope}
use Rattle.st_elab_table.specs.Forms.{place}
use Rattle.st_elab_table.specs.Questions.{Made, Step, Asks}
use Rattle.st_elab_table.specs.Steps.{give, asked, as_list}
use Rattle.st_elab_table.specs.Paths.{length_row, position_row, slice_row, field_row, step_row, along, update_row, extension_row}
use Rattle.st_ilcheck.specs.FoundTypes.{IsFieldOf}
use Rattle.st_ilcheck.specs.Parts.{standing}
use Rattle.st_ilcheck.specs.Rules.{AllAre, LeadsTo, IsSet, IsExtended}
use Rattle.st_ilcheck.specs.Typings.{HaveTypings}
use Rattle.st_elab_typed.specs.inner.IsPlaced.{ArePlaced}
use Rattle.st_elab_typed.specs.Law.{AreListedAs}
use Rattle.st_elab_typed.proofs.Claims.{Has, Equals, Exactly, decls_of, IsInferred, Kept}
use Rattle.st_elab_typed.proofs.IsPlacedLemmas.{IsPlaced-at, ArePlaced-first}
use Rattle.st_elab_typed.proofs.HasTypingLemmas.{HasTyping-made, HaveTypings-more, HaveTypings-one, last_type-push, before_last-push}
use Rattle.st_elab_typed.proofs.Forms.{Has-Dot, Has-At, Has-Slice, Has-Len}
use Rattle.st_elab_typed.proofs.Keeping.{keeps_list, keeps_field}

module _ (il : Il) (Ok : List Listed → Type 0) where
  -- each of these expressions is a natural number
  abbrev pub AreNatural : List IlExp → Type 0
  AreNatural [] = Unit {0}
  AreNatural (e ∷ es) = Has il Ok (Equals il ty.Nat) e × AreNatural es

  pub AreNatural-append : (es gs : List IlExp) → AreNatural es → AreNatural gs → AreNatural (es ++ gs)
  AreNatural-append [] gs h k = k
  AreNatural-append (e ∷ es) gs h k = (h.0, AreNatural-append es gs h.1 k)

  -- the types of natural numbers, and of one expression behind them
  record TypedBehind (ls : List Listed) (es : List IlExp) (P : Ty → Type 0) (g : IlExp) : Type 0 where
    os : List (Option Ty)
    last : Ty
    typings : HaveTypings il (standing ls (es ++ g ∷ [])) (os ++ Some last ∷ []) []
    natural : AllAre (syntaxes il) ty.Nat os
    holds : P last

  typed_behind : (ls : List Listed) (es : List IlExp) (P : Ty → Type 0) (g : IlExp) → Ok ls → ArePlaced (standing ls (es ++ g ∷ [])) → AreNatural es → Has il Ok P g → TypedBehind ls es P g
  typed_behind ls [] P g ok k h last =
      let r = last ls ok (ArePlaced-first (ls, g) [] k).0 in
      record { os = []; last = r.0; typings = HaveTypings-one il ls g r.0 r.1.0; natural = tt; holds = r.1.1 }
  typed_behind ls (e ∷ es) P g ok k h last =
      let n = ArePlaced-first (ls, e) (standing ls (es ++ g ∷ [])) k in
      let r = h.0 ls ok n.0 in
      let rest = typed_behind ls es P g ok n.1 h.1 last in
      record {
        os = Some r.0 ∷ rest.os;
        last = rest.last;
        typings = HaveTypings-more il (ls, e) (standing ls (es ++ g ∷ [])) (Some r.0) (rest.os ++ Some rest.last ∷ []) r.1.0 rest.typings;
        natural = (r.1.1, rest.natural);
        holds = rest.holds;
      }

  module _ (a g : IlExp) (path : List PathSeg) (t u : Ty) (leads : LeadsTo (syntaxes il) path t u) (counted : AreNatural (flattened (map segment_exps path))) where
    leads_from : (o : Ty) → o ≡ t → LeadsTo (syntaxes il) path o u
    leads_from o e = subst (λ z. LeadsTo (syntaxes il) path z u) (sym e) leads

    pub Has-Set : Has il Ok (Exactly t) a → Has il Ok (Equals il u) g → Has il Ok (Exactly t) (exp.Set a path g)
    Has-Set h new ls ok k =
        let n = IsPlaced-at ls (exp.Set a path g) _ (exp.outs-Set a path g) k in
        let parts = ArePlaced-first (ls, a) (standing ls (flattened (map segment_exps path) ++ g ∷ [])) n.parts in
        let r = h ls ok parts.0 in
        let s = typed_behind ls (flattened (map segment_exps path)) (Equals il u) g ok parts.1 counted new in
        let is_last = last_type-push (Some r.0 ∷ s.os) (Some s.last) in (
          r.0,
          (
            HasTyping-made il ls (exp.Set a path g) _ (exp.outs-Set a path g) (Some r.0 ∷ (s.os ++ Some s.last ∷ []))
                (HaveTypings-more il (ls, a) (standing ls (flattened (map segment_exps path) ++ g ∷ [])) (Some r.0) (s.os ++ Some s.last ∷ []) r.1.0 s.typings)
                (Some r.0) refl
                (subst (λ z. IsSet (syntaxes il) path (Some r.0) z) (sym is_last) (u, (leads_from r.0 r.1.1, s.holds)))
                (subst (AllAre (syntaxes il) ty.Nat) (sym (before_last-push s.os (Some s.last))) s.natural)
                refl,
            r.1.1,
          ),
        )

    pub Has-Extend : (x : Ty) → Means (syntaxes il) u (ty.List x) → Has il Ok (Exactly t) a → Has il Ok (Equals il u) g → Has il Ok (Exactly t) (exp.Extend a path g)
    Has-Extend x means h new ls ok k =
        let n = IsPlaced-at ls (exp.Extend a path g) _ (exp.outs-Extend a path g) k in
        let parts = ArePlaced-first (ls, a) (standing ls (flattened (map segment_exps path) ++ g ∷ [])) n.parts in
        let r = h ls ok parts.0 in
        let s = typed_behind ls (flattened (map segment_exps path)) (Equals il u) g ok parts.1 counted new in
        let is_last = last_type-push (Some r.0 ∷ s.os) (Some s.last) in (
          r.0,
          (
            HasTyping-made il ls (exp.Extend a path g) _ (exp.outs-Extend a path g) (Some r.0 ∷ (s.os ++ Some s.last ∷ []))
                (HaveTypings-more il (ls, a) (standing ls (flattened (map segment_exps path) ++ g ∷ [])) (Some r.0) (s.os ++ Some s.last ∷ []) r.1.0 s.typings)
                (Some r.0) refl
                (subst (λ z. IsExtended (syntaxes il) path (Some r.0) z) (sym is_last) (u, (leads_from r.0 r.1.1, ((x, means), s.holds))))
                (subst (AllAre (syntaxes il) ty.Nat) (sym (before_last-push s.os (Some s.last))) s.natural)
                refl,
            r.1.1,
          ),
        )

module _ (il : Il) (vars : List (List ℕ × Ty)) (relations : List RelationDef) (S : Scope) (w : Within) where
  abbrev Ok : List Listed → Type 0
  Ok = AreListedAs (decls_of il vars relations) S w

  abbrev Infers : Step → Type 0
  Infers s = Kept il vars relations S (IsInferred il vars relations S w) s

  pub length_keeps : (e : Exp) → Infers (length_row w e)
  length_keeps e = λ m f. keeps_list il vars relations S (IsInferred il vars relations S w) (place e) m.ty (λ x. give (exp.Len m.exp) ty.Nat) (λ x means. Has-Len il Ok m.exp m.ty x means f)

  pub position_keeps : (e i : Exp) → Infers (position_row w e i)
  position_keeps e i = λ m f. keeps_list il vars relations S (IsInferred il vars relations S w) (place e) m.ty (λ x. Asks (asked w i ty.Nat) (λ a. give (exp.At m.exp a.exp) x))
      (λ x means. λ a g. Has-At il Ok m.exp a.exp m.ty x means f g.0)

  pub slice_keeps : (e i n : Exp) → Infers (slice_row w e i n)
  slice_keeps e i n = λ m f. keeps_list il vars relations S (IsInferred il vars relations S w) (place e) m.ty
      (λ x. Asks (asked w i ty.Nat) (λ a. Asks (asked w n ty.Nat) (λ b. give (exp.Slice m.exp a.exp b.exp) m.ty)))
      (λ x means. λ a g b h. Has-Slice il Ok m.exp a.exp b.exp m.ty x means f g.0 h.0)

  pub field_keeps : (at : Span) (e : Exp) (name : List ℕ) → Infers (field_row (decls_of il vars relations) w at e name)
  field_keeps at e name = λ m f. keeps_field il vars relations S (IsInferred il vars relations S w) (place e) at name m.ty (λ t. give (exp.Dot m.exp name) t) (λ t field. Has-Dot il Ok m.exp name m.ty t field f)

  -- ---- paths

  -- a step leads from the one type to the other
  record StepsTo (p : PathSeg) (t u : Ty) : Type 0 where
    leads : (ps : List PathSeg) (v : Ty) → LeadsTo (syntaxes il) ps u v → LeadsTo (syntaxes il) (p ∷ ps) t v
    counted : AreNatural il Ok (segment_exps p)

  step_field : (name : List ℕ) (t u : Ty) → IsFieldOf (syntaxes il) name t u → StepsTo (step.Field name) t u
  step_field name t u field = record {
    leads = λ ps v h. (h.0, PathType.field name u field.declared (step.outs-Field name) field.has field.found h.1);
    counted = subst (λ z. AreNatural il Ok (segment_at z)) (sym (step.outs-Field name)) tt;
  }

  step_position : (x : IlExp) (t u : Ty) → Means (syntaxes il) t (ty.List u) → Has il Ok (Equals il ty.Nat) x → StepsTo (step.At x) t u
  step_position x t u means k = record {
    leads = λ ps v h. (ty.Nat ∷ h.0, PathType.element u x (step.outs-At x) means h.1);
    counted = subst (λ z. AreNatural il Ok (segment_at z)) (sym (step.outs-At x)) (k, tt);
  }

  step_slice : (x y : IlExp) (t u : Ty) → Means (syntaxes il) t (ty.List u) → Has il Ok (Equals il ty.Nat) x → Has il Ok (Equals il ty.Nat) y → StepsTo (step.Slice x y) t t
  step_slice x y t u means k l = record {
    leads = λ ps v h. (ty.Nat ∷ ty.Nat ∷ h.0, PathType.part u x y (step.outs-Slice x y) means h.1);
    counted = subst (λ z. AreNatural il Ok (segment_at z)) (sym (step.outs-Slice x y)) (k, (l, tt));
  }

  module _ (Q : Made → Type 0) where
    step_keeps : (at : Span) (t : Ty) (next : PathSeg → Ty → Step) (y : Seg-F Count Node Seg Exp) → ((p : PathSeg) (u : Ty) → StepsTo p t u → Kept il vars relations S Q (next p u))
        → Kept il vars relations S Q (step_row (decls_of il vars relations) w at t next y)
    step_keeps at t next (Seg-F.Field name) h = keeps_field il vars relations S Q at at name t (next (step.Field name)) (λ u field. h (step.Field name) u (step_field name t u field))
    step_keeps at t next (Seg-F.Seg::At i) h =
        keeps_list il vars relations S Q at t (λ x. Asks (asked w i ty.Nat) (λ a. next (step.At a.exp) x)) (λ x means. λ a f. h (step.At a.exp) x (step_position a.exp t x means f.0))
    step_keeps at t next (Seg-F.Seg::Slice i n) h =
        keeps_list il vars relations S Q at t (λ x. Asks (asked w i ty.Nat) (λ a. Asks (asked w n ty.Nat) (λ b. next (step.Slice a.exp b.exp) t)))
        (λ x means. λ a f b g. h (step.Slice a.exp b.exp) t (step_slice a.exp b.exp t x means f.0 g.0))

    along_keeps : (at : Span) (path : List Seg) (t : Ty) (next : List PathSeg → Ty → Step)
        → ((ps : List PathSeg) (u : Ty) → LeadsTo (syntaxes il) ps t u → AreNatural il Ok (flattened (map segment_exps ps)) → Kept il vars relations S Q (next ps u))
        → Kept il vars relations S Q (along (decls_of il vars relations) w at path t next)
    along_keeps at [] t next h = h [] t ([], PathType.here) tt
    along_keeps at (s ∷ ss) t next h =
        step_keeps at t (λ p u. along (decls_of il vars relations) w at ss u (λ ps v. next (p ∷ ps) v)) (out-Seg s) (λ p u f.
        along_keeps at ss u (λ ps v. next (p ∷ ps) v) (λ ps v leads counted.
        h (p ∷ ps) v (f.leads ps v leads) (AreNatural-append il Ok (segment_exps p) (flattened (map segment_exps ps)) f.counted counted)))

  pub update_keeps : (at : Span) (e : Exp) (path : List Seg) (value : Exp) → Infers (update_row (decls_of il vars relations) w at e path value)
  update_keeps at e path value = λ m f. along_keeps (IsInferred il vars relations S w) at path m.ty (λ ps t. Asks (asked w value t) (λ v. give (exp.Set m.exp ps v.exp) m.ty))
      (λ ps t leads counted. λ v g. Has-Set il Ok m.exp v.exp ps m.ty t leads counted f g.0)

  pub extension_keeps : (at : Span) (e : Exp) (path : List Seg) (list : Exp) → Infers (extension_row (decls_of il vars relations) w at e path list)
  extension_keeps at e path list = λ m f. along_keeps (IsInferred il vars relations S w) at path m.ty (λ ps t. as_list at t (λ x. Asks (asked w list t) (λ l. give (exp.Extend m.exp ps l.exp) m.ty)))
      (λ ps t leads counted. keeps_list il vars relations S (IsInferred il vars relations S w) at t (λ x. Asks (asked w list t) (λ l. give (exp.Extend m.exp ps l.exp) m.ty))
      (λ x means. λ l g. Has-Extend il Ok m.exp l.exp ps m.ty t leads counted x means f g.0))
