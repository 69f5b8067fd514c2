-- Lists, options, sequences and what fills holes have the types that are asked.
use Rattle.std.proofs.Common.{◌≡◌, refl, sym, subst, ℕ, List, [], ◌∷◌, map, Bool, true, false, Option, Some}
use Rattle.std.specs.Prelude.{if◌then◌else◌}
use Rattle.st_num.specs.declared.span.Span.{Span}
use Rattle.st_el.specs.declared.expression.Exp.{Exp}
use Rattle.st_il.specs.declared.definition.Il.{Il}
use Rattle.st_il.specs.declared.definition.Listed.{Listed}
use Rattle.st_il.specs.declared.definition.RelationDef.{RelationDef}
use Rattle.st_il.specs.declared.expression.IlExp.{IlExp}
use Rattle.st_il.specs.declared.expression.IlExp.TheVariants as exp
use Rattle.st_il.specs.declared.expression.ListItem.{ListItem, out-ListItem}
use Rattle.st_il.specs.declared.expression.ListItem.TheVariants as part
use Rattle.st_il.specs.declared.ty.Ty.{Ty, out-Ty}
use Rattle.st_il.specs.declared.ty.Ty.TheOpen.{Ty-F}
use Rattle.st_il.specs.declared.ty.Ty.TheVariants as ty
use Rattle.st_type_table.specs.Meaning.{Means}
use Rattle.st_type_table.proofs.SameLemmas.{Same-refl}
use Rattle.st_notation.specs.Fits.{Filling, one, run, missing}
use Rattle.st_dims.specs.declared.within.Within.{Within}
use Rattle.st_il.specs.Definitions.{syntaxes}
use Rattle.st_semantics.specs.Operands.{item_at, item_exp}
use Rattle.st_elab_table.specs.declared.decls.Scope.{Scope}
use Rattle.st_elab_table.specs.Forms.{place, is_spliced, is_told_by_type}
use Rattle.st_elab_table.specs.Questions.{Manner, item, Made, Step, Asks}
use Rattle.st_elab_table.specs.Steps.{made, give, asked, is_collection, list_of_one, lifted_to, lifted_at, fitted}
use Rattle.st_elab_table.specs.Collections as table
use Rattle.st_ilcheck.specs.Parts.{standing}
use Rattle.st_ilcheck.specs.Rules.{IsListOrOption, AreItems}
use Rattle.st_ilcheck.specs.Rules.{IsItem as IsPart}
use Rattle.st_ilcheck.specs.Typings.{HasTyping, HaveTypings, none}
use Rattle.st_elab_typed.specs.inner.IsPlaced.{IsPlaced, ArePlaced}
use Rattle.st_elab_typed.specs.Law.{AreListedAs}
use Rattle.st_elab_typed.proofs.IsPlacedLemmas.{IsPlaced-at, ArePlaced-first}
use Rattle.st_elab_typed.proofs.SameLemmas.{Same-to_List, Same-List, Same-Opt}
use Rattle.st_elab_typed.proofs.HasTypingLemmas.{HasTyping-made, HaveTypings-more}
use Rattle.st_elab_typed.proofs.HasLemmas.{Has-exactly, Has-equal}
use Rattle.st_elab_typed.proofs.Forms.{Has-Empty, Has-Absent, Has-Present, Has-Up}
use Rattle.st_elab_typed.proofs.Claims.{Equals, MayFill, decls_of, HasIn, IsChecked, IsInferred, IsItem, Claims, Kept}
use Rattle.st_elab_typed.proofs.Keeping.{is_list, is_option, keeps_if, keeps_asks, keeps_raised}
use Rattle.st_elab_typed.proofs.Operating.{keeps_joined}

module _ (il : Il) (vars : List (List ℕ × Ty)) (relations : List RelationDef) (S : Scope) (total : (t : Ty) → (u : Ty) × Means (syntaxes il) t u) (w : Within) where
  abbrev Ok : List Listed → Type 0
  Ok = AreListedAs (decls_of il vars relations) S w

  abbrev Found : (Ty → Type 0) → IlExp → Type 0
  Found P x = HasIn il vars relations S w P x

  abbrev Checks : Ty → Step → Type 0
  Checks t s = Kept il vars relations S (IsChecked il vars relations S w t) s

  -- ---- the parts of a list

  -- each is an item of a list of the type t
  abbrev EachItem : Ty → Ty → List Made → Type 0
  EachItem t x [] = Unit {0}
  EachItem t x (m ∷ ms) = IsItem il vars relations S w t x m.spliced m.exp × EachItem t x ms

  abbrev item_by : Bool → IlExp → ListItem
  item_by spliced e = if spliced then part.All e else part.One e

  -- a part of a list that breaks no rule
  abbrev TypedPart : List Listed → Ty → ListItem → Type 0
  TypedPart ls x i = (o : Ty) × (HasTyping il ls (item_exp i) (Some o) [] × IsPart (syntaxes il) x (out-ListItem i) (Some o))

  part_typed : (t x : Ty) → Means (syntaxes il) t (ty.List x) → (b : Bool) (e : IlExp) → IsItem il vars relations S w t x b e
      → (ls : List Listed) → Ok ls → IsPlaced ls (item_exp (item_by b e)) → TypedPart ls x (item_by b e)
  part_typed t x means true e h ls ok k =
      let r = h ls ok (subst (λ z. IsPlaced ls (item_at z)) (part.outs-All e) k) in
      let l = Same-to_List (syntaxes il) total r.0 t x means r.1.1 in
      subst (λ z. (o : Ty) × (HasTyping il ls (item_at z) (Some o) [] × IsPart (syntaxes il) x z (Some o))) (sym (part.outs-All e)) (r.0, (r.1.0, l))
  part_typed t x means false e h ls ok k =
      let r = h ls ok (subst (λ z. IsPlaced ls (item_at z)) (part.outs-One e) k) in
      subst (λ z. (o : Ty) × (HasTyping il ls (item_at z) (Some o) [] × IsPart (syntaxes il) x z (Some o))) (sym (part.outs-One e)) r

  record TypedParts (ls : List Listed) (x : Ty) (items : List ListItem) : Type 0 where
    os : List (Option Ty)
    typings : HaveTypings il (standing ls (map item_exp items)) os []
    parts : AreItems (syntaxes il) x items os

  parts_typed : (t x : Ty) → Means (syntaxes il) t (ty.List x) → (ms : List Made) → EachItem t x ms
      → (ls : List Listed) → Ok ls → ArePlaced (standing ls (map item_exp (map table.item_of ms))) → TypedParts ls x (map table.item_of ms)
  parts_typed t x means [] h ls ok k = record { os = []; typings = none; parts = tt }
  parts_typed t x means (m ∷ ms) h ls ok k =
      let n = ArePlaced-first (ls, item_exp (table.item_of m)) (standing ls (map item_exp (map table.item_of ms))) k in
      let r = part_typed t x means m.spliced m.exp h.0 ls ok n.0 in
      let rest = parts_typed t x means ms h.1 ls ok n.1 in
      record {
        os = Some r.0 ∷ rest.os;
        typings = HaveTypings-more il (ls, item_exp (table.item_of m)) (standing ls (map item_exp (map table.item_of ms))) (Some r.0) rest.os r.1.0 rest.typings;
        parts = (r.1.1, rest.parts);
      }

  Has-List : (t x : Ty) → Means (syntaxes il) t (ty.List x) → (ms : List Made) → EachItem t x ms → Found (Equals il t) (exp.List x (map table.item_of ms))
  Has-List t x means ms h ls ok k =
      let r = parts_typed t x means ms h ls ok (IsPlaced-at ls (exp.List x (map table.item_of ms)) _ (exp.outs-List x (map table.item_of ms)) k).parts in (
        ty.List x,
        (
          HasTyping-made il ls (exp.List x (map table.item_of ms)) _ (exp.outs-List x (map table.item_of ms)) r.os r.typings (Some (ty.List x)) refl r.parts tt refl,
          Same-List (syntaxes il) x x t means (Same-refl (syntaxes il) total x),
        ),
      )

  -- ---- one element

  list_lifts : (t x : Ty) → Means (syntaxes il) t (ty.List x) → (y : IlExp) → Found (Equals il x) y → Found (Equals il t) (list_of_one x y)
  list_lifts t x means y h = Has-List t x means (made y x ∷ []) (h, tt)

  lifted_to_keeps : (at : Span) (m : Made) (t x : Ty) (lift : IlExp → IlExp) → ((y : IlExp) → Found (Equals il x) y → Found (Equals il t) (lift y)) → IsInferred il vars relations S w m → Checks t (lifted_to at m t x lift)
  lifted_to_keeps at m t x lift lifts f = λ v _. keeps_if il vars relations S (IsChecked il vars relations S w t) (is_collection v) _ _ (λ _. tt)
      (λ _. (
        (λ below. keeps_raised il vars relations S (IsChecked il vars relations S w t) w m x (λ y. give (lift y) t) below f (λ y h. (lifts y h, refl)) total),
        (λ _. tt),
      ))

  lifted_at_keeps : (at : Span) (m : Made) (t u : Ty) (y : Ty-F Ty) → Means (syntaxes il) t u → out-Ty u ≡ y → IsInferred il vars relations S w m → Checks t (lifted_at at m t y)
  lifted_at_keeps at m t u (Ty-F.List x) means is f = lifted_to_keeps at m t x (list_of_one x) (list_lifts t x (subst (Means (syntaxes il) t) (is_list u x is) means)) f
  lifted_at_keeps at m t u (Ty-F.Opt x) means is f = lifted_to_keeps at m t x exp.Present (λ y h. Has-Present il Ok y t x (subst (Means (syntaxes il) t) (is_option u x is) means) h) f
  lifted_at_keeps at m t u y means is f = tt

  pub fitted_keeps : (at : Span) (t : Ty) (m : Made) → IsInferred il vars relations S w m → Checks t (fitted at t m)
  fitted_keeps at t m f = (
    (λ same. (Has-equal il Ok m.exp m.ty t same f, refl)),
    (λ apart. (
      (λ below. (Has-exactly il Ok total (exp.Up t m.exp) t (Has-Up il Ok m.exp m.ty t below apart f), refl)),
      (λ _. λ u means. lifted_at_keeps at m t u (out-Ty u) means refl f),
    )),
  )

  element_keeps : (at : Span) (p : Manner) (e : Exp) (t x : Ty) (lift : IlExp → IlExp) → ((y : IlExp) → Found (Equals il x) y → Found (Equals il t) (lift y)) → Checks t (table.element w at p e t x lift)
  element_keeps at p e t x lift lifts = λ v _. keeps_if il vars relations S (IsChecked il vars relations S w t) (is_collection v) _ _ (λ _. tt) (λ _. λ m h. (lifts m.exp h.0, refl))

  pub other_keeps : (at : Span) (p : Manner) (e : Exp) (t u : Ty) (y : Ty-F Ty) → Means (syntaxes il) t u → out-Ty u ≡ y → Checks t (table.other_row w at p e t y)
  other_keeps at p e t u (Ty-F.List x) means is = element_keeps at p e t x (list_of_one x) (list_lifts t x (subst (Means (syntaxes il) t) (is_list u x is) means))
  other_keeps at p e t u (Ty-F.Opt x) means is = element_keeps at p e t x exp.Present (λ y h. Has-Present il Ok y t x (subst (Means (syntaxes il) t) (is_option u x is) means) h)
  other_keeps at p e t u y means is = tt

  pub eps_keeps : (at : Span) (t u : Ty) (y : Ty-F Ty) → Means (syntaxes il) t u → out-Ty u ≡ y → Checks t (table.eps_row at t y)
  eps_keeps at t u (Ty-F.List x) means is = (Has-List t x (subst (Means (syntaxes il) t) (is_list u x is) means) [] tt, refl)
  eps_keeps at t u (Ty-F.Opt x) means is =
      (Has-equal il Ok (exp.Empty x) (ty.Opt x) t (Same-Opt (syntaxes il) x x t (subst (Means (syntaxes il) t) (is_option u x is) means) (Same-refl (syntaxes il) total x)) (Has-Empty il Ok x), refl)
  eps_keeps at t u y means is = tt

  pub concatenation_keeps : (at : Span) (l r : Exp) (t : Ty) → Checks t (table.concatenation_row w at l r t)
  concatenation_keeps at l r t =
      keeps_joined il vars relations S total w (IsChecked il vars relations S w t) at t (λ join. Asks (asked w l t) (λ a. Asks (asked w r t) (λ b. give (join a.exp b.exp) t)))
      (λ join puts. λ a f b g. (puts (Equals il t) (λ o s. s) a.exp b.exp f.0 g.0, refl))

  -- ---- sequences

  items_of : (t x : Ty) (es : List Exp) (ms : List Made) → Claims il vars relations S (map (item w t x) es) ms → EachItem t x ms
  items_of t x [] [] c = tt
  items_of t x [] (m ∷ ms) c = absurd c
  items_of t x (e ∷ es) [] c = absurd c
  items_of t x (e ∷ es) (m ∷ ms) c = (c.0, items_of t x es ms c.1)

  sequence_keeps : (Q : Made → Type 0) (at : Span) (es : List Exp) (t x : Ty) → Means (syntaxes il) t (ty.List x) → ((y : IlExp) → Found (Equals il t) y → Q (made y t)) → Kept il vars relations S Q (table.sequence w at es t x)
  sequence_keeps Q at es t x means h = λ v _. keeps_if il vars relations S Q (is_collection v) _ _ (λ _. tt)
      (λ _. keeps_asks il vars relations S Q (map (item w t x) es) (λ ms. give (exp.List x (map table.item_of ms)) t)
      (λ ms c. h (exp.List x (map table.item_of ms)) (Has-List t x means ms (items_of t x es ms c))))

  -- a sequence at a list type
  pub run_keeps : (at : Span) (es : List Exp) (t u x : Ty) → Means (syntaxes il) t u → out-Ty u ≡ Ty-F.List x → Checks t (table.sequence w at es t x)
  run_keeps at es t u x means is = sequence_keeps (IsChecked il vars relations S w t) at es t x (subst (Means (syntaxes il) t) (is_list u x is) means) (λ y h. (h, refl))

  -- ---- items

  abbrev Items : Ty → Ty → Step → Type 0
  Items t x s = Kept il vars relations S (λ r. IsItem il vars relations S w t x r.spliced r.exp) s

  found_item_keeps : (at : Span) (t x : Ty) (m : Made) → IsInferred il vars relations S w m → Items t x (table.found_item at t x m)
  found_item_keeps at t x m f = (
    (λ below. keeps_raised il vars relations S (λ r. IsItem il vars relations S w t x r.spliced r.exp) w m x (λ y. give y x) below f (λ y h. h) total),
    (λ _. (
      (λ below. keeps_raised il vars relations S (λ r. IsItem il vars relations S w t x r.spliced r.exp) w m t (λ y. table.splice (made y t)) below f (λ y h. h) total),
      (λ _. tt),
    )),
  )

  pub item_keeps : (t x : Ty) (e : Exp) → Items t x (table.item_row w t x e)
  item_keeps t x e =
      keeps_if il vars relations S (λ r. IsItem il vars relations S w t x r.spliced r.exp) (is_spliced e) _ _ (λ _. λ m h. h.0)
      (λ _. keeps_if il vars relations S (λ r. IsItem il vars relations S w t x r.spliced r.exp) (is_told_by_type e) _ _
      (λ _. λ m f. found_item_keeps (place e) t x m f)
      (λ _. λ m h. subst (λ b. IsItem il vars relations S w t x b m.exp) (sym h.1) h.0))

  -- ---- holes

  abbrev Fills : Filling → Ty → Step → Type 0
  Fills filling t s = Kept il vars relations S (λ m. MayFill (syntaxes il) filling t → Found (Equals il t) m.exp) s

  absent_fills : (t : Ty) → IsListOrOption (syntaxes il) t → Found (Equals il t) (exp.Absent t)
  absent_fills t h = Has-exactly il Ok total (exp.Absent t) t (Has-Absent il Ok t h)

  run_at_keeps : (at : Span) (e f : Exp) (es : List Exp) (t u : Ty) (y : Ty-F Ty) → Means (syntaxes il) t u → out-Ty u ≡ y → Fills (run (e ∷ f ∷ es)) t (table.run_at w at (e ∷ f ∷ es) t y)
  run_at_keeps at e f es t u (Ty-F.List x) means is = sequence_keeps (λ m. MayFill (syntaxes il) (run (e ∷ f ∷ es)) t → Found (Equals il t) m.exp) at (e ∷ f ∷ es) t x (subst (Means (syntaxes il) t) (is_list u x is) means) (λ y h _. h)
  run_at_keeps at e f es t u y means is = tt

  pub hole_keeps : (at : Span) (passed : List (List ℕ)) (filling : Filling) (t : Ty) → Fills filling t (table.hole_row w at passed filling t)
  hole_keeps at passed (one e) t = λ m h _. h.0
  hole_keeps at passed (run []) t = absent_fills t
  hole_keeps at passed (run (e ∷ [])) t = λ m h _. h.0
  hole_keeps at passed (run (e ∷ f ∷ es)) t = λ u means. run_at_keeps at e f es t u (out-Ty u) means refl
  hole_keeps at passed missing t = absent_fills t
