-- Lists, options, sequences and iterations are erased to what they are made of.
use Rattle.std.proofs.Common.{◌≡◌, refl, sym, ◌∙◌, ap, subst, ℕ, List, [], ◌∷◌, map, length, Bool, true, false, not, ◌&&◌, inl, inr}
use Rattle.std.specs.Prelude.{if◌then◌else◌, nat_le}
use Rattle.st_num.specs.declared.span.Span.{Span}
use Rattle.st_num.specs.declared.mark.Mark.{Mark}
use Rattle.st_el.specs.declared.expression.Exp.{Exp}
use Rattle.st_el.specs.declared.expression.Node.{Node, roll-Node}
use Rattle.st_el.specs.declared.expression.Node.TheVariants as node
use Rattle.st_el.specs.declared.expression.Count.{Count, out-Count, roll-Count}
use Rattle.st_el.specs.declared.expression.Count.TheVariants as times
use Rattle.st_el.specs.declared.expression.Count.TheOpen.{Node-F, Count-F, Below as count_below}
use Rattle.st_el.specs.declared.expression.Seg.{Seg}
use Rattle.st_el.specs.Plain.{plain_exp, plain_count}
use Rattle.st_il.specs.declared.definition.IlDef.{IlDef}
use Rattle.st_il.specs.declared.ty.Ty.{Ty, out-Ty, roll-Ty, roll-out-Ty}
use Rattle.st_il.specs.declared.ty.Ty.TheOpen.{Ty-F}
use Rattle.st_il.specs.declared.ty.Ty.TheVariants as ty
use Rattle.st_il.specs.declared.expression.IlExp.{IlExp}
use Rattle.st_il.specs.declared.expression.IlExp.TheVariants as il
use Rattle.st_il.specs.declared.expression.ListItem.TheVariants as part
use Rattle.st_il.specs.declared.expression.Iteration.{Iteration}
use Rattle.st_il.specs.declared.expression.Iteration.TheVariants as iteration
use Rattle.st_type_table.specs.Meaning.{Means}
use Rattle.st_notation.specs.Elements.{opened}
use Rattle.st_notation.specs.Fits.{Filling, one, run, missing}
use Rattle.st_erase.specs.declared.erased.Erased.{Erased}
use Rattle.st_erase.specs.declared.erased.ErasedKind.TheVariants as kind
use Rattle.st_erase.specs.Places.{exp, whole, count, parts_at, run as run_of}
use Rattle.st_erase.specs.Erasure.{source, lifted, erased, erased_item, erased_iteration}
use Rattle.st_elab_table.specs.declared.decls.Decls.{Decls}
use Rattle.st_elab_table.specs.declared.decls.Scope.{Scope}
use Rattle.st_dims.specs.declared.within.Within.{Within}
use Rattle.st_elab_table.specs.declared.operator.Operator.TheVariants as operator
use Rattle.st_elab_table.specs.Operators.{operator_of}
use Rattle.st_elab_table.specs.Forms.{place, is_spliced, is_told_by_type, goes_over_list}
use Rattle.st_elab_table.specs.Questions.{Manner, item, Made, Step, Asks}
use Rattle.st_elab_table.specs.Steps.{made, give, asked, is_collection, list_of_one, lifted_to, lifted_at, fitted}
use Rattle.st_il.specs.Occurrences.{occurs}
use Rattle.st_elab_table.specs.Iterations.{iterated}
use Rattle.st_elab_table.specs.Collections as table
use Rattle.st_elab_table.proofs.Keeps.{Keeps}
use Rattle.st_elab_law.proofs.Claims.{IsPresent, IsErasedTo, IsWritten, IsAlone, IsNoList, IsFilledBy, Claim, Claims}
use Rattle.st_elab_law.proofs.Plainness.{opened-exp, plain-count, count-is}
use Rattle.st_elab_law.proofs.Erasings.{erased-List, erased-Empty, erased-Present, erased-Absent, erased-Up, erased-Iter, item-One, item-All, iteration-Star, iteration-Plus, iteration-Quest, iteration-Times, iteration-Below}
use Rattle.st_elab_law.proofs.Writing.{whole_source, source_as, written_as, form_written, leaf_written, single_run, levels_alike, erased-one, lifted_written}
use Rattle.st_elab_law.proofs.Keeping.{keeps_if, keeps_asks, keeps_raised, keeps_joined, Writes, Kept}
use Rattle.st_elab_law.proofs.Operating.{joined_written}

-- a type that opens as a list is one
pub is_list : (u x : Ty) → out-Ty u ≡ Ty-F.List x → u ≡ ty.List x
is_list u x o = sym (roll-out-Ty u) ∙ ap roll-Ty o ∙ ty.rolls-List x

not_run : (b p : Bool) → (b && not p) ≡ true → p ≡ true → ⊥
not_run true true h g = absurd (cc)
not_run true false h g = absurd (cc)
not_run false p h g = absurd (cc)

is_long : (b p : Bool) → (b && not p) ≡ true → b ≡ true
is_long true p h = refl
is_long false p h = absurd (cc)

module _ (defs : List IlDef) (D : Decls) where
  -- ---- one element

  module _ (Alone : Type 0) (e : Exp) where
    lifted_to_keeps : (at : Span) (m : Made) (t x : Ty) (lift : IlExp → IlExp)
        → ((y : IlExp) → erased defs (lift y) ≡ record { exp = lifted (whole (erased defs y)); kind = kind.Plain })
        → IsErasedTo (erased defs m.exp) e → Kept defs D Alone e (lifted_to at m t x lift)
    lifted_to_keeps at m t x lift is h = λ v _. keeps_if D (Claim defs D) (Writes defs Alone e) (is_collection v) _ _ (λ _. tt)
        (λ _. (
          (λ _. keeps_raised defs D (Claim defs D) (Writes defs Alone e) m x (λ y. give (lift y) t)
              (λ y k. lifted_written defs Alone y (lift y) e (is y) (source_as (erased defs y) (erased defs m.exp) e k h))),
          (λ _. tt),
        ))

    lifted_at_keeps : (at : Span) (m : Made) (t : Ty) (y : Ty-F Ty) → IsErasedTo (erased defs m.exp) e → Kept defs D Alone e (lifted_at at m t y)
    lifted_at_keeps at m t (Ty-F.List x) h = lifted_to_keeps at m t x (list_of_one x) (erased-one defs x) h
    lifted_at_keeps at m t (Ty-F.Opt x) h = lifted_to_keeps at m t x il.Present (erased-Present defs) h
    lifted_at_keeps at m t y h = tt

    pub fitted_keeps : (at : Span) (t : Ty) (m : Made) → IsWritten (Unit {0}) (erased defs m.exp) e → Kept defs D Alone e (fitted at t m)
    fitted_keeps at t m h = (
      (λ _. written_as Alone (Unit {0}) (erased defs m.exp) (erased defs m.exp) e refl (λ _. tt) h),
      (λ _. (
        (λ _. written_as Alone (Unit {0}) (erased defs (il.Up t m.exp)) (erased defs m.exp) e (erased-Up defs t m.exp) (λ _. tt) h),
        (λ _. λ u _. lifted_at_keeps at m t (out-Ty u) h.same),
      )),
    )

    element_keeps : (w : Within) (at : Span) (p : Manner) (t x : Ty) (lift : IlExp → IlExp)
        → ((y : IlExp) → erased defs (lift y) ≡ record { exp = lifted (whole (erased defs y)); kind = kind.Plain }) → Kept defs D Alone e (table.element w at p e t x lift)
    element_keeps w at p t x lift is = λ v _. keeps_if D (Claim defs D) (Writes defs Alone e) (is_collection v) _ _ (λ _. tt)
        (λ _. λ m h. lifted_written defs Alone m.exp (lift m.exp) e (is m.exp) h.same)

    pub other_keeps : (w : Within) (at : Span) (p : Manner) (t : Ty) (y : Ty-F Ty) → Kept defs D Alone e (table.other_row w at p e t y)
    other_keeps w at p t (Ty-F.List x) = element_keeps w at p t x (list_of_one x) (erased-one defs x)
    other_keeps w at p t (Ty-F.Opt x) = element_keeps w at p t x il.Present (erased-Present defs)
    other_keeps w at p t y = tt

    pub eps_keeps : (at : Span) (t : Ty) (y : Ty-F Ty) → opened e ≡ Node-F.Eps → Kept defs D Alone e (table.eps_row at t y)
    eps_keeps at t (Ty-F.List x) is = leaf_written Alone (erased defs (il.List x [])) e node.Eps _ (erased-List defs x []) node.outs-Eps is
    eps_keeps at t (Ty-F.Opt x) is = leaf_written Alone (erased defs (il.Empty x)) e node.Eps _ (erased-Empty defs x) node.outs-Eps is
    eps_keeps at t y is = tt

    pub concatenation_keeps : (w : Within) (at : Span) (l r : Exp) (sign : Mark) (t : Ty) → opened e ≡ Node-F.Binary l sign r → operator_of sign ≡ operator.Concatenation
        → Kept defs D Alone e (table.concatenation_row w at l r t)
    concatenation_keeps w at l r sign t is joins =
        keeps_joined defs D (Claim defs D) (Writes defs Alone e) at t (λ join. Asks (asked w l t) (λ a. Asks (asked w r t) (λ b. give (join a.exp b.exp) t)))
        (λ join j. λ a f b g. joined_written defs D e l r sign is Alone join a.exp b.exp joins (j a.exp b.exp) f.same g.same)

  -- ---- iterations

  pub counted_keeps : (Q : Made → Type 0) (w : Within) (c : Count) (y : Count-F Count Node Seg Exp) (next : Iteration → Step) → out-Count c ≡ y
      → ((k : Iteration) → plain_count (erased_iteration defs k) ≡ plain_count c → Keeps D (Claim defs D) Q (next k)) → Keeps D (Claim defs D) Q (table.counted_at w y next)
  counted_keeps Q w c Count-F.Star next is h = h iteration.Star (ap plain_count (iteration-Star defs) ∙ count-is times.Star _ times.outs-Star ∙ sym (count-is c _ is))
  counted_keeps Q w c Count-F.Plus next is h = h iteration.Plus (ap plain_count (iteration-Plus defs) ∙ count-is times.Plus _ times.outs-Plus ∙ sym (count-is c _ is))
  counted_keeps Q w c Count-F.Quest next is h = h iteration.Quest (ap plain_count (iteration-Quest defs) ∙ count-is times.Quest _ times.outs-Quest ∙ sym (count-is c _ is))
  counted_keeps Q w c (Count-F.Times n) next is h = λ m f.
      let part = plain-count (erased defs m.exp) ∙ f.same in
      h (iteration.Times m.exp) (ap plain_count (iteration-Times defs m.exp) ∙ count-is (times.Times (count (erased defs m.exp))) _ (times.outs-Times (count (erased defs m.exp))) ∙ (λ i. roll-Count (Count-F.Times (part i))) ∙ sym (count-is c _ is))
  counted_keeps Q w c (Count-F.Below index n) next is h = λ m f.
      let part = plain-count (erased defs m.exp) ∙ f.same in
      h (iteration.Below index m.exp)
      (ap plain_count (iteration-Below defs index m.exp) ∙ count-is (times.Below index (count (erased defs m.exp))) _ (times.outs-Below index (count (erased defs m.exp))) ∙ (λ i. roll-Count (count_below index (part i))) ∙ sym (count-is c _ is))

  pub iteration_keeps : (Alone : Type 0) (S : Scope) (w : Within) (e b : Exp) (c : Count) (x : IlExp) (t : Ty) → opened e ≡ Node-F.Iter b c → IsErasedTo (erased defs x) b
      → Kept defs D Alone e (table.iteration S w c x t)
  iteration_keeps Alone S w e b c x t is h = counted_keeps (Writes defs Alone e) w c (out-Count c) (λ k. give (il.Iter k (iterated S w c (λ name. occurs name x)) x) t) refl (λ k g.
      let part = whole_source (erased defs x) b h in
      form_written Alone (erased defs (il.Iter k (iterated S w c (λ name. occurs name x)) x)) e (node.Iter (whole (erased defs x)) (erased_iteration defs k)) _ _
      (erased-Iter defs k (iterated S w c (λ name. occurs name x)) x) (node.outs-Iter (whole (erased defs x)) (erased_iteration defs k)) is (λ i. exp (roll-Node (Node-F.Iter (part i) (g i)))))

  pub iterated_keeps : (Alone : Type 0) (S : Scope) (w : Within) (at : Span) (p : Manner) (e b : Exp) (c : Count) (t : Ty) (y : Ty-F Ty) → opened e ≡ Node-F.Iter b c
      → Kept defs D Alone e (table.iteration_row S w at p e b c t y)
  iterated_keeps Alone S w at p e b c t (Ty-F.List x) is =
      keeps_if D (Claim defs D) (Writes defs Alone e) (goes_over_list (out-Count c)) _ _ (λ _. λ m h. iteration_keeps Alone S w e b c m.exp t is h.same) (λ _. other_keeps Alone e w at p t (Ty-F.List x))
  iterated_keeps Alone S w at p e b c t (Ty-F.Opt x) is =
      keeps_if D (Claim defs D) (Writes defs Alone e) (goes_over_list (out-Count c)) _ _ (λ _. other_keeps Alone e w at p t (Ty-F.Opt x)) (λ _. λ m h. iteration_keeps Alone S w e b c m.exp t is h.same)
  iterated_keeps Alone S w at p e b c t y is = other_keeps Alone e w at p t y

  -- ---- sequences

  source-item : (m : Made) → source (erased_item defs (table.item_of m)) ≡ whole (erased defs m.exp)
  source-item m = by m.spliced
    where
      by : (b : Bool) → source (erased_item defs (if b then part.All m.exp else part.One m.exp)) ≡ whole (erased defs m.exp)
      by true = ap source (item-All defs m.exp)
      by false = ap source (item-One defs m.exp)

  items_written : (w : Within) (t x : Ty) (es : List Exp) (ms : List Made) → Claims (Claim defs D) (map (item w t x) es) ms
      → map plain_exp (map source (map (erased_item defs) (map table.item_of ms))) ≡ map plain_exp es
  items_written w t x [] [] c = refl
  items_written w t x [] (m ∷ ms) c = absurd c
  items_written w t x (e ∷ es) [] c = absurd c
  items_written w t x (e ∷ es) (m ∷ ms) c =
      let first : plain_exp (source (erased_item defs (table.item_of m))) ≡ plain_exp e = ap plain_exp (source-item m) ∙ whole_source (erased defs m.exp) e c.0 in
      let rest = items_written w t x es ms c.1 in
      λ i. first i ∷ rest i

  -- the items of two elements or more
  abbrev AreItems : List Exp → Erased → Type 0
  AreItems es x = (parts : List Exp) × (map plain_exp parts ≡ map plain_exp es) × (x ≡ record { exp = exp (node.Seq parts); kind = kind.Run })

  list_items : (w : Within) (t x : Ty) (e f : Exp) (es : List Exp) (ms : List Made) → Claims (Claim defs D) (map (item w t x) (e ∷ f ∷ es)) ms
      → AreItems (e ∷ f ∷ es) (erased defs (il.List x (map table.item_of ms)))
  list_items w t x e f es [] c = absurd c
  list_items w t x e f es (m ∷ []) c = absurd c.1
  list_items w t x e f es (m ∷ n ∷ ms) c =
      (map source (map (erased_item defs) (map table.item_of (m ∷ n ∷ ms))), items_written w t x (e ∷ f ∷ es) (m ∷ n ∷ ms) c, erased-List defs x (map table.item_of (m ∷ n ∷ ms)))

  pub sequence_keeps : (Q : Made → Type 0) (w : Within) (at : Span) (e f : Exp) (es : List Exp) (t x : Ty) → ((y : IlExp) → AreItems (e ∷ f ∷ es) (erased defs y) → Q (record { exp = y; ty = t; spliced = false }))
      → Keeps D (Claim defs D) Q (table.sequence w at (e ∷ f ∷ es) t x)
  sequence_keeps Q w at e f es t x h = λ v _. keeps_if D (Claim defs D) Q (is_collection v) _ _ (λ _. tt)
      (λ _. keeps_asks D (Claim defs D) Q (map (item w t x) (e ∷ f ∷ es)) (λ ms. give (il.List x (map table.item_of ms)) t) (λ ms c. h (il.List x (map table.item_of ms)) (list_items w t x e f es ms c)))

  -- a sequence that is no part of an expression in parentheses, at a list type
  pub run_keeps : (w : Within) (at : Span) (p : Manner) (e : Exp) (es : List Exp) (t u x : Ty) → opened e ≡ Node-F.Seq es → Means D.types t u → out-Ty u ≡ Ty-F.List x → table.is_run es p.in_parentheses ≡ true
      → Kept defs D (IsAlone D p t) e (table.sequence w at es t x)
  run_keeps w at p e [] t u x is means list long = absurd (cc)
  run_keeps w at p e (f ∷ []) t u x is means list long = absurd (cc)
  run_keeps w at p e (f ∷ g ∷ es) t u x is means list long =
      sequence_keeps (Writes defs (IsAlone D p t) e) w at f g es t x (λ y h. record {
        same = ap (λ z. plain_exp z.exp) h.2 ∙ levels_alike (node.Seq h.0) e _ _ (node.outs-Seq h.0) is (λ i. exp (roll-Node (Node-F.Seq (h.1 i))));
        present = subst (λ z. IsPresent z.kind) (sym h.2) tt;
        single = λ alone. absurd (none alone);
      })
    where
      none : IsAlone D p t → ⊥
      none (inl within) = not_run (nat_le 2 (length (f ∷ g ∷ es))) p.in_parentheses long within
      none (inr other) = other x (subst (Means D.types t) (is_list u x list) means)

  -- ---- items

  found_item_keeps : (at : Span) (t x : Ty) (m : Made) (e : Exp) → IsErasedTo (erased defs m.exp) e → Keeps D (Claim defs D) (λ r. IsErasedTo (erased defs r.exp) e) (table.found_item at t x m)
  found_item_keeps at t x m e h = (
    (λ _. keeps_raised defs D (Claim defs D) (λ r. IsErasedTo (erased defs r.exp) e) m x (λ y. give y x) (λ y k. source_as (erased defs y) (erased defs m.exp) e k h)),
    (λ _. ((λ _. keeps_raised defs D (Claim defs D) (λ r. IsErasedTo (erased defs r.exp) e) m t (λ y. table.splice (made y t)) (λ y k. source_as (erased defs y) (erased defs m.exp) e k h)), (λ _. tt))),
  )

  pub item_keeps : (w : Within) (t x : Ty) (e : Exp) → Keeps D (Claim defs D) (λ r. IsErasedTo (erased defs r.exp) e) (table.item_row w t x e)
  item_keeps w t x e =
      keeps_if D (Claim defs D) (λ r. IsErasedTo (erased defs r.exp) e) (is_spliced e) _ _ (λ _. λ m h. h.same)
      (λ _. keeps_if D (Claim defs D) (λ r. IsErasedTo (erased defs r.exp) e) (is_told_by_type e) _ _ (λ _. λ m h. found_item_keeps (place e) t x m e h.same) (λ _. λ m h. h.same))

  -- ---- holes

  run_at_keeps : (w : Within) (at : Span) (e f : Exp) (es : List Exp) (t : Ty) (y : Ty-F Ty)
      → Keeps D (Claim defs D) (λ m. map plain_exp (run_of (erased defs m.exp)) ≡ map plain_exp (e ∷ f ∷ es)) (table.run_at w at (e ∷ f ∷ es) t y)
  run_at_keeps w at e f es t (Ty-F.List x) = sequence_keeps (λ m. map plain_exp (run_of (erased defs m.exp)) ≡ map plain_exp (e ∷ f ∷ es)) w at e f es t x (λ y h.
      ap (λ z. map plain_exp (run_of z)) h.2 ∙ ap (λ z. map plain_exp (parts_at (exp (node.Seq h.0)) z)) (opened-exp (node.Seq h.0) ∙ node.outs-Seq h.0) ∙ h.1)
  run_at_keeps w at e f es t y = tt

  pub hole_keeps : (w : Within) (at : Span) (passed : List (List ℕ)) (filling : Filling) (t : Ty)
      → Keeps D (Claim defs D) (λ m. IsFilledBy (IsNoList D t) filling (erased defs m.exp)) (table.hole_row w at passed filling t)
  hole_keeps w at passed (one e) t =
      λ m h. written_as (IsNoList D t) (IsAlone D (record { in_parentheses = false; passed = passed }) t) (erased defs m.exp) (erased defs m.exp) e refl (λ no. inr no) h
  hole_keeps w at passed (run []) t = ap (λ z. map plain_exp (run_of z)) (erased-Absent defs t)
  hole_keeps w at passed (run (e ∷ [])) t = λ m h. single_run (erased defs m.exp) e (h.single (inl refl)) h.same
  hole_keeps w at passed (run (e ∷ f ∷ es)) t = λ u _. run_at_keeps w at e f es t (out-Ty u)
  hole_keeps w at passed missing t = ap (λ z. z.kind) (erased-Absent defs t)
