-- Where the steps of each row lead, by what is known of its parts.
use Rattle.std.proofs.Common.{◌≡◌, refl, sym, ap, ◌∙◌, subst, ℕ, List, length, map, true, false, Option, Some, None, if◌then◌else◌, nat_eq}
use Rattle.std.specs.Map.{lookup}
use Rattle.st_num.specs.declared.span.Span.{Span}
use Rattle.st_num.specs.declared.mark.Mark.{Mark}
use Rattle.st_num.specs.declared.rule.RuleId.TheVariants.{Y1, Y2, Y3, Y4, Y5, Y6}
use Rattle.st_num.specs.Names.{same_name, is_among}
use Rattle.st_el.specs.declared.expression.Exp.{Exp}
use Rattle.st_il.specs.declared.ty.Ty.{Ty, out-Ty, roll-Ty, roll-out-Ty}
use Rattle.st_il.specs.declared.ty.Ty.TheOpen.{Ty-F}
use Rattle.st_il.specs.declared.ty.Ty.TheVariants as ty
use Rattle.st_il.specs.declared.definition.FunDef.{FunDef}
use Rattle.st_il.specs.declared.expression.IlExp.{IlExp}
use Rattle.st_il.specs.declared.expression.IlExp.TheVariants as il
use Rattle.st_type_table.specs.declared.entry.CaseDef.{CaseDef}
use Rattle.st_type_table.specs.Meaning.{Means, fields_of}
use Rattle.st_type_table.specs.Cases.{HasCases, HasFields}
use Rattle.st_type_table.specs.Joins.{Joins}
use Rattle.st_elab_table.specs.declared.decls.Decls.{Decls}
use Rattle.st_elab_table.specs.declared.decls.Scope.{Scope}
use Rattle.st_dims.specs.declared.within.Within.{Within}
use Rattle.st_elab_table.specs.Forms.{place, inferable, is_spliced, is_told_by_type}
use Rattle.st_elab_table.specs.Choice.{IsCaseOf}
use Rattle.st_elab_table.specs.Questions.{Manner, check, item, Answer, Fails, Chosen, can_join, Step, Asks, Tests, asks}
use Rattle.st_elab_table.specs.Steps.{breach, give, pass, asked, found, each_asked, exps, is_collection, joined_at, as_joined}
use Rattle.st_elab_table.specs.Collections.{element, other_row, item_of, sequence, splice, found_item, item_row}
use Rattle.st_elab_table.specs.Records.{case_row, variant_row, notation_row}
use Rattle.st_elab_table.specs.Operands.{beside, equation_row}
use Rattle.st_elab_table.specs.Operators.{equated}
use Rattle.st_elab_table.specs.Paths.{declared_field, field_by, as_field}
use Rattle.st_elab_table.specs.Inferred.{call_row}
use Rattle.st_elab_table.specs.Elaboration.{Leads, ends, passes, misses, opens, fits_none}

joined_no : (at : Span) (t u : Ty) (next : (IlExp → IlExp → IlExp) → Step) → ((x : Ty) → u ≡ ty.List x → ⊥)
    → joined_at at t next (out-Ty u) ≡ Tests (can_join t) (next il.Join) (breach at Y5)
joined_no at t u next list = go (out-Ty u) refl
  where
    go : (y : Ty-F Ty) → out-Ty u ≡ y → joined_at at t next y ≡ Tests (can_join t) (next il.Join) (breach at Y5)
    go (Ty-F.List x) o = absurd (list x (sym (roll-out-Ty u) ∙ (ap roll-Ty o ∙ ty.rolls-List x)))
    go (Ty-F.Opt x) o = refl
    go (Ty-F.Tuple xs) o = refl
    go (Ty-F.Name n) o = refl
    go Ty-F.Bool o = refl
    go Ty-F.Nat o = refl
    go Ty-F.Int o = refl
    go Ty-F.Text o = refl

module _ (D : Decls) (S : Scope) where
  -- ---- `++`

  pub joined_list : (at : Span) (t u x : Ty) (next : (IlExp → IlExp → IlExp) → Step) (a : Answer) → Means D.types t u → u ≡ ty.List x
      → Leads D S (next il.Cat) a → Leads D S (as_joined at t next) a
  joined_list at t u x next a m is h = opens u m (subst (λ z. Leads D S (joined_at at t next z) a) (sym (ap out-Ty is ∙ ty.outs-List x)) h)

  pub joined_record : (at : Span) (t u : Ty) (next : (IlExp → IlExp → IlExp) → Step) (a : Answer) → Means D.types t u → ((x : Ty) → u ≡ ty.List x → ⊥) → Joins D.types t
      → Leads D S (next il.Join) a → Leads D S (as_joined at t next) a
  joined_record at t u next a m list can h = opens u m (subst (λ z. Leads D S z a) (sym (joined_no at t u next list)) (passes can h))

  pub joined_fails : (at : Span) (t u : Ty) (next : (IlExp → IlExp → IlExp) → Step) → Means D.types t u → ((x : Ty) → u ≡ ty.List x → ⊥) → (Joins D.types t → ⊥)
      → Leads D S (as_joined at t next) (Fails (record { at = at; rule = Y5 }))
  joined_fails at t u next m list cannot =
      opens u m (subst (λ z. Leads D S z (Fails (record { at = at; rule = Y5 }))) (sym (joined_no at t u next list)) (misses cannot ends))

  -- ---- fields

  pub field_found : (at whole : Span) (name : List ℕ) (t v : Ty) (fields : List (List ℕ × Ty)) (next : Ty → Step) (a : Answer) → HasFields D.types t fields
      → lookup (same_name name) fields ≡ Some v → Leads D S (next v) a → Leads D S (as_field D at whole name t next) a
  field_found at whole name t v fields next a has is h =
      opens has.structure has.means (subst (λ z. Leads D S (field_by at whole name next z) a) (sym has.declared)
      (subst (λ z. Leads D S (declared_field whole next z) a) (sym is) h))

  pub field_unknown : (at whole : Span) (name : List ℕ) (t : Ty) (fields : List (List ℕ × Ty)) (next : Ty → Step) → HasFields D.types t fields
      → lookup (same_name name) fields ≡ None → Leads D S (as_field D at whole name t next) (Fails (record { at = whole; rule = Y4 }))
  field_unknown at whole name t fields next has is =
      opens has.structure has.means (subst (λ z. Leads D S (field_by at whole name next z) (Fails (record { at = whole; rule = Y4 }))) (sym has.declared)
      (subst (λ z. Leads D S (declared_field whole next z) (Fails (record { at = whole; rule = Y4 }))) (sym is) ends))

  fields_none : (t u : Ty) → Means D.types t u → ((fields : List (List ℕ × Ty)) → HasFields D.types t fields → ⊥) → fields_of D.types u ≡ None
  fields_none t u m none = go (fields_of D.types u) refl
    where
      go : (o : Option (List (List ℕ × Ty))) → fields_of D.types u ≡ o → o ≡ None
      go None e = refl
      go (Some fields) e = absurd (none fields (record { structure = u; means = m; declared = e }))

  pub field_no_record : (at whole : Span) (name : List ℕ) (t u : Ty) (next : Ty → Step) → Means D.types t u → ((fields : List (List ℕ × Ty)) → HasFields D.types t fields → ⊥)
      → Leads D S (as_field D at whole name t next) (Fails (record { at = at; rule = Y5 }))
  field_no_record at whole name t u next m none =
      opens u m (subst (λ z. Leads D S (field_by at whole name next z) (Fails (record { at = at; rule = Y5 }))) (sym (fields_none t u m none)) ends)

  -- ---- one element

  pub element_collection : (w : Within) (at : Span) (p : Manner) (e : Exp) (t x v : Ty) (lift : IlExp → IlExp) → Means D.types x v → is_collection v ≡ true
      → Leads D S (element w at p e t x lift) (Fails (record { at = at; rule = Y1 }))
  element_collection w at p e t x v lift m is =
      opens v m (subst (λ b. Leads D S (if b then breach at Y1 else Asks (check w at p e x) (λ m. give (lift m.exp) t)) (Fails (record { at = at; rule = Y1 }))) (sym is) ends)

  pub element_plain : (w : Within) (at : Span) (p : Manner) (e : Exp) (t x v : Ty) (lift : IlExp → IlExp) (a : Answer) → Means D.types x v → is_collection v ≡ false
      → Leads D S (Asks (check w at p e x) (λ m. give (lift m.exp) t)) a → Leads D S (element w at p e t x lift) a
  element_plain w at p e t x v lift a m is h =
      opens v m (subst (λ b. Leads D S (if b then breach at Y1 else Asks (check w at p e x) (λ m. give (lift m.exp) t)) a) (sym is) h)

  -- ---- sequences

  pub sequence_collection : (w : Within) (at : Span) (es : List Exp) (t x v : Ty) → Means D.types x v → is_collection v ≡ true
      → Leads D S (sequence w at es t x) (Fails (record { at = at; rule = Y2 }))
  sequence_collection w at es t x v m is =
      opens v m (subst (λ b. Leads D S (if b then breach at Y2 else asks (map (item w t x) es) (λ ms. give (il.List x (map item_of ms)) t)) (Fails (record { at = at; rule = Y2 }))) (sym is) ends)

  pub sequence_plain : (w : Within) (at : Span) (es : List Exp) (t x v : Ty) (a : Answer) → Means D.types x v → is_collection v ≡ false
      → Leads D S (asks (map (item w t x) es) (λ ms. give (il.List x (map item_of ms)) t)) a → Leads D S (sequence w at es t x) a
  sequence_plain w at es t x v a m is h =
      opens v m (subst (λ b. Leads D S (if b then breach at Y2 else asks (map (item w t x) es) (λ ms. give (il.List x (map item_of ms)) t)) a) (sym is) h)

  pub item_all : (w : Within) (t x : Ty) (e : Exp) (a : Answer) → is_spliced e ≡ true → Leads D S (Asks (asked w e t) splice) a → Leads D S (item_row w t x e) a
  item_all w t x e a is h =
      subst (λ b. Leads D S (if b then Asks (asked w e t) splice else if is_told_by_type e then Asks (found w e) (found_item (place e) t x) else pass (asked w e x)) a) (sym is) h

  pub item_found : (w : Within) (t x : Ty) (e : Exp) (a : Answer) → is_spliced e ≡ false → is_told_by_type e ≡ true
      → Leads D S (Asks (found w e) (found_item (place e) t x)) a → Leads D S (item_row w t x e) a
  item_found w t x e a is i h =
      subst (λ b. Leads D S (if b then Asks (asked w e t) splice else if is_told_by_type e then Asks (found w e) (found_item (place e) t x) else pass (asked w e x)) a) (sym is)
      (subst (λ b. Leads D S (if b then Asks (found w e) (found_item (place e) t x) else pass (asked w e x)) a) (sym i) h)

  pub item_one : (w : Within) (t x : Ty) (e : Exp) (a : Answer) → is_spliced e ≡ false → is_told_by_type e ≡ false
      → Leads D S (pass (asked w e x)) a → Leads D S (item_row w t x e) a
  item_one w t x e a is i h =
      subst (λ b. Leads D S (if b then Asks (asked w e t) splice else if is_told_by_type e then Asks (found w e) (found_item (place e) t x) else pass (asked w e x)) a) (sym is)
      (subst (λ b. Leads D S (if b then Asks (found w e) (found_item (place e) t x) else pass (asked w e x)) a) (sym i) h)

  -- ---- variants

  pub notation_variant : (w : Within) (at : Span) (p : Manner) (e : Exp) (t u : Ty) (cases : List CaseDef) (a : Answer) → HasCases D.types t cases
      → Leads D S (variant_row w at p.passed e t (out-Ty u)) a → Leads D S (notation_row w at p e t u) a
  notation_variant w at p e t u cases a has h = passes (cases, has) h

  pub notation_other : (w : Within) (at : Span) (p : Manner) (e : Exp) (t u : Ty) (a : Answer) → ((cases : List CaseDef) → HasCases D.types t cases → ⊥)
      → Leads D S (other_row w at p e t (out-Ty u)) a → Leads D S (notation_row w at p e t u) a
  notation_other w at p e t u a none h = misses (λ has. none has.0 has.1) h

  -- a variant at which the expression is being asked already
  pub variant_again : (w : Within) (at : Span) (passed : List (List ℕ)) (e : Exp) (t u : Ty) (variant : List ℕ) → u ≡ ty.Name variant → is_among variant passed ≡ true
      → Leads D S (variant_row w at passed e t (out-Ty u)) (Fails (record { at = at; rule = Y2 }))
  variant_again w at passed e t u variant is again =
      subst (λ z. Leads D S (variant_row w at passed e t z) (Fails (record { at = at; rule = Y2 }))) (sym (ap out-Ty is ∙ ty.outs-Name variant))
      (subst (λ b. Leads D S (if b then breach at Y2 else case_row w at passed e t variant) (Fails (record { at = at; rule = Y2 }))) (sym again) ends)

  pub variant_first : (w : Within) (at : Span) (passed : List (List ℕ)) (e : Exp) (t u : Ty) (variant : List ℕ) (a : Answer) → u ≡ ty.Name variant → is_among variant passed ≡ false
      → Leads D S (case_row w at passed e t variant) a → Leads D S (variant_row w at passed e t (out-Ty u)) a
  variant_first w at passed e t u variant a is fresh h =
      subst (λ z. Leads D S (variant_row w at passed e t z) a) (sym (ap out-Ty is ∙ ty.outs-Name variant))
      (subst (λ b. Leads D S (if b then breach at Y2 else case_row w at passed e t variant) a) (sym fresh) h)

  -- what has no name is no variant
  pub variant_unnamed : (w : Within) (at : Span) (passed : List (List ℕ)) (e : Exp) (t u : Ty) → ((n : List ℕ) → u ≡ ty.Name n → ⊥)
      → Leads D S (variant_row w at passed e t (out-Ty u)) (Fails (record { at = at; rule = Y2 }))
  variant_unnamed w at passed e t u unnamed = go (out-Ty u) refl
    where
      go : (y : Ty-F Ty) → out-Ty u ≡ y → Leads D S (variant_row w at passed e t y) (Fails (record { at = at; rule = Y2 }))
      go (Ty-F.Name n) o = absurd (unnamed n (sym (roll-out-Ty u) ∙ (ap roll-Ty o ∙ ty.rolls-Name n)))
      go y o = ends

  pub case_unfit : (w : Within) (at : Span) (passed : List (List ℕ)) (e : Exp) (t : Ty) (variant : List ℕ) → ((c : Chosen) → IsCaseOf D.types t e c → ⊥)
      → Leads D S (case_row w at passed e t variant) (Fails (record { at = at; rule = Y2 }))
  case_unfit w at passed e t variant none = fits_none none ends

  -- ---- operators

  pub equation_left : (w : Within) (at : Span) (sign : Mark) (l r : Exp) (a : Answer) → inferable l ≡ true → Leads D S (Asks (found w l) (beside w at sign r)) a
      → Leads D S (equation_row w at sign l r) a
  equation_left w at sign l r a i h =
      subst (λ b. Leads D S (if b then Asks (found w l) (beside w at sign r)
      else if inferable r then Asks (found w r) (λ y. Asks (asked w l y.ty) (λ x. give (equated sign x.exp y.exp) ty.Bool)) else breach at Y3) a) (sym i) h

  pub equation_right : (w : Within) (at : Span) (sign : Mark) (l r : Exp) (a : Answer) → inferable l ≡ false → inferable r ≡ true
      → Leads D S (Asks (found w r) (λ y. Asks (asked w l y.ty) (λ x. give (equated sign x.exp y.exp) ty.Bool))) a → Leads D S (equation_row w at sign l r) a
  equation_right w at sign l r a i k h =
      subst (λ b. Leads D S (if b then Asks (found w l) (beside w at sign r)
      else if inferable r then Asks (found w r) (λ y. Asks (asked w l y.ty) (λ x. give (equated sign x.exp y.exp) ty.Bool)) else breach at Y3) a) (sym i)
      (subst (λ b. Leads D S (if b then Asks (found w r) (λ y. Asks (asked w l y.ty) (λ x. give (equated sign x.exp y.exp) ty.Bool)) else breach at Y3) a) (sym k) h)

  pub equation_fails : (w : Within) (at : Span) (sign : Mark) (l r : Exp) → inferable l ≡ false → inferable r ≡ false
      → Leads D S (equation_row w at sign l r) (Fails (record { at = at; rule = Y3 }))
  equation_fails w at sign l r i k =
      subst (λ b. Leads D S (if b then Asks (found w l) (beside w at sign r)
      else if inferable r then Asks (found w r) (λ y. Asks (asked w l y.ty) (λ x. give (equated sign x.exp y.exp) ty.Bool)) else breach at Y3) (Fails (record { at = at; rule = Y3 }))) (sym i)
      (subst (λ b. Leads D S (if b then Asks (found w r) (λ y. Asks (asked w l y.ty) (λ x. give (equated sign x.exp y.exp) ty.Bool)) else breach at Y3) (Fails (record { at = at; rule = Y3 }))) (sym k) ends)

  -- ---- calls

  pub call_counted : (w : Within) (at : Span) (es : List Exp) (f : FunDef) (a : Answer) → nat_eq (length es) (length f.params) ≡ true
      → Leads D S (asks (each_asked w es f.params) (λ ms. give (il.Call f.name (exps ms)) f.result)) a → Leads D S (call_row w at es (Some f)) a
  call_counted w at es f a is h =
      subst (λ b. Leads D S (if b then asks (each_asked w es f.params) (λ ms. give (il.Call f.name (exps ms)) f.result) else breach at Y6) a) (sym is) h

  pub call_miscounted : (w : Within) (at : Span) (es : List Exp) (f : FunDef) → nat_eq (length es) (length f.params) ≡ false
      → Leads D S (call_row w at es (Some f)) (Fails (record { at = at; rule = Y6 }))
  call_miscounted w at es f is =
      subst (λ b. Leads D S (if b then asks (each_asked w es f.params) (λ ms. give (il.Call f.name (exps ms)) f.result) else breach at Y6) (Fails (record { at = at; rule = Y6 }))) (sym is) ends
