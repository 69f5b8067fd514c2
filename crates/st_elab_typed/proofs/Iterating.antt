-- Iterations have the type that their body gives, and their bodies stand where the variables are listed inside.
use Rattle.std.proofs.Common.{◌≡◌, refl, sym, ap, ◌∙◌, subst, ℕ, List, [], ◌∷◌, ◌++◌, map, Bool, true, false, ◌||◌, Option, Some, ◌⊎◌, inl, inr}
use Rattle.std.specs.Prelude.{if◌then◌else◌}
use Rattle.std.specs.Option.{option_or, option_map}
use Rattle.std.specs.Map.{lookup}
use Rattle.std.proofs.lemmas.List.Folds.{list_any-append}
use Rattle.st_num.specs.Names.{same_name, is_among}
use Rattle.st_num.specs.declared.dim.Kind.{Kind}
use Rattle.st_num.specs.declared.dim.Kind.TheVariants as kind
use Rattle.st_num.specs.declared.span.Span.{Span}
use Rattle.st_el.specs.declared.expression.Exp.{Exp}
use Rattle.st_el.specs.declared.expression.Node.{Node}
use Rattle.st_el.specs.declared.expression.Count.{Count, out-Count}
use Rattle.st_el.specs.declared.expression.Count.TheOpen.{Count-F}
use Rattle.st_el.specs.declared.expression.Seg.{Seg}
use Rattle.st_il.specs.Occurrences.{occurs}
use Rattle.st_il.specs.declared.definition.Il.{Il}
use Rattle.st_il.specs.declared.definition.Listed.{Listed}
use Rattle.st_il.specs.declared.definition.RelationDef.{RelationDef}
use Rattle.st_il.specs.declared.expression.IlExp.{IlExp}
use Rattle.st_il.specs.declared.expression.IlExp.TheVariants as exp
use Rattle.st_il.specs.declared.expression.Iteration.{Iteration}
use Rattle.st_il.specs.declared.expression.Iteration.TheVariants as times
use Rattle.st_il.specs.declared.ty.Ty.{Ty, out-Ty}
use Rattle.st_il.specs.declared.ty.Ty.TheOpen.{Ty-F}
use Rattle.st_il.specs.declared.ty.Ty.TheVariants as ty
use Rattle.st_type_table.specs.Meaning.{Means}
use Rattle.st_type_table.specs.Same.{Same}
use Rattle.st_dims.specs.declared.within.Within.{Within}
use Rattle.st_dims.specs.Around.{kind_at, index_at, inside}
use Rattle.st_il.specs.Names.{Name}
use Rattle.st_il.specs.Definitions.{syntaxes}
use Rattle.st_semantics.specs.Environments.{wrapped, listed_as}
use Rattle.st_semantics.specs.Iterations.{count_of, index_of, kind_of}
use Rattle.st_semantics.specs.Iterations as level
use Rattle.st_semantics.specs.Scopes.{stepped, stepped_all, indices, listed_inside}
use Rattle.st_elab_table.specs.declared.decls.Decls.{Decls}
use Rattle.st_elab_table.specs.declared.decls.Scope.{Scope}
use Rattle.st_elab_table.specs.Forms.{goes_over_list}
use Rattle.st_elab_table.specs.Iterations.{of_kind, iterated_type, iterated}
use Rattle.st_elab_table.specs.Inferred.{entry_of, variable_type, inferred_iteration}
use Rattle.st_elab_table.specs.Variables.{type_of_name}
use Rattle.st_elab_table.specs.Questions.{Manner, Made, Step}
use Rattle.st_elab_table.specs.Steps.{give}
use Rattle.st_elab_table.specs.Collections as table
use Rattle.st_ilcheck.specs.Parts.{standing}
use Rattle.st_ilcheck.specs.Rules.{AllAre}
use Rattle.st_ilcheck.specs.Typings.{HasTyping, HaveTypings, none}
use Rattle.st_elab_typed.specs.inner.IsPlaced.{ArePlaced}
use Rattle.st_elab_typed.specs.Law.{AreListedAs}
use Rattle.st_elab_typed.proofs.Claims.{Has, Equals, Exactly, decls_of, HasIn, IsChecked, IsInferred, Kept}
use Rattle.st_elab_typed.proofs.IsPlacedLemmas.{IsPlaced-at, ArePlaced-first}
use Rattle.st_elab_typed.proofs.SameLemmas.{Same-List, Same-Opt}
use Rattle.st_elab_typed.proofs.HasTypingLemmas.{HasTyping-made, HaveTypings-more, last_type-push, before_last-push}
use Rattle.st_elab_typed.proofs.Keeping.{is_list, is_option, keeps_if}
use Rattle.st_elab_typed.proofs.Walking.{AreNatural}
use Rattle.st_elab_typed.proofs.Listing.{other_keeps}

-- ---- variables as they are listed inside

-- a variable that is listed inside is an index, or is listed outside with the same type
abbrev IsInside : List Name → List Listed → Name → Listed → Type 0
IsInside is ls x l =
    ((is_among x is ≡ true) × (l.ty ≡ ty.Nat))
    ⊎ ((is_among x is ≡ false) × ((m : Listed) × ((listed_as x ls ≡ Some m) × (l.ty ≡ m.ty))))

some_same : {A : Type 0} {x y : A} → Some x ≡ Some y → x ≡ y
some_same e = cc

stepped_type : (xs : List Name) (ls : List Listed) (x : Name) (l : Listed) → listed_as x (stepped_all xs ls) ≡ Some l → (m : Listed) × ((listed_as x ls ≡ Some m) × (l.ty ≡ m.ty))
stepped_type xs [] x l h = absurd (cc)
stepped_type xs (k ∷ ls) x l h = by (same_name x k.name) refl h (stepped_type xs ls x l)
  where
    by : (b : Bool) → same_name x k.name ≡ b → (if b then Some (stepped xs k) else listed_as x (stepped_all xs ls)) ≡ Some l
        → (listed_as x (stepped_all xs ls) ≡ Some l → (m : Listed) × ((listed_as x ls ≡ Some m) × (l.ty ≡ m.ty)))
        → (m : Listed) × (((if same_name x k.name then Some k else listed_as x ls) ≡ Some m) × (l.ty ≡ m.ty))
    by true e g next = (k, (ap (λ b. if b then Some k else listed_as x ls) e, sym (ap (λ z. z.ty) (some_same g))))
    by false e g next = let r = next g in (r.0, (ap (λ b. if b then Some k else listed_as x ls) e ∙ r.1.0, r.1.1))

listed_within : (is xs : List Name) (ls : List Listed) (x : Name) (l : Listed) → listed_as x (indices is ++ stepped_all xs ls) ≡ Some l → IsInside is ls x l
listed_within [] xs ls x l h = inr (refl, stepped_type xs ls x l h)
listed_within (i ∷ is) xs ls x l h = by (same_name x i) refl h (listed_within is xs ls x l)
  where
    more : (b : Bool) → same_name x i ≡ b → b ≡ false → IsInside is ls x l → IsInside (i ∷ is) ls x l
    more b e f (inl r) = inl (ap (λ c. c || is_among x is) (e ∙ f) ∙ r.0, r.1)
    more b e f (inr r) = inr (ap (λ c. c || is_among x is) (e ∙ f) ∙ r.0, r.1)

    by : (b : Bool) → same_name x i ≡ b → (if b then Some (record { name = i; ty = ty.Nat; dim = [] }) else listed_as x (indices is ++ stepped_all xs ls)) ≡ Some l
        → (listed_as x (indices is ++ stepped_all xs ls) ≡ Some l → IsInside is ls x l) → IsInside (i ∷ is) ls x l
    by true e g next = inl (ap (λ c. c || is_among x is) e, sym (ap (λ z. z.ty) (some_same g)))
    by false e g next = more false e refl (next g)

or-true : (b c : Bool) → c ≡ true → (b || c) ≡ true
or-true true c h = refl
or-true false c h = h

or-false : (b c : Bool) → c ≡ false → (b || c) ≡ b
or-false true c h = refl
or-false false c h = h

module _ (D : Decls) (S : Scope) (w : Within) (c : Count) where
  -- the variables are listed inside with the types that they have there
  pub AreListedAs-inside : (how : Iteration) (xs : List Name) (ls : List Listed) → index_of how ≡ index_at (out-Count c) → AreListedAs D S w ls → AreListedAs D S (inside w c) (listed_inside how xs ls)
  AreListedAs-inside how xs ls same h x l is = by (listed_within (index_of how) xs ls x l is)
    where
      among : is_among x (inside w c).indices ≡ (is_among x w.indices || is_among x (index_of how))
      among = list_any-append (same_name x) w.indices (index_at (out-Count c)) ∙ ap (λ z. is_among x w.indices || is_among x z) (sym same)

      by : IsInside (index_of how) ls x l → variable_type D S (inside w c) x ≡ Some l.ty
      by (inl r) =
          ap (λ b. if b then Some ty.Nat else option_or (lookup (same_name x) (map entry_of S.variables)) (type_of_name D x)) (among ∙ or-true (is_among x w.indices) (is_among x (index_of how)) r.0)
          ∙ ap Some (sym r.1)
      by (inr r) =
          ap (λ b. if b then Some ty.Nat else option_or (lookup (same_name x) (map entry_of S.variables)) (type_of_name D x)) (among ∙ or-false (is_among x w.indices) (is_among x (index_of how)) r.0)
          ∙ h x r.1.0 r.1.1.0 ∙ ap Some (sym r.1.1.1)

-- ---- iterations

module _ (il : Il) (Ok Inner : List Listed → Type 0) where
  -- the types of the count, and of the body behind it
  record TypedBody (ls inner : List Listed) (cs : List IlExp) (body : IlExp) (o : Ty) : Type 0 where
    os : List (Option Ty)
    typings : HaveTypings il (standing ls cs ++ (inner, body) ∷ []) (os ++ Some o ∷ []) []
    natural : AllAre (syntaxes il) ty.Nat os

  record KeptBody (inner : List Listed) (body : IlExp) : Type 0 where
    kept : ArePlaced ((inner, body) ∷ [])

  kept_body : (ls inner : List Listed) (cs : List IlExp) (body : IlExp) → ArePlaced (standing ls cs ++ (inner, body) ∷ []) → KeptBody inner body
  kept_body ls inner [] body k = record { kept = k }
  kept_body ls inner (e ∷ cs) body k = kept_body ls inner cs body (ArePlaced-first (ls, e) (standing ls cs ++ (inner, body) ∷ []) k).1

  typed_body : (ls inner : List Listed) (cs : List IlExp) (body : IlExp) (o : Ty) → Ok ls → ArePlaced (standing ls cs ++ (inner, body) ∷ []) → AreNatural il Ok cs → HasTyping il inner body (Some o) [] → TypedBody ls inner cs body o
  typed_body ls inner [] body o ok k h t = record { os = []; typings = HaveTypings-more il (inner, body) [] (Some o) [] t none; natural = tt }
  typed_body ls inner (e ∷ cs) body o ok k h t =
      let n = ArePlaced-first (ls, e) (standing ls cs ++ (inner, body) ∷ []) k in
      let r = h.0 ls ok n.0 in
      let rest = typed_body ls inner cs body o ok n.1 h.1 t in
      record {
        os = Some r.0 ∷ rest.os;
        typings = HaveTypings-more il (ls, e) (standing ls cs ++ (inner, body) ∷ []) (Some r.0) (rest.os ++ Some o ∷ []) r.1.0 rest.typings;
        natural = (r.1.1, rest.natural);
      }

  Has-Iter : (how : Iteration) (xs : List Name) (body : IlExp) (P Q : Ty → Type 0) → ((ls : List Listed) → Ok ls → Inner (listed_inside how xs ls)) → AreNatural il Ok (count_of how)
      → ((o : Ty) → P o → Q (wrapped (kind_of how ∷ []) o)) → Has il Inner P body → Has il Ok Q (exp.Iter how xs body)
  Has-Iter how xs body P Q within counted goes h ls ok k =
      let n = IsPlaced-at ls (exp.Iter how xs body) _ (exp.outs-Iter how xs body) k in
      let b = kept_body ls (listed_inside how xs ls) (count_of how) body n.parts in
      let r = h (listed_inside how xs ls) (within ls ok) (ArePlaced-first (listed_inside how xs ls, body) [] b.kept).0 in
      let s = typed_body ls (listed_inside how xs ls) (count_of how) body r.0 ok n.parts counted r.1.0 in (
        wrapped (kind_of how ∷ []) r.0,
        (
          HasTyping-made il ls (exp.Iter how xs body) _ (exp.outs-Iter how xs body) (s.os ++ Some r.0 ∷ []) s.typings (Some (wrapped (kind_of how ∷ []) r.0))
              (sym (ap (option_map (wrapped (kind_of how ∷ []))) (last_type-push s.os (Some r.0))))
              (subst (AllAre (syntaxes il) ty.Nat) (sym (before_last-push s.os (Some r.0))) s.natural) tt n.names,
          goes r.0 r.1.1,
        ),
      )

module _ (il : Il) (vars : List (List ℕ × Ty)) (relations : List RelationDef) (S : Scope) where
  abbrev D : Decls
  D = decls_of il vars relations

  -- what is made of a count
  pub record IsCounted (w : Within) (y : Count-F Count Node Seg Exp) (how : Iteration) : Type 0 where
    pub natural : AreNatural il (AreListedAs D S w) (count_of how)
    pub kinds : kind_of how ≡ kind_at y
    pub index : index_of how ≡ index_at y

  module _ (w : Within) (Q : Made → Type 0) where
    pub counted_keeps : (y : Count-F Count Node Seg Exp) (next : Iteration → Step) → ((how : Iteration) → IsCounted w y how → Kept il vars relations S Q (next how)) → Kept il vars relations S Q (table.counted_at w y next)
    counted_keeps Count-F.Star next h = h times.Star (record {
      natural = subst (λ z. AreNatural il (AreListedAs D S w) (level.count_at z)) (sym times.outs-Star) tt;
      kinds = ap level.kind_at times.outs-Star;
      index = ap level.index_at times.outs-Star;
    })
    counted_keeps Count-F.Plus next h = h times.Plus (record {
      natural = subst (λ z. AreNatural il (AreListedAs D S w) (level.count_at z)) (sym times.outs-Plus) tt;
      kinds = ap level.kind_at times.outs-Plus;
      index = ap level.index_at times.outs-Plus;
    })
    counted_keeps Count-F.Quest next h = h times.Quest (record {
      natural = subst (λ z. AreNatural il (AreListedAs D S w) (level.count_at z)) (sym times.outs-Quest) tt;
      kinds = ap level.kind_at times.outs-Quest;
      index = ap level.index_at times.outs-Quest;
    })
    counted_keeps (Count-F.Times n) next h = λ m f. h (times.Times m.exp) (record {
      natural = subst (λ z. AreNatural il (AreListedAs D S w) (level.count_at z)) (sym (times.outs-Times m.exp)) (f.0, tt);
      kinds = ap level.kind_at (times.outs-Times m.exp);
      index = ap level.index_at (times.outs-Times m.exp);
    })
    counted_keeps (Count-F.Below i n) next h = λ m f. h (times.Below i m.exp) (record {
      natural = subst (λ z. AreNatural il (AreListedAs D S w) (level.count_at z)) (sym (times.outs-Below i m.exp)) (f.0, tt);
      kinds = ap level.kind_at (times.outs-Below i m.exp);
      index = ap level.index_at (times.outs-Below i m.exp);
    })

  -- an iteration of what was made of its body
  iteration_keeps : (w : Within) (c : Count) (x : IlExp) (t : Ty) (P Q : Ty → Type 0) (R : Made → Type 0) → ((o : Ty) → P o → Q (wrapped (kind_at (out-Count c) ∷ []) o)) → HasIn il vars relations S (inside w c) P x
      → ((y : IlExp) → HasIn il vars relations S w Q y → R (record { exp = y; ty = t; spliced = false })) → Kept il vars relations S R (table.iteration S w c x t)
  iteration_keeps w c x t P Q R goes h gives =
      counted_keeps w R (out-Count c) (λ k. give (exp.Iter k (iterated S w c (λ name. occurs name x)) x) t) (λ how made.
      gives (exp.Iter how (iterated S w c (λ name. occurs name x)) x)
      (Has-Iter il (AreListedAs D S w) (AreListedAs D S (inside w c)) how (iterated S w c (λ name. occurs name x)) x P Q
      (λ ls ok. AreListedAs-inside D S w c how (iterated S w c (λ name. occurs name x)) ls made.index ok) made.natural
      (λ o p. subst (λ z. Q (wrapped (z ∷ []) o)) (sym made.kinds) (goes o p)) h))

  -- ---- with the type of the body

  wrapped-of : (k : Kind) (t : Ty) → wrapped (k ∷ []) t ≡ of_kind k t
  wrapped-of kind.List t = refl
  wrapped-of kind.Opt t = refl

  pub inferred_iteration_keeps : (w : Within) (b : Exp) (c : Count) → Kept il vars relations S (IsInferred il vars relations S w) (inferred_iteration S w b c)
  inferred_iteration_keeps w b c = λ m f.
      iteration_keeps w c m.exp (iterated_type c m.ty) (Exactly m.ty) (Exactly (iterated_type c m.ty)) (IsInferred il vars relations S w)
      (λ o e. ap (wrapped (kind_at (out-Count c) ∷ [])) e ∙ wrapped-of (kind_at (out-Count c)) m.ty) f (λ y h. h)

  -- ---- at a type

  over_list : (y : Count-F Count Node Seg Exp) → goes_over_list y ≡ true → kind_at y ≡ kind.List
  over_list Count-F.Star h = refl
  over_list Count-F.Plus h = refl
  over_list Count-F.Quest h = absurd (cc)
  over_list (Count-F.Times n) h = refl
  over_list (Count-F.Below i n) h = refl

  over_option : (y : Count-F Count Node Seg Exp) → goes_over_list y ≡ false → kind_at y ≡ kind.Opt
  over_option Count-F.Star h = absurd (cc)
  over_option Count-F.Plus h = absurd (cc)
  over_option Count-F.Quest h = refl
  over_option (Count-F.Times n) h = absurd (cc)
  over_option (Count-F.Below i n) h = absurd (cc)

  module _ (total : (t : Ty) → (u : Ty) × Means (syntaxes il) t u) where
    pub iterated_keeps : (w : Within) (at : Span) (p : Manner) (e b : Exp) (c : Count) (t u : Ty) (y : Ty-F Ty) → Means (syntaxes il) t u → out-Ty u ≡ y
        → Kept il vars relations S (IsChecked il vars relations S w t) (table.iteration_row S w at p e b c t y)
    iterated_keeps w at p e b c t u (Ty-F.List x) means is =
        keeps_if il vars relations S (IsChecked il vars relations S w t) (goes_over_list (out-Count c)) _ _
        (λ over. λ m h. iteration_keeps w c m.exp t (Equals il x) (Equals il t) (IsChecked il vars relations S w t)
        (λ o s. subst (λ z. Same (syntaxes il) (wrapped (z ∷ []) o) t) (sym (over_list (out-Count c) over)) (Same-List (syntaxes il) o x t (subst (Means (syntaxes il) t) (is_list u x is) means) s))
        h.0 (λ y k. (k, refl)))
        (λ _. other_keeps il vars relations S total w at p e t u (Ty-F.List x) means is)
    iterated_keeps w at p e b c t u (Ty-F.Opt x) means is =
        keeps_if il vars relations S (IsChecked il vars relations S w t) (goes_over_list (out-Count c)) _ _
        (λ _. other_keeps il vars relations S total w at p e t u (Ty-F.Opt x) means is)
        (λ over. λ m h. iteration_keeps w c m.exp t (Equals il x) (Equals il t) (IsChecked il vars relations S w t)
        (λ o s. subst (λ z. Same (syntaxes il) (wrapped (z ∷ []) o) t) (sym (over_option (out-Count c) over)) (Same-Opt (syntaxes il) o x t (subst (Means (syntaxes il) t) (is_option u x is) means) s))
        h.0 (λ y k. (k, refl)))
    iterated_keeps w at p e b c t u y means is = other_keeps il vars relations S total w at p e t u y means is
