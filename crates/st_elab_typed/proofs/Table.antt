-- What each row of the table keeps, and so the law.
use Rattle.std.proofs.Common.{◌≡◌, refl, sym, ap, ◌∙◌, subst, ℕ, List, [], ◌∷◌, map, length, Bool, true, false}
use Rattle.std.specs.Prelude.{Option, Some, None, nat_eq, if◌then◌else◌}
use Rattle.std.specs.Option.{option_or}
use Rattle.std.specs.Map.{lookup}
use Rattle.std.proofs.lemmas.Bool.{eqb-true}
use Rattle.std.proofs.lemmas.List.Elements.{recursion_from_All}
use Rattle.st_num.specs.declared.span.Span.{Span}
use Rattle.st_num.specs.Names.{same_name}
use Rattle.st_el.specs.declared.expression.Exp.{Exp}
use Rattle.st_el.specs.declared.expression.Node.{Node}
use Rattle.st_el.specs.declared.expression.Count.{Count}
use Rattle.st_el.specs.declared.expression.Count.TheOpen.{Node-F}
use Rattle.st_el.specs.declared.expression.Seg.{Seg}
use Rattle.st_il.specs.declared.definition.Il.{Il}
use Rattle.st_il.specs.declared.definition.Listed.{Listed}
use Rattle.st_il.specs.declared.definition.RelationDef.{RelationDef}
use Rattle.st_il.specs.declared.expression.IlExp.{IlExp}
use Rattle.st_il.specs.declared.expression.IlExp.TheVariants as exp
use Rattle.st_il.specs.declared.ty.Ty.{Ty, out-Ty}
use Rattle.st_il.specs.declared.ty.Ty.TheOpen.{Ty-F}
use Rattle.st_type_table.specs.Breach.{IsSound}
use Rattle.st_type_table.specs.Meaning.{Means}
use Rattle.st_type_table.proofs.Measure.{Means-total}
use Rattle.st_notation.specs.Elements.{opened}
use Rattle.st_dims.specs.declared.within.Within.{Within}
use Rattle.st_il.specs.Names.{Name}
use Rattle.st_il.specs.Definitions.{syntaxes}
use Rattle.st_semantics.specs.Environments.{listed_as}
use Rattle.st_elab_table.specs.declared.decls.Decls.{Decls}
use Rattle.st_elab_table.specs.declared.decls.Scope.{Scope}
use Rattle.st_elab_table.specs.Operators.{operator_of}
use Rattle.st_elab_table.specs.Forms.{inferable, is_concatenation}
use Rattle.st_elab_table.specs.Inferred.{entry_of, variable_type, variable_row, inferred_at}
use Rattle.st_elab_table.specs.Iterations.{Variable}
use Rattle.st_elab_table.specs.Variables.{type_of_name}
use Rattle.st_elab_table.specs.Scopes.{listed}
use Rattle.st_elab_table.specs.Checked.{sequence_at, form_row, plain_row, tuple_at, checked_row}
use Rattle.st_elab_table.specs.Collections.{is_run}
use Rattle.st_elab_table.specs.Questions.{Manner, Question, check, infer, item, hole, Made, Gives, Step}
use Rattle.st_elab_table.specs.Steps.{give, each_asked, exps}
use Rattle.st_elab_table.specs.Elaboration.{row, Answered}
use Rattle.st_elab_table.proofs.Keeps.{Answered-keeps}
use Rattle.st_ilcheck.specs.Typings.{HasTyping}
use Rattle.st_ilcheck.specs.Variables.{occurrences, IsListed}
use Rattle.st_elab_typed.specs.Law.{IsDeclaredIn, AreListedAs, IsOfType, NamesAreKept, ListingKeepsTypes}
use Rattle.st_elab_typed.proofs.Claims.{decls_of, IsChecked, IsInferred, Claim, Kept}
use Rattle.st_elab_typed.specs.inner.IsPlaced.{IsPlaced}
use Rattle.st_elab_typed.proofs.Placing.{IsPlaced-listed}
use Rattle.st_elab_typed.proofs.Forms.{Has-Bool, Has-Number, Has-Text, Has-Var, Has-Not}
use Rattle.st_elab_typed.proofs.Keeping.{keeps_if, keeps_asks}
use Rattle.st_elab_typed.proofs.Operating.{binary_keeps, negation_keeps}
use Rattle.st_elab_typed.proofs.Walking.{length_keeps, position_keeps, slice_keeps, field_keeps, update_keeps, extension_keeps}
use Rattle.st_elab_typed.proofs.Listing.{fitted_keeps, other_keeps, eps_keeps, concatenation_keeps, run_keeps, item_keeps, hole_keeps}
use Rattle.st_elab_typed.proofs.Recording.{tuple_has, inferred_tuple_keeps, call_keeps, record_keeps, notation_keeps}
use Rattle.st_elab_typed.proofs.Iterating.{AreListedAs-inside, inferred_iteration_keeps, iterated_keeps}

module _ (il : Il) (vars : List (List ℕ × Ty)) (relations : List RelationDef) (S : Scope) (total : (t : Ty) → (u : Ty) × Means (syntaxes il) t u) where
  abbrev D : Decls
  D = decls_of il vars relations

  -- ---- inferable expressions

  module _ (w : Within) where
    abbrev Infers : Step → Type 0
    Infers s = Kept il vars relations S (IsInferred il vars relations S w) s

    abbrev Checks : Ty → Step → Type 0
    Checks t s = Kept il vars relations S (IsChecked il vars relations S w t) s

    variable_keeps : (at : Span) (name : List ℕ) → Infers (variable_row at name (variable_type D S w name))
    variable_keeps at name = by (variable_type D S w name) refl
      where
        by : (o : Option Ty) → variable_type D S w name ≡ o → Infers (variable_row at name o)
        by None is = tt
        by (Some t) is = Has-Var il (AreListedAs D S w) name t (λ ls ok l h. let same : Some t ≡ Some l.ty = sym is ∙ ok name l h in cc)

    inferred_keeps : (at : Span) (y : Node-F Count Node Seg Exp) → Infers (inferred_at D S w at y)
    inferred_keeps at (Node-F.Name name) = variable_keeps at name
    inferred_keeps at (Node-F.Bool truth) = Has-Bool il (AreListedAs D S w) truth
    inferred_keeps at (Node-F.Number n) = Has-Number il (AreListedAs D S w) n
    inferred_keeps at (Node-F.Text text) = Has-Text il (AreListedAs D S w) text
    inferred_keeps at (Node-F.Binary l sign r) = binary_keeps il vars relations S total w at sign l r (operator_of sign)
    inferred_keeps at (Node-F.Not e) = λ m h. Has-Not il (AreListedAs D S w) m.exp h.0
    inferred_keeps at (Node-F.Neg e) = negation_keeps il vars relations S total w e
    inferred_keeps at (Node-F.Arith e) = λ m h. h
    inferred_keeps at (Node-F.Paren e) = λ m h. h
    inferred_keeps at (Node-F.Tuple es) = inferred_tuple_keeps il vars relations S total w es
    inferred_keeps at (Node-F.Dot e field) = field_keeps il vars relations S w at e field
    inferred_keeps at (Node-F.Node::At e i) = position_keeps il vars relations S w e i
    inferred_keeps at (Node-F.Node::Slice e i n) = slice_keeps il vars relations S w e i n
    inferred_keeps at (Node-F.Update e path value) = update_keeps il vars relations S w at e path value
    inferred_keeps at (Node-F.Extend e path list) = extension_keeps il vars relations S w at e path list
    inferred_keeps at (Node-F.Len e) = length_keeps il vars relations S w e
    inferred_keeps at (Node-F.Call name es) = call_keeps il vars relations S total w at name es
    inferred_keeps at (Node-F.Iter b c) = inferred_iteration_keeps il vars relations S w b c
    inferred_keeps at y = tt

    -- ---- expressions at a type

    sequence_keeps : (at : Span) (p : Manner) (e : Exp) (es : List Exp) (t u : Ty) (y : Ty-F Ty) → Means (syntaxes il) t u → out-Ty u ≡ y → Checks t (sequence_at w at p e es t u y)
    sequence_keeps at p e es t u (Ty-F.List x) means is =
        keeps_if il vars relations S (IsChecked il vars relations S w t) (is_run es p.in_parentheses) _ _
        (λ _. run_keeps il vars relations S total w at es t u x means is) (λ _. other_keeps il vars relations S total w at p e t u (Ty-F.List x) means is)
    sequence_keeps at p e es t u y means is = notation_keeps il vars relations S total w at p e t u means

    form_keeps : (at : Span) (p : Manner) (e : Exp) (t u : Ty) (y : Node-F Count Node Seg Exp) → Means (syntaxes il) t u → Checks t (form_row D S w at p e t u y)
    form_keeps at p e t u Node-F.Eps means = eps_keeps il vars relations S total w at t u (out-Ty u) means refl
    form_keeps at p e t u (Node-F.Binary l sign r) means =
        keeps_if il vars relations S (IsChecked il vars relations S w t) (is_concatenation (operator_of sign)) _ _
        (λ _. concatenation_keeps il vars relations S total w at l r t) (λ _. other_keeps il vars relations S total w at p e t u (out-Ty u) means refl)
    form_keeps at p e t u (Node-F.Iter b c) means = iterated_keeps il vars relations S total w at p e b c t u (out-Ty u) means refl
    form_keeps at p e t u (Node-F.Seq es) means = sequence_keeps at p e es t u (out-Ty u) means refl
    form_keeps at p e t u (Node-F.Fields given) means = record_keeps il vars relations S total w at p e given t u means
    form_keeps at p e t u (Node-F.Atom name) means = notation_keeps il vars relations S total w at p e t u means
    form_keeps at p e t u (Node-F.Infix l sign r) means = notation_keeps il vars relations S total w at p e t u means
    form_keeps at p e t u (Node-F.Bracket opening b) means = notation_keeps il vars relations S total w at p e t u means
    form_keeps at p e t u y means = other_keeps il vars relations S total w at p e t u (out-Ty u) means refl

    plain_keeps : (at : Span) (p : Manner) (e : Exp) (t : Ty) → Checks t (plain_row D S w at p e t)
    plain_keeps at p e t =
        keeps_if il vars relations S (IsChecked il vars relations S w t) (inferable e) _ _
        (λ _. λ m h. fitted_keeps il vars relations S total w at t m h) (λ _. λ u means. form_keeps at p e t u (opened e) means)

    tuple_keeps : (at : Span) (p : Manner) (e : Exp) (es : List Exp) (t u : Ty) (y : Ty-F Ty) → Means (syntaxes il) t u → out-Ty u ≡ y → Checks t (tuple_at D S w at p e es t y)
    tuple_keeps at p e es t u (Ty-F.Tuple ts) means is =
        keeps_if il vars relations S (IsChecked il vars relations S w t) (nat_eq (length es) (length ts)) _ _
        (λ same. keeps_asks il vars relations S (IsChecked il vars relations S w t) (each_asked w es ts) (λ ms. give (exp.Tuple (exps ms)) t)
        (λ ms c. tuple_has il vars relations S total w es ts t u ms means is (eqb-true (length es) (length ts) same) c))
        (λ _. plain_keeps at p e t)
    tuple_keeps at p e es t u y means is = plain_keeps at p e t

    checked_keeps : (at : Span) (p : Manner) (e : Exp) (t : Ty) (y : Node-F Count Node Seg Exp) → Checks t (checked_row D S w at p e t y)
    checked_keeps at p e t (Node-F.Paren inner) = λ m h. h
    checked_keeps at p e t (Node-F.Tuple es) = λ u means. tuple_keeps at p e es t u (out-Ty u) means refl
    checked_keeps at p e t y = plain_keeps at p e t

  -- ---- all rows

  pub row_keeps : (q : Question) → Kept il vars relations S (Claim il vars relations S q) (row D S q)
  row_keeps (check w at p e t) = checked_keeps w at p e t (opened e)
  row_keeps (infer w at e) = keeps_if il vars relations S (IsInferred il vars relations S w) (inferable e) _ _ (λ _. inferred_keeps w at (opened e)) (λ _. tt)
  row_keeps (item w t x e) = item_keeps il vars relations S total w t x e
  row_keeps (hole w at passed filling t) = hole_keeps il vars relations S total w at passed filling t

  -- what is claimed holds of each answer
  pub Answered-claims : (q : Question) (m : Made) → Answered D S q (Gives m) → Claim il vars relations S q m
  Answered-claims q m h = Answered-keeps D S (Claim il vars relations S) row_keeps q (Gives m) h

-- ---- the law

-- the declarations are those of the internal language, and its variables and relations
pub declared_is : (il : Il) (D : Decls) → IsDeclaredIn il D → D ≡ decls_of il D.vars D.relations
declared_is il D h = λ i. record { types = h.types i; vars = D.vars; funs = h.funs i; relations = D.relations }

module _ (il : Il) (D : Decls) (S : Scope) (declared : IsDeclaredIn il D) (sound : IsSound D.types) where
  pub total : (t : Ty) → (u : Ty) × Means (syntaxes il) t u
  total = Means-total (syntaxes il) (subst IsSound declared.types sound)

  pub claimed : (q : Question) (m : Made) → Answered D S q (Gives m) → Claim il D.vars D.relations S q m
  claimed q m h = Answered-claims il D.vars D.relations S total q m (subst (λ z. Answered z S q (Gives m)) (declared_is il D declared) h)

  pub listed_so : (w : Within) (ls : List Listed) → AreListedAs D S w ls → AreListedAs (decls_of il D.vars D.relations) S w ls
  listed_so w ls h = subst (λ z. AreListedAs z S w ls) (declared_is il D declared) h

  is_placed : (ls : List Listed) (x : IlExp) → NamesAreKept ls x → IsPlaced ls x
  is_placed ls x k = IsPlaced-listed ls x k.iterations (recursion_from_All (IsListed ls) (occurrences x) k.listed)

  pub Answered-checked : (w : Within) (at : Span) (p : Manner) (e : Exp) (t : Ty) (m : Made) → Answered D S (check w at p e t) (Gives m)
      → (ls : List Listed) → AreListedAs D S w ls → NamesAreKept ls m.exp → IsOfType il ls m.exp t
  Answered-checked w at p e t m h ls ok k =
      let r = (claimed (check w at p e t) m h).0 ls (listed_so w ls ok) (is_placed ls m.exp k) in
      record { own = r.0; typing = r.1.0; same = r.1.1 }

  pub Answered-inferred : (w : Within) (at : Span) (e : Exp) (m : Made) → Answered D S (infer w at e) (Gives m)
      → (ls : List Listed) → AreListedAs D S w ls → NamesAreKept ls m.exp → HasTyping il ls m.exp (Some m.ty) []
  Answered-inferred w at e m h ls ok k =
      let r = claimed (infer w at e) m h ls (listed_so w ls ok) (is_placed ls m.exp k) in
      subst (λ z. HasTyping il ls m.exp (Some z) []) r.1.1 r.1.0

-- ---- the variables of a scope

some_or : {A : Type 0} (o p : Option A) (x : A) → o ≡ Some x → option_or o p ≡ Some x
some_or o p x is = ap (λ z. option_or z p) is

listed_type : (vs : List Variable) (x : Name) (l : Listed) → listed_as x (map listed vs) ≡ Some l → lookup (same_name x) (map entry_of vs) ≡ Some l.ty
listed_type [] x l h = absurd (cc)
listed_type (v ∷ vs) x l h = by (same_name x v.0) h (listed_type vs x l)
  where
    by : (b : Bool) → (if b then Some (listed v) else listed_as x (map listed vs)) ≡ Some l → (listed_as x (map listed vs) ≡ Some l → lookup (same_name x) (map entry_of vs) ≡ Some l.ty)
        → (if b then Some v.1 else lookup (same_name x) (map entry_of vs)) ≡ Some l.ty
    by true e next = let same : listed v ≡ l = cc in ap (λ (z : Listed). Some z.ty) same
    by false e next = next e

pub ListingKeepsTypes-holds : (D : Decls) (S : Scope) → ListingKeepsTypes D S
ListingKeepsTypes-holds D S = record {
  outside = λ x l h. some_or (lookup (same_name x) (map entry_of S.variables)) (type_of_name D x) l.ty (listed_type S.variables x l h);
  inside = λ w c how xs ls same h. AreListedAs-inside D S w c how xs ls same h;
}
