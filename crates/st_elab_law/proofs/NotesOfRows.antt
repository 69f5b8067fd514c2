-- Each row of the table gives the notes of its source, and so the law.
use Rattle.std.proofs.Common.{◌≡◌, refl, sym, ◌∙◌, subst, ℕ, List, length}
use Rattle.std.specs.Prelude.{Option, Some, None, nat_eq}
use Rattle.std.proofs.lemmas.Bool.{eqb-true}
use Rattle.st_num.specs.declared.span.Span.{Span}
use Rattle.st_el.specs.declared.expression.Exp.{Exp}
use Rattle.st_el.specs.declared.expression.Node.{Node}
use Rattle.st_el.specs.declared.expression.Count.{Count}
use Rattle.st_el.specs.declared.expression.Count.TheOpen.{Node-F}
use Rattle.st_el.specs.declared.expression.Seg.{Seg}
use Rattle.st_il.specs.declared.ty.Ty.{Ty, out-Ty}
use Rattle.st_il.specs.declared.ty.Ty.TheOpen.{Ty-F}
use Rattle.st_notation.specs.Elements.{opened}
use Rattle.st_dims.specs.declared.within.Within.{Within}
use Rattle.st_elab_table.specs.declared.decls.Decls.{Decls}
use Rattle.st_elab_table.specs.declared.decls.Scope.{Scope}
use Rattle.st_elab_table.specs.Operators.{operator_of}
use Rattle.st_elab_table.specs.Forms.{inferable, is_concatenation}
use Rattle.st_elab_table.specs.Iterations.{iterated_type}
use Rattle.st_elab_table.specs.Inferred.{fun_named, variable_type, variable_row, inferred_at}
use Rattle.st_elab_table.specs.Checked.{sequence_at, form_row, plain_row, tuple_at, checked_row}
use Rattle.st_elab_table.specs.Collections.{is_run, sequence}
use Rattle.st_elab_table.specs.Questions.{Manner, Question, check, infer, item, hole, Made, Gives}
use Rattle.st_elab_table.specs.Elaboration.{row, Answered}
use Rattle.st_elab_table.proofs.Keeps.{Keeps, Answered-keeps}
use Rattle.st_elab_law.specs.Notes.{written, asked_written}
use Rattle.st_elab_law.specs.Noted.{noted}
use Rattle.st_elab_law.proofs.Keeping.{keeps_if}
use Rattle.st_elab_law.proofs.NotesOfForms.{noted-Bool, noted-Number, noted-Text, noted-Var}
use Rattle.st_elab_law.proofs.NotesOfSources.{written-Name, written-Bool, written-Number, written-Text, written-Binary, written-Not, written-Neg, written-Arith, written-Paren, written-Tuple, written-Dot, written-At, written-Slice, written-Update, written-Extend, written-Len, written-Call, written-Iter, written-Seq, written-Fields}
use Rattle.st_elab_law.proofs.NotesOfOperators.{Noted, Notes_as, Kept, binary_occurs, not_occurs, negation_occurs, length_occurs, position_occurs, slice_occurs, field_occurs, update_occurs, extension_occurs}
use Rattle.st_elab_law.proofs.NotesOfParts.{fitted_occurs, other_occurs, eps_occurs, concatenation_occurs, iteration_occurs, iterated_occurs, sequence_occurs, item_occurs, hole_occurs, tuple_occurs, inferred_tuple_occurs, call_occurs, notation_occurs, record_occurs}

module _ (D : Decls) (S : Scope) where
  -- ---- inferable expressions

  variable_occurs : (at : Span) (e : Exp) (name : List ℕ) (o : Option Ty) → opened e ≡ Node-F.Name name → Kept D (written e) (variable_row at name o)
  variable_occurs at e name None is = tt
  variable_occurs at e name (Some t) is = noted-Var name ∙ sym (written-Name e name is)

  inferred_occurs : (w : Within) (at : Span) (e : Exp) (y : Node-F Count Node Seg Exp) → opened e ≡ y → Kept D (written e) (inferred_at D S w at y)
  inferred_occurs w at e (Node-F.Name name) is = variable_occurs at e name (variable_type D S w name) is
  inferred_occurs w at e (Node-F.Bool truth) is = noted-Bool truth ∙ sym (written-Bool e truth is)
  inferred_occurs w at e (Node-F.Number n) is = noted-Number n ∙ sym (written-Number e n is)
  inferred_occurs w at e (Node-F.Text text) is = noted-Text text ∙ sym (written-Text e text is)
  inferred_occurs w at e (Node-F.Binary l sign r) is = binary_occurs D (written e) l r (written-Binary e l sign r is) w at sign (operator_of sign)
  inferred_occurs w at e (Node-F.Not b) is = λ m f. not_occurs D (written e) w b (written-Not e b is) m f
  inferred_occurs w at e (Node-F.Neg b) is = negation_occurs D (written e) w b (written-Neg e b is)
  inferred_occurs w at e (Node-F.Arith b) is = λ m f. f ∙ sym (written-Arith e b is)
  inferred_occurs w at e (Node-F.Paren b) is = λ m f. f ∙ sym (written-Paren e b is)
  inferred_occurs w at e (Node-F.Tuple es) is = inferred_tuple_occurs D (written e) es (written-Tuple e es is) w
  inferred_occurs w at e (Node-F.Dot b field) is = field_occurs D (written e) w b at field (written-Dot e b field is)
  inferred_occurs w at e (Node-F.Node::At b i) is = position_occurs D (written e) w b i (written-At e b i is)
  inferred_occurs w at e (Node-F.Node::Slice b i n) is = slice_occurs D (written e) w b i n (written-Slice e b i n is)
  inferred_occurs w at e (Node-F.Update b path value) is = update_occurs D (written e) w b at path value (written-Update e b path value is)
  inferred_occurs w at e (Node-F.Extend b path list) is = extension_occurs D (written e) w b at path list (written-Extend e b path list is)
  inferred_occurs w at e (Node-F.Len b) is = length_occurs D (written e) w b (written-Len e b is)
  inferred_occurs w at e (Node-F.Call name es) is = call_occurs D (written e) es (written-Call e name es is) w at (fun_named D.funs name)
  inferred_occurs w at e (Node-F.Iter b c) is = λ m f. iteration_occurs D S e b c (written-Iter e b c is) w m.exp (iterated_type c m.ty) f
  inferred_occurs w at e y is = tt

  -- ---- expressions at a type

  sequence_at_occurs : (w : Within) (at : Span) (p : Manner) (e : Exp) (es : List Exp) (t u : Ty) (y : Ty-F Ty) → opened e ≡ Node-F.Seq es → Kept D (written e) (sequence_at w at p e es t u y)
  sequence_at_occurs w at p e es t u (Ty-F.List x) is =
      keeps_if D Noted (Notes_as (written e)) (is_run es p.in_parentheses) _ _
      (λ _. subst (λ z. Kept D z (sequence w at es t x)) (sym (written-Seq e es is)) (sequence_occurs D w at es t x)) (λ _. other_occurs D e w at p t (Ty-F.List x))
  sequence_at_occurs w at p e es t u y is = notation_occurs D w at p e t u

  form_occurs : (w : Within) (at : Span) (p : Manner) (e : Exp) (t u : Ty) (y : Node-F Count Node Seg Exp) → opened e ≡ y → Kept D (written e) (form_row D S w at p e t u y)
  form_occurs w at p e t u Node-F.Eps is = eps_occurs D e at t (out-Ty u) is
  form_occurs w at p e t u (Node-F.Binary l sign r) is =
      keeps_if D Noted (Notes_as (written e)) (is_concatenation (operator_of sign)) _ _
      (λ _. concatenation_occurs D e w at l r t (written-Binary e l sign r is)) (λ _. other_occurs D e w at p t (out-Ty u))
  form_occurs w at p e t u (Node-F.Iter b c) is = iterated_occurs D S e b c (written-Iter e b c is) w at p t (out-Ty u)
  form_occurs w at p e t u (Node-F.Seq es) is = sequence_at_occurs w at p e es t u (out-Ty u) is
  form_occurs w at p e t u (Node-F.Fields given) is = record_occurs D (written e) given (written-Fields e given is) w at p e t u refl
  form_occurs w at p e t u (Node-F.Atom name) is = notation_occurs D w at p e t u
  form_occurs w at p e t u (Node-F.Infix l sign r) is = notation_occurs D w at p e t u
  form_occurs w at p e t u (Node-F.Bracket opening b) is = notation_occurs D w at p e t u
  form_occurs w at p e t u y is = other_occurs D e w at p t (out-Ty u)

  plain_occurs : (w : Within) (at : Span) (p : Manner) (e : Exp) (t : Ty) → Kept D (written e) (plain_row D S w at p e t)
  plain_occurs w at p e t =
      keeps_if D Noted (Notes_as (written e)) (inferable e) _ _ (λ _. λ m h. fitted_occurs D e at t m h) (λ _. λ u _. form_occurs w at p e t u (opened e) refl)

  tuple_at_occurs : (w : Within) (at : Span) (p : Manner) (e : Exp) (es : List Exp) (t : Ty) (y : Ty-F Ty) → opened e ≡ Node-F.Tuple es → Kept D (written e) (tuple_at D S w at p e es t y)
  tuple_at_occurs w at p e es t (Ty-F.Tuple ts) is =
      keeps_if D Noted (Notes_as (written e)) (nat_eq (length es) (length ts)) _ _
      (λ same. tuple_occurs D (written e) es (written-Tuple e es is) w ts t (eqb-true (length es) (length ts) same)) (λ _. plain_occurs w at p e t)
  tuple_at_occurs w at p e es t y is = plain_occurs w at p e t

  checked_occurs : (w : Within) (at : Span) (p : Manner) (e : Exp) (t : Ty) (y : Node-F Count Node Seg Exp) → opened e ≡ y → Kept D (written e) (checked_row D S w at p e t y)
  checked_occurs w at p e t (Node-F.Paren b) is = λ m f. f ∙ sym (written-Paren e b is)
  checked_occurs w at p e t (Node-F.Tuple es) is = λ u _. tuple_at_occurs w at p e es t (out-Ty u) is
  checked_occurs w at p e t y is = plain_occurs w at p e t

  -- ---- all rows

  pub row_occurs : (q : Question) → Keeps D Noted (Noted q) (row D S q)
  row_occurs (check w at p e t) = checked_occurs w at p e t (opened e) refl
  row_occurs (infer w at e) = keeps_if D Noted (Notes_as (written e)) (inferable e) _ _ (λ _. inferred_occurs w at e (opened e) refl) (λ _. tt)
  row_occurs (item w t x e) = item_occurs D w t x e
  row_occurs (hole w at passed filling t) = hole_occurs D w at passed filling t

  -- what answers a question has the notes of its source
  pub Answered-notes : (q : Question) (m : Made) → Answered D S q (Gives m) → noted m.exp ≡ asked_written q
  Answered-notes q m h = Answered-keeps D S Noted row_occurs q (Gives m) h
