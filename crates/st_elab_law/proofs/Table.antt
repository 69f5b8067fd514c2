-- What each row of the table keeps, and so the law.
use Rattle.std.proofs.Common.{◌≡◌, refl, sym, ◌∙◌, ℕ, List, length, true, inl}
use Rattle.std.specs.Prelude.{Option, Some, None, nat_eq}
use Rattle.std.proofs.lemmas.Bool.{eqb-true}
use Rattle.st_num.specs.declared.span.Span.{Span}
use Rattle.st_el.specs.declared.expression.Exp.{Exp}
use Rattle.st_el.specs.declared.expression.Node.{Node, roll-Node}
use Rattle.st_el.specs.declared.expression.Node.TheVariants as node
use Rattle.st_el.specs.declared.expression.Count.{Count}
use Rattle.st_el.specs.declared.expression.Count.TheOpen.{Node-F}
use Rattle.st_el.specs.declared.expression.Seg.{Seg}
use Rattle.st_el.specs.Plain.{plain_exp}
use Rattle.st_il.specs.declared.definition.IlDef.{IlDef}
use Rattle.st_il.specs.declared.ty.Ty.{Ty, out-Ty}
use Rattle.st_il.specs.declared.ty.Ty.TheOpen.{Ty-F}
use Rattle.st_il.specs.declared.expression.IlExp.{IlExp}
use Rattle.st_il.specs.declared.expression.IlExp.TheVariants as il
use Rattle.st_type_table.specs.Meaning.{Means}
use Rattle.st_notation.specs.Elements.{opened}
use Rattle.st_erase.specs.Places.{exp, whole}
use Rattle.st_erase.specs.Erasure.{erased}
use Rattle.st_elab_table.specs.declared.decls.Decls.{Decls}
use Rattle.st_elab_table.specs.declared.decls.Scope.{Scope}
use Rattle.st_dims.specs.declared.within.Within.{Within}
use Rattle.st_elab_table.specs.declared.operator.Operator.{Operator}
use Rattle.st_elab_table.specs.declared.operator.Operator.TheVariants as operator
use Rattle.st_elab_table.specs.Operators.{operator_of}
use Rattle.st_elab_table.specs.Forms.{inferable, is_concatenation}
use Rattle.st_elab_table.specs.Iterations.{iterated_type}
use Rattle.st_elab_table.specs.Inferred.{variable_type, variable_row, inferred_at}
use Rattle.st_elab_table.specs.Checked.{sequence_at, form_row, plain_row, tuple_at, checked_row}
use Rattle.st_elab_table.specs.Collections.{is_run}
use Rattle.st_elab_table.specs.Questions.{Manner, Question, check, infer, item, hole, Made, Step, Gives}
use Rattle.st_elab_table.specs.Steps.{made, enclosed, give, asked, found, each_asked, exps}
use Rattle.st_elab_table.specs.Elaboration.{row, Answered, Leads, around, Elab, Infer}
use Rattle.st_elab_table.proofs.Keeps.{Keeps, Answered-keeps, Leads-keeps}
use Rattle.st_elab_law.proofs.Claims.{IsWritten, IsAlone, Claim}
use Rattle.st_elab_law.specs.Agreement.{IsTableOf}
use Rattle.st_elab_law.proofs.Plainness.{plain-Paren, plain-Arith}
use Rattle.st_elab_law.proofs.Erasings.{erased-Bool, erased-Number, erased-Text, erased-Var, erased-Not}
use Rattle.st_elab_law.proofs.Writing.{whole_source, leaf_written, form_written}
use Rattle.st_elab_law.proofs.Keeping.{keeps_if, keeps_asks, Writes, Kept}
use Rattle.st_elab_law.proofs.Operating.{binary_keeps, negation_keeps}
use Rattle.st_elab_law.proofs.Walking.{length_keeps, position_keeps, slice_keeps, field_keeps, update_keeps, extension_keeps}
use Rattle.st_elab_law.proofs.Listing.{fitted_keeps, other_keeps, eps_keeps, concatenation_keeps, iteration_keeps, iterated_keeps, run_keeps, item_keeps, hole_keeps}
use Rattle.st_elab_law.proofs.Recording.{each_written, tuple_written, inferred_tuple_keeps, call_keeps, record_keeps}
use Rattle.st_elab_law.proofs.Casing.{notation_keeps}

joins : (o : Operator) → is_concatenation o ≡ true → o ≡ operator.Concatenation
joins operator.Concatenation h = refl
joins o h = absurd (cc)

module _ (defs : List IlDef) (D : Decls) (S : Scope) where
  -- ---- parentheses

  within_written : (Alone Other : Type 0) (x : IlExp) (e inner : Exp) → plain_exp e ≡ plain_exp inner → (Alone → Other) → IsWritten Other (erased defs x) inner → IsWritten Alone (erased defs x) e
  within_written Alone Other x e inner is goes h = record { same = h.same ∙ sym is; present = h.present; single = λ alone. h.single (goes alone) }

  -- ---- inferable expressions

  variable_keeps : (at : Span) (e : Exp) (name : List ℕ) (o : Option Ty) → opened e ≡ Node-F.Name name → Kept defs D (Unit {0}) e (variable_row at name o)
  variable_keeps at e name None is = tt
  variable_keeps at e name (Some t) is = leaf_written (Unit {0}) (erased defs (il.Var name)) e (node.Name name) _ (erased-Var defs name) (node.outs-Name name) is

  inferred_keeps : (w : Within) (at : Span) (e : Exp) (y : Node-F Count Node Seg Exp) → opened e ≡ y → Kept defs D (Unit {0}) e (inferred_at D S w at y)
  inferred_keeps w at e (Node-F.Name name) is = variable_keeps at e name (variable_type D S w name) is
  inferred_keeps w at e (Node-F.Bool truth) is = leaf_written (Unit {0}) (erased defs (il.Bool truth)) e (node.Bool truth) _ (erased-Bool defs truth) (node.outs-Bool truth) is
  inferred_keeps w at e (Node-F.Number n) is = leaf_written (Unit {0}) (erased defs (il.Number n)) e (node.Number n) _ (erased-Number defs n) (node.outs-Number n) is
  inferred_keeps w at e (Node-F.Text text) is = leaf_written (Unit {0}) (erased defs (il.Text text)) e (node.Text text) _ (erased-Text defs text) (node.outs-Text text) is
  inferred_keeps w at e (Node-F.Binary l sign r) is = binary_keeps defs D e l r sign is w at (operator_of sign) refl
  inferred_keeps w at e (Node-F.Not inner) is = λ m h.
      let part = whole_source (erased defs m.exp) inner h.same in
      form_written (Unit {0}) (erased defs (il.Not m.exp)) e (node.Not (whole (erased defs m.exp))) _ _ (erased-Not defs m.exp) (node.outs-Not (whole (erased defs m.exp))) is (λ i. exp (roll-Node (Node-F.Not (part i))))
  inferred_keeps w at e (Node-F.Neg inner) is = negation_keeps defs D w e inner is
  inferred_keeps w at e (Node-F.Arith inner) is = λ m h. within_written (Unit {0}) (Unit {0}) m.exp e inner (plain-Arith e inner is) (λ x. x) h
  inferred_keeps w at e (Node-F.Paren inner) is = λ m h. within_written (Unit {0}) (Unit {0}) m.exp e inner (plain-Paren e inner is) (λ x. x) h
  inferred_keeps w at e (Node-F.Tuple es) is = inferred_tuple_keeps defs D w e es is
  inferred_keeps w at e (Node-F.Dot inner field) is = field_keeps defs D w at e inner field is
  inferred_keeps w at e (Node-F.Node::At inner i) is = position_keeps defs D w e inner i is
  inferred_keeps w at e (Node-F.Node::Slice inner i n) is = slice_keeps defs D w e inner i n is
  inferred_keeps w at e (Node-F.Update inner path value) is = update_keeps defs D w at e inner path value is
  inferred_keeps w at e (Node-F.Extend inner path list) is = extension_keeps defs D w at e inner path list is
  inferred_keeps w at e (Node-F.Len inner) is = length_keeps defs D w e inner is
  inferred_keeps w at e (Node-F.Call name es) is = call_keeps defs D w at e name es is
  inferred_keeps w at e (Node-F.Iter b c) is = λ m h. iteration_keeps defs D (Unit {0}) S w e b c m.exp (iterated_type c m.ty) is h.same
  inferred_keeps w at e y is = tt

  -- ---- expressions at a type

  module _ (fields : IsTableOf defs D) where
    sequence_keeps : (w : Within) (at : Span) (p : Manner) (e : Exp) (es : List Exp) (t u : Ty) (y : Ty-F Ty) → opened e ≡ Node-F.Seq es → Means D.types t u → out-Ty u ≡ y
        → Kept defs D (IsAlone D p t) e (sequence_at w at p e es t u y)
    sequence_keeps w at p e es t u (Ty-F.List x) is means list =
        keeps_if D (Claim defs D) (Writes defs (IsAlone D p t) e) (is_run es p.in_parentheses) _ _ (λ long. run_keeps defs D w at p e es t u x is means list long) (λ _. other_keeps defs D (IsAlone D p t) e w at p t (Ty-F.List x))
    sequence_keeps w at p e es t u y is means list = notation_keeps defs D (IsAlone D p t) w at p e t u

    form_keeps : (w : Within) (at : Span) (p : Manner) (e : Exp) (t u : Ty) (y : Node-F Count Node Seg Exp) → opened e ≡ y → Means D.types t u → Kept defs D (IsAlone D p t) e (form_row D S w at p e t u y)
    form_keeps w at p e t u Node-F.Eps is means = eps_keeps defs D (IsAlone D p t) e at t (out-Ty u) is
    form_keeps w at p e t u (Node-F.Binary l sign r) is means =
        keeps_if D (Claim defs D) (Writes defs (IsAlone D p t) e) (is_concatenation (operator_of sign)) _ _
        (λ c. concatenation_keeps defs D (IsAlone D p t) e w at l r sign t is (joins (operator_of sign) c)) (λ _. other_keeps defs D (IsAlone D p t) e w at p t (out-Ty u))
    form_keeps w at p e t u (Node-F.Iter b c) is means = iterated_keeps defs D (IsAlone D p t) S w at p e b c t (out-Ty u) is
    form_keeps w at p e t u (Node-F.Seq es) is means = sequence_keeps w at p e es t u (out-Ty u) is means refl
    form_keeps w at p e t u (Node-F.Fields given) is means = record_keeps defs D fields (IsAlone D p t) w at p e given t u is means
    form_keeps w at p e t u (Node-F.Atom name) is means = notation_keeps defs D (IsAlone D p t) w at p e t u
    form_keeps w at p e t u (Node-F.Infix l sign r) is means = notation_keeps defs D (IsAlone D p t) w at p e t u
    form_keeps w at p e t u (Node-F.Bracket opening b) is means = notation_keeps defs D (IsAlone D p t) w at p e t u
    form_keeps w at p e t u y is means = other_keeps defs D (IsAlone D p t) e w at p t (out-Ty u)

    plain_keeps : (w : Within) (at : Span) (p : Manner) (e : Exp) (t : Ty) → Kept defs D (IsAlone D p t) e (plain_row D S w at p e t)
    plain_keeps w at p e t =
        keeps_if D (Claim defs D) (Writes defs (IsAlone D p t) e) (inferable e) _ _ (λ _. λ m h. fitted_keeps defs D (IsAlone D p t) e at t m h) (λ _. λ u means. form_keeps w at p e t u (opened e) refl means)

    tuple_keeps : (w : Within) (at : Span) (p : Manner) (e : Exp) (es : List Exp) (t : Ty) (y : Ty-F Ty) → opened e ≡ Node-F.Tuple es → Kept defs D (IsAlone D p t) e (tuple_at D S w at p e es t y)
    tuple_keeps w at p e es t (Ty-F.Tuple ts) is =
        keeps_if D (Claim defs D) (Writes defs (IsAlone D p t) e) (nat_eq (length es) (length ts)) _ _
        (λ same. keeps_asks D (Claim defs D) (Writes defs (IsAlone D p t) e) (each_asked w es ts) (λ ms. give (il.Tuple (exps ms)) t)
        (λ ms c. tuple_written defs D (IsAlone D p t) e es ms is (each_written defs D w es ts ms (eqb-true (length es) (length ts) same) c)))
        (λ _. plain_keeps w at p e t)
    tuple_keeps w at p e es t y is = plain_keeps w at p e t

    checked_keeps : (w : Within) (at : Span) (p : Manner) (e : Exp) (t : Ty) (y : Node-F Count Node Seg Exp) → opened e ≡ y → Kept defs D (IsAlone D p t) e (checked_row D S w at p e t y)
    checked_keeps w at p e t (Node-F.Paren inner) is = λ m h. within_written (IsAlone D p t) (IsAlone D (enclosed p) t) m.exp e inner (plain-Paren e inner is) (λ _. inl refl) h
    checked_keeps w at p e t (Node-F.Tuple es) is = λ u _. tuple_keeps w at p e es t (out-Ty u) is
    checked_keeps w at p e t y is = plain_keeps w at p e t

    -- ---- all rows

    row_keeps : (q : Question) → Keeps D (Claim defs D) (Claim defs D q) (row D S q)
    row_keeps (check w at p e t) = checked_keeps w at p e t (opened e) refl
    row_keeps (infer w at e) = keeps_if D (Claim defs D) (Writes defs (Unit {0}) e) (inferable e) _ _ (λ _. inferred_keeps w at e (opened e) refl) (λ _. tt)
    row_keeps (item w t x e) = item_keeps defs D w t x e
    row_keeps (hole w at passed filling t) = hole_keeps defs D w at passed filling t

    -- what steps keep holds of what they give
    pub Leads-claims : (Q : Made → Type 0) (s : Step) (m : Made) → Leads D S s (Gives m) → Keeps D (Claim defs D) Q s → Q m
    Leads-claims Q s m h kept = Leads-keeps D S (Claim defs D) row_keeps Q s (Gives m) h kept

    -- what is claimed holds of each answer
    pub Answered-claims : (q : Question) (m : Made) → Answered D S q (Gives m) → Claim defs D q m
    Answered-claims q m h = Answered-keeps D S (Claim defs D) row_keeps q (Gives m) h

    -- what is elaborated at a type is erased to the expression
    pub Elab-erases : (e : Exp) (t : Ty) (x : IlExp) → Elab D S e t x → plain_exp (whole (erased defs x)) ≡ plain_exp e
    Elab-erases e t x h = whole_source (erased defs x) e (Answered-claims (asked (around S) e t) (made x t) h).same

    -- so is what is inferred
    pub Infer-erases : (e : Exp) (x : IlExp) (t : Ty) → Infer D S e x t → plain_exp (whole (erased defs x)) ≡ plain_exp e
    Infer-erases e x t h = whole_source (erased defs x) e (Answered-claims (found (around S) e) (made x t) h).same
