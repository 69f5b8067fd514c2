-- Expressions that are asked at a type, by their forms.
use Rattle.std.proofs.Common.{◌≡◌, refl, sym, ap, ◌∙◌, subst, ℕ, List, length, true, false, nat_eq}
use Rattle.std.specs.Prelude.{Result}
use Rattle.st_num.specs.declared.span.Span.{Span}
use Rattle.st_num.specs.declared.mark.Mark.{Mark}
use Rattle.st_el.specs.declared.expression.Exp.{Exp}
use Rattle.st_el.specs.declared.expression.Node.{Node, out-Node, roll-Node, roll-out-Node}
use Rattle.st_el.specs.declared.expression.Node.TheVariants as node
use Rattle.st_el.specs.declared.expression.Count.{Count}
use Rattle.st_el.specs.declared.expression.Count.TheOpen.{Node-F}
use Rattle.st_el.specs.declared.expression.Seg.{Seg}
use Rattle.st_il.specs.declared.ty.Ty.{Ty, out-Ty, roll-Ty, roll-out-Ty}
use Rattle.st_il.specs.declared.ty.Ty.TheOpen.{Ty-F}
use Rattle.st_il.specs.declared.ty.Ty.TheVariants as ty
use Rattle.st_il.specs.declared.expression.IlExp.TheVariants as il
use Rattle.st_elab_table.specs.declared.decls.Decls.{Decls}
use Rattle.st_elab_table.specs.declared.decls.Scope.{Scope}
use Rattle.st_dims.specs.declared.within.Within.{Within}
use Rattle.st_num.specs.declared.fault.Fault.{Fault as ExpFault}
use Rattle.st_elab_table.specs.declared.operator.Operator.{Operator}
use Rattle.st_elab_table.specs.declared.operator.Operator.TheVariants as operator
use Rattle.st_elab_table.specs.Forms.{is_concatenation}
use Rattle.st_elab_table.specs.Operators.{operator_of}
use Rattle.st_elab_table.specs.Questions.{Manner, Answer, asks}
use Rattle.st_elab_table.specs.Steps.{give, each_asked, exps}
use Rattle.st_elab_table.specs.Collections.{other_row, concatenation_row, is_run, sequence}
use Rattle.st_elab_table.specs.Records.{notation_row}
use Rattle.st_elab_table.specs.Checked.{sequence_at, form_row, plain_row, tuple_at, checked_row}
use Rattle.st_elab_table.specs.Elaboration.{Leads}
use Rattle.st_elab_rows.specs.declared.asking.Found.{Found}
use Rattle.st_elab_rows.specs.declared.asking.Part.{Part}
use Rattle.st_elab_rows.specs.declared.asking.Context.{Context}
use Rattle.st_elab_rows.specs.Asking.{manner, LeadsTo}
use Rattle.st_elab_rows.proofs.Builds.{leads_then, leads_else}

no_concatenation : (o : Operator) → (o ≡ operator.Concatenation → ⊥) → is_concatenation o ≡ false
no_concatenation operator.Concatenation h = absurd (h refl)
no_concatenation o h = refl

module _ (D : Decls) (S : Scope) where
  -- ---- sequences

  pub run_at_list : (w : Within) (at : Span) (p : Manner) (e : Exp) (es : List Exp) (t u x : Ty) (a : Answer) → u ≡ ty.List x → is_run es p.in_parentheses ≡ true
      → Leads D S (sequence w at es t x) a → Leads D S (sequence_at w at p e es t u (out-Ty u)) a
  run_at_list w at p e es t u x a is run h =
      subst (λ z. Leads D S (sequence_at w at p e es t u z) a) (sym (ap out-Ty is ∙ ty.outs-List x)) (leads_then D S _ _ _ a run h)

  pub element_at_list : (w : Within) (at : Span) (p : Manner) (e : Exp) (es : List Exp) (t u x : Ty) (a : Answer) → u ≡ ty.List x → is_run es p.in_parentheses ≡ false
      → Leads D S (other_row w at p e t (out-Ty u)) a → Leads D S (sequence_at w at p e es t u (out-Ty u)) a
  element_at_list w at p e es t u x a is run h =
      let o : out-Ty u ≡ Ty-F.List x = ap out-Ty is ∙ ty.outs-List x in
      subst (λ z. Leads D S (sequence_at w at p e es t u z) a) (sym o) (leads_else D S _ _ _ a run (subst (λ z. Leads D S (other_row w at p e t z) a) o h))

  pub notation_at : (w : Within) (at : Span) (p : Manner) (e : Exp) (es : List Exp) (t u : Ty) (a : Answer) → ((x : Ty) → u ≡ ty.List x → ⊥)
      → Leads D S (notation_row w at p e t u) a → Leads D S (sequence_at w at p e es t u (out-Ty u)) a
  notation_at w at p e es t u a list h = go (out-Ty u) refl
    where
      go : (y : Ty-F Ty) → out-Ty u ≡ y → Leads D S (sequence_at w at p e es t u y) a
      go (Ty-F.List x) o = absurd (list x (sym (roll-out-Ty u) ∙ (ap roll-Ty o ∙ ty.rolls-List x)))
      go y o = h

  -- ---- tuples

  pub tuple_counted : (w : Within) (at : Span) (p : Manner) (e : Exp) (es : List Exp) (t u : Ty) (ts : List Ty) (a : Answer) → u ≡ ty.Tuple ts → nat_eq (length es) (length ts) ≡ true
      → Leads D S (asks (each_asked w es ts) (λ ms. give (il.Tuple (exps ms)) t)) a → Leads D S (tuple_at D S w at p e es t (out-Ty u)) a
  tuple_counted w at p e es t u ts a is same h =
      subst (λ z. Leads D S (tuple_at D S w at p e es t z) a) (sym (ap out-Ty is ∙ ty.outs-Tuple ts)) (leads_then D S _ _ _ a same h)

  -- ---- forms

  -- two sides of `++`
  pub form_concatenation : (w : Within) (at : Span) (p : Manner) (e l r : Exp) (sign : Mark) (t u : Ty) (n : Node) (a : Answer) → n ≡ node.Binary l sign r
      → operator_of sign ≡ operator.Concatenation → Leads D S (concatenation_row w at l r t) a → Leads D S (form_row D S w at p e t u (out-Node n)) a
  form_concatenation w at p e l r sign t u n a is joins h =
      subst (λ z. Leads D S (form_row D S w at p e t u z) a) (sym (ap out-Node is ∙ node.outs-Binary l sign r))
      (leads_then D S _ _ _ a (ap is_concatenation joins) h)

  -- two operands of another sign
  pub form_binary : (w : Within) (at : Span) (p : Manner) (e l r : Exp) (sign : Mark) (t u : Ty) (n : Node) (a : Answer) → n ≡ node.Binary l sign r
      → (operator_of sign ≡ operator.Concatenation → ⊥) → Leads D S (other_row w at p e t (out-Ty u)) a → Leads D S (form_row D S w at p e t u (out-Node n)) a
  form_binary w at p e l r sign t u n a is other h =
      subst (λ z. Leads D S (form_row D S w at p e t u z) a) (sym (ap out-Node is ∙ node.outs-Binary l sign r))
      (leads_else D S _ _ _ a (no_concatenation (operator_of sign) other) h)

  -- an expression of another form is one element
  pub form_other : (w : Within) (at : Span) (p : Manner) (e : Exp) (t u : Ty) (n : Node) (a : Answer)
      → (n ≡ node.Eps → ⊥) → ((l : Exp) (sign : Mark) (r : Exp) → n ≡ node.Binary l sign r → ⊥) → ((b : Exp) (c : Count) → n ≡ node.Iter b c → ⊥)
      → ((es : List Exp) → n ≡ node.Seq es → ⊥) → ((fields : List (List ℕ × Exp)) → n ≡ node.Fields fields → ⊥) → ((name : List ℕ) → n ≡ node.Atom name → ⊥)
      → ((l : Exp) (sign : Mark) (r : Exp) → n ≡ node.Infix l sign r → ⊥) → ((opening : Mark) (b : Exp) → n ≡ node.Bracket opening b → ⊥)
      → Leads D S (other_row w at p e t (out-Ty u)) a → Leads D S (form_row D S w at p e t u (out-Node n)) a
  form_other w at p e t u n a eps binary iter seq fields atom signed bracket h = go (out-Node n) refl
    where
      back : (y : Node-F Count Node Seg Exp) → out-Node n ≡ y → n ≡ roll-Node y
      back y o = sym (roll-out-Node n) ∙ ap roll-Node o

      go : (y : Node-F Count Node Seg Exp) → out-Node n ≡ y → Leads D S (form_row D S w at p e t u y) a
      go Node-F.Eps o = absurd (eps (back _ o ∙ node.rolls-Eps))
      go (Node-F.Binary l sign r) o = absurd (binary l sign r (back _ o ∙ node.rolls-Binary l sign r))
      go (Node-F.Iter b c) o = absurd (iter b c (back _ o ∙ node.rolls-Iter b c))
      go (Node-F.Seq es) o = absurd (seq es (back _ o ∙ node.rolls-Seq es))
      go (Node-F.Fields xs) o = absurd (fields xs (back _ o ∙ node.rolls-Fields xs))
      go (Node-F.Atom name) o = absurd (atom name (back _ o ∙ node.rolls-Atom name))
      go (Node-F.Infix l sign r) o = absurd (signed l sign r (back _ o ∙ node.rolls-Infix l sign r))
      go (Node-F.Bracket opening b) o = absurd (bracket opening b (back _ o ∙ node.rolls-Bracket opening b))
      go y o = h

  -- neither parentheses nor a tuple
  pub checked_plain : (w : Within) (at : Span) (p : Manner) (e : Exp) (t : Ty) (n : Node) (a : Answer)
      → ((inner : Exp) → n ≡ node.Paren inner → ⊥) → ((es : List Exp) → n ≡ node.Tuple es → ⊥)
      → Leads D S (plain_row D S w at p e t) a → Leads D S (checked_row D S w at p e t (out-Node n)) a
  checked_plain w at p e t n a paren tuple h = go (out-Node n) refl
    where
      back : (y : Node-F Count Node Seg Exp) → out-Node n ≡ y → n ≡ roll-Node y
      back y o = sym (roll-out-Node n) ∙ ap roll-Node o

      go : (y : Node-F Count Node Seg Exp) → out-Node n ≡ y → Leads D S (checked_row D S w at p e t y) a
      go (Node-F.Paren x) o = absurd (paren x (back _ o ∙ node.rolls-Paren x))
      go (Node-F.Tuple xs) o = absurd (tuple xs (back _ o ∙ node.rolls-Tuple xs))
      go y o = h

-- one arm of the table
pub form_arm : (x : Context) (part : Part) (t u : Ty) (n : Node) (y : Node-F Count Node Seg Exp) (r : Result Found ExpFault) → out-Node n ≡ y
    → LeadsTo x (form_row x.decls.now x.scope.now x.within.now part.at (manner part) part.exp.now t u y) r
    → LeadsTo x (form_row x.decls.now x.scope.now x.within.now part.at (manner part) part.exp.now t u (out-Node n)) r
form_arm x part t u n y r o h =
    subst (λ z. LeadsTo x (form_row x.decls.now x.scope.now x.within.now part.at (manner part) part.exp.now t u z) r) (sym o) h
