-- Variables and calls, as the code takes them.
use Rattle.std.proofs.Common.{◌≡◌, ◌⊎◌, inl, inr, refl, sym, ap, ◌∙◌, subst, ℕ, List, map, Bool, true, false, Option, Some, None, if◌then◌else◌}
use Rattle.std.specs.Prelude.{Result}
use Rattle.std.specs.Option.{option_or}
use Rattle.std.specs.Map.{lookup}
use Rattle.st_num.specs.declared.span.Span.{Span}
use Rattle.st_num.specs.declared.rule.RuleId.TheVariants.{B2, B3, Y3}
use Rattle.st_num.specs.declared.mark.Mark.{Mark}
use Rattle.st_num.specs.Names.{same_name}
use Rattle.st_el.specs.declared.expression.Exp.{Exp}
use Rattle.st_el.specs.declared.expression.Node.{Node, out-Node}
use Rattle.st_el.specs.declared.expression.Node.TheVariants as node
use Rattle.st_el.specs.declared.expression.Count.{Count}
use Rattle.st_el.specs.declared.expression.Count.TheOpen.{Node-F}
use Rattle.st_el.specs.declared.expression.Seg.{Seg}
use Rattle.st_il.specs.declared.ty.Ty.{Ty}
use Rattle.st_il.specs.declared.ty.Ty.TheVariants as ty
use Rattle.st_il.specs.declared.definition.FunDef.{FunDef}
use Rattle.st_elab_table.specs.declared.decls.Decls.{Decls}
use Rattle.st_elab_table.specs.declared.decls.Scope.{Scope}
use Rattle.st_dims.specs.declared.within.Within.{Within}
use Rattle.st_num.specs.declared.fault.Fault.{Fault as ExpFault}
use Rattle.st_elab_table.specs.Variables.{type_of_name}
use Rattle.st_elab_table.specs.Forms.{inferable}
use Rattle.st_num.specs.Names.{is_among}
use Rattle.st_elab_table.specs.Questions.{Answer, Fails}
use Rattle.st_elab_table.specs.Steps.{breach}
use Rattle.st_elab_table.specs.Inferred.{entry_of, variable_type, variable_row, call_row, inferred_at, inferred_row}
use Rattle.st_elab_table.specs.Elaboration.{Leads, ends}
use Rattle.st_elab_rows.specs.declared.asking.Found.{Found}
use Rattle.st_elab_rows.specs.declared.asking.Context.{Context}
use Rattle.st_elab_rows.specs.Asking.{LeadsTo}
use Rattle.st_elab_rows.proofs.Builds.{leads_then, leads_else}

-- ---- the type of a variable

abbrev either : Decls → Scope → List ℕ → Bool → Option Ty
either D S name b = if b then Some ty.Nat else option_or (lookup (same_name name) (map entry_of S.variables)) (type_of_name D name)

-- an index
pub index_type : (D : Decls) (S : Scope) (w : Within) (name : List ℕ) → is_among name w.indices ≡ true → variable_type D S w name ≡ Some ty.Nat
index_type D S w name is = ap (either D S name) is

-- a variable of the scope
pub scope_type : (D : Decls) (S : Scope) (w : Within) (name : List ℕ) (t : Ty) → is_among name w.indices ≡ false → lookup (same_name name) (map entry_of S.variables) ≡ Some t
    → variable_type D S w name ≡ Some t
scope_type D S w name t unlisted is = ap (either D S name) unlisted ∙ ap (λ o. option_or o (type_of_name D name)) is

-- any other
pub other_type : (D : Decls) (S : Scope) (w : Within) (name : List ℕ) → is_among name w.indices ≡ false → lookup (same_name name) (map entry_of S.variables) ≡ None
    → variable_type D S w name ≡ type_of_name D name
other_type D S w name unlisted is = ap (either D S name) unlisted ∙ ap (λ o. option_or o (type_of_name D name)) is

module _ (D : Decls) (S : Scope) where
  pub no_type : (at : Span) (name : List ℕ) (t : Option Ty) → t ≡ None → Leads D S (variable_row at name t) (Fails (record { at = at; rule = B3 }))
  no_type at name t is = subst (λ z. Leads D S (variable_row at name z) (Fails (record { at = at; rule = B3 }))) (sym is) ends

  pub has_type : (at : Span) (name : List ℕ) (t : Option Ty) (u : Ty) (a : Answer) → t ≡ Some u → Leads D S (variable_row at name (Some u)) a → Leads D S (variable_row at name t) a
  has_type at name t u a is h = subst (λ z. Leads D S (variable_row at name z) a) (sym is) h

  -- ---- calls

  pub no_function : (w : Within) (at : Span) (es : List Exp) (f : Option FunDef) → f ≡ None → Leads D S (call_row w at es f) (Fails (record { at = at; rule = B2 }))
  no_function w at es f is = subst (λ z. Leads D S (call_row w at es z) (Fails (record { at = at; rule = B2 }))) (sym is) ends

  pub has_function : (w : Within) (at : Span) (es : List Exp) (f : Option FunDef) (g : FunDef) (a : Answer) → f ≡ Some g → Leads D S (call_row w at es (Some g)) a → Leads D S (call_row w at es f) a
  has_function w at es f g a is h = subst (λ z. Leads D S (call_row w at es z) a) (sym is) h

  -- ---- rows

  untyped_leads : (w : Within) (at : Span) (n : Node) (y : Node-F Count Node Seg Exp) → out-Node n ≡ y → inferred_at D S w at y ≡ breach at Y3
      → Leads D S (inferred_at D S w at (out-Node n)) (Fails (record { at = at; rule = Y3 }))
  untyped_leads w at n y o is = subst (λ z. Leads D S z (Fails (record { at = at; rule = Y3 }))) (sym (ap (inferred_at D S w at) o ∙ is)) ends

  -- an atom, `eps`, a sequence or a sign of notation
  pub notation_untyped : (w : Within) (at : Span) (n : Node)
      → ((name : List ℕ) × (n ≡ node.Atom name)) ⊎ ((n ≡ node.Eps) ⊎ (((es : List Exp) × (n ≡ node.Seq es)) ⊎ ((l : Exp) × (sign : Mark) × (r : Exp) × (n ≡ node.Infix l sign r))))
      → Leads D S (inferred_at D S w at (out-Node n)) (Fails (record { at = at; rule = Y3 }))
  notation_untyped w at n (inl h) = untyped_leads w at n _ (ap out-Node h.1 ∙ node.outs-Atom h.0) refl
  notation_untyped w at n (inr (inl h)) = untyped_leads w at n _ (ap out-Node h ∙ node.outs-Eps) refl
  notation_untyped w at n (inr (inr (inl h))) = untyped_leads w at n _ (ap out-Node h.1 ∙ node.outs-Seq h.0) refl
  notation_untyped w at n (inr (inr (inr h))) = untyped_leads w at n _ (ap out-Node h.3 ∙ node.outs-Infix h.0 h.1 h.2) refl

  -- a bracket or a record
  pub bracket_untyped : (w : Within) (at : Span) (n : Node)
      → ((opening : Mark) × (b : Exp) × (n ≡ node.Bracket opening b)) ⊎ ((fields : List (List ℕ × Exp)) × (n ≡ node.Fields fields))
      → Leads D S (inferred_at D S w at (out-Node n)) (Fails (record { at = at; rule = Y3 }))
  bracket_untyped w at n (inl h) = untyped_leads w at n _ (ap out-Node h.2 ∙ node.outs-Bracket h.0 h.1) refl
  bracket_untyped w at n (inr h) = untyped_leads w at n _ (ap out-Node h.1 ∙ node.outs-Fields h.0) refl

  pub row_inferable : (w : Within) (at : Span) (e : Exp) (n : Node-F Count Node Seg Exp) (a : Answer) → inferable e ≡ true → Leads D S (inferred_at D S w at n) a → Leads D S (inferred_row D S w at e n) a
  row_inferable w at e n a is h = leads_then D S _ _ _ a is h

  pub row_uninferable : (w : Within) (at : Span) (e : Exp) (n : Node-F Count Node Seg Exp) → inferable e ≡ false → Leads D S (inferred_row D S w at e n) (Fails (record { at = at; rule = Y3 }))
  row_uninferable w at e n is = leads_else D S _ _ _ _ is ends

-- one arm of the table
pub inferred_arm : (x : Context) (at : Span) (n : Node) (y : Node-F Count Node Seg Exp) (r : Result Found ExpFault) → out-Node n ≡ y
    → LeadsTo x (inferred_at x.decls.now x.scope.now x.within.now at y) r → LeadsTo x (inferred_at x.decls.now x.scope.now x.within.now at (out-Node n)) r
inferred_arm x at n y r o h = subst (λ z. LeadsTo x (inferred_at x.decls.now x.scope.now x.within.now at z) r) (sym o) h
