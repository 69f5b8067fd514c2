-- A rule or clause has one scope at most.
use Rattle.std.proofs.Common.{◌≡◌, refl, sym, ap, ◌∙◌, subst, ℕ, List, [], ◌∷◌, Some}
use Rattle.std.specs.List.{AllByRecursion}
use Rattle.st_num.specs.declared.span.Span.{Span}
use Rattle.st_num.specs.declared.dim.Kind.{Kind}
use Rattle.st_num.specs.declared.rule.RuleId.TheVariants.{B3, I1, I2}
use Rattle.st_il.specs.declared.ty.Ty.{Ty}
use Rattle.st_dims.specs.declared.mention.Mention.{Mention}
use Rattle.st_dims.specs.Dimensions.{Table, IsOnlyTable}
use Rattle.st_dims.specs.Breaches.{IsFirst, misplaced_in, idle}
use Rattle.st_elab_table.specs.declared.decls.Decls.{Decls}
use Rattle.st_elab_table.specs.declared.decls.Scope.{Scope}
use Rattle.st_elab_table.specs.Questions.{Breach}
use Rattle.st_elab_table.specs.Iterations.{Variable}
use Rattle.st_elab_table.specs.Variables.{type_of_name}
use Rattle.st_elab_exp.specs.Single.{HasOneOutcome}
use Rattle.st_elab_table.specs.Judgements.{broken}
use Rattle.st_elab_table.specs.Scopes.{untyped, table_of, HasItsType, IsScope, VariableBreach, no_type, misplaced, idle as idle_breach}

no_first : (at : Span) (rest places : List Span) → places ≡ at ∷ rest → places ≡ [] → ⊥
no_first at rest places e f = cc

same_first : (at to : Span) (places : List Span) → IsFirst (Some at) places → IsFirst (Some to) places → at ≡ to
same_first at to places (rest, h) (left, k) = let e : at ∷ rest ≡ to ∷ left = sym h ∙ k in cc

first_not_empty : (at : Span) (places : List Span) → IsFirst (Some at) places → places ≡ [] → ⊥
first_not_empty at places (rest, h) e = no_first at rest places h e

same_table : (mentions : List Mention) (one other : Table) → IsOnlyTable mentions one → IsOnlyTable mentions other → one ≡ other
same_table mentions one other h k = k.only one h.is

-- ---- variables

same_type : (D : Decls) (m n : List ℕ) (t u : Ty) → m ≡ n → type_of_name D m ≡ Some t → type_of_name D n ≡ Some u → t ≡ u
same_type D m n t u e h k = let f : Some t ≡ Some u = sym h ∙ ap (type_of_name D) e ∙ k in cc

abbrev Entry : Type 0
Entry = List ℕ × List Kind

same_entry : (x y : Entry) (us vs : Table) → x ∷ us ≡ y ∷ vs → x ≡ y
same_entry x y us vs h = cc

same_rest : (x y : Entry) (us vs : Table) → x ∷ us ≡ y ∷ vs → us ≡ vs
same_rest x y us vs h = cc

no_entry : (x : Entry) (us : Table) → x ∷ us ≡ [] → ⊥
no_entry x us h = cc

same_variables : (D : Decls) (us vs : List Variable) → table_of us ≡ table_of vs → AllByRecursion (HasItsType D) us → AllByRecursion (HasItsType D) vs → us ≡ vs
same_variables D [] [] e h k = refl
same_variables D [] (v ∷ vs) e h k = absurd (no_entry (v.0, v.2) (table_of vs) (sym e))
same_variables D (u ∷ us) [] e h k = absurd (no_entry (u.0, u.2) (table_of us) e)
same_variables D (u ∷ us) (v ∷ vs) e (h, hs) (k, ks) =
    let entry = same_entry (u.0, u.2) (v.0, v.2) (table_of us) (table_of vs) e in
    let name : u.0 ≡ v.0 = ap (λ (z : Entry). z.0) entry in
    let dim : u.2 ≡ v.2 = ap (λ (z : Entry). z.1) entry in
    let type = same_type D u.0 v.0 u.1 v.1 name h k in
    let rest = same_variables D us vs (same_rest (u.0, u.2) (v.0, v.2) (table_of us) (table_of vs) e) hs ks in
    λ i. (name i, type i, dim i) ∷ rest i

module _ (D : Decls) (mentions : List Mention) where
  one_scope : (S T : Scope) → IsScope D mentions S → IsScope D mentions T → S ≡ T
  one_scope S T h k =
      let variables = same_variables D S.variables T.variables (same_table mentions (table_of S.variables) (table_of T.variables) h.dimensions k.dimensions) h.types k.types in
      let around = h.around ∙ sym k.around in
      λ i. record { variables = variables i; around = around i }

  -- the first place of two tables
  same_place : (f : Table → List Span) (at to : Span) (one other : Table) → IsOnlyTable mentions one → IsOnlyTable mentions other
      → IsFirst (Some at) (f one) → IsFirst (Some to) (f other) → at ≡ to
  same_place f at to one other h k p q = same_first at to (f one) p (subst (λ z. IsFirst (Some to) (f z)) (same_table mentions other one k h) q)

  none_placed : (f : Table → List Span) (at : Span) (one other : Table) → IsOnlyTable mentions one → IsOnlyTable mentions other
      → IsFirst (Some at) (f one) → f other ≡ [] → ⊥
  none_placed f at one other h k p e = first_not_empty at (f one) p (subst (λ z. f z ≡ []) (same_table mentions other one k h) e)

  one_variable_breach : (b c : Breach) → VariableBreach D mentions b → VariableBreach D mentions c → b ≡ c
  one_variable_breach b c (no_type at h) (no_type to k) = ap (λ z. broken z B3) (same_first at to (untyped D mentions) h k)
  one_variable_breach b c (no_type at h) (misplaced to e k) = absurd (first_not_empty at (untyped D mentions) h e)
  one_variable_breach b c (no_type at h) (idle_breach to e k) = absurd (first_not_empty at (untyped D mentions) h e)
  one_variable_breach b c (misplaced at e h) (no_type to k) = absurd (first_not_empty to (untyped D mentions) k e)
  one_variable_breach b c (misplaced at e h) (misplaced to f k) =
      ap (λ z. broken z I1) (same_place (misplaced_in mentions) at to h.table k.table h.dimensions k.dimensions h.first k.first)
  one_variable_breach b c (misplaced at e h) (idle_breach to f k) = absurd (none_placed (misplaced_in mentions) at h.table k.table h.dimensions k.dimensions h.first k.placed)
  one_variable_breach b c (idle_breach at e h) (no_type to k) = absurd (first_not_empty to (untyped D mentions) k e)
  one_variable_breach b c (idle_breach at e h) (misplaced to f k) = absurd (none_placed (misplaced_in mentions) to k.table h.table k.dimensions h.dimensions k.first h.placed)
  one_variable_breach b c (idle_breach at e h) (idle_breach to f k) =
      ap (λ z. broken z I2) (same_place (idle mentions) at to h.table k.table h.dimensions k.dimensions h.first k.first)

  scope_no_breach : (S : Scope) (b : Breach) → IsScope D mentions S → VariableBreach D mentions b → ⊥
  scope_no_breach S b h (no_type at k) = first_not_empty at (untyped D mentions) k h.typed
  scope_no_breach S b h (misplaced at e k) = none_placed (misplaced_in mentions) at k.table (table_of S.variables) k.dimensions h.dimensions k.first h.sound.placed
  scope_no_breach S b h (idle_breach at e k) = none_placed (idle mentions) at k.table (table_of S.variables) k.dimensions h.dimensions k.first h.sound.iterating

  pub scope_one : HasOneOutcome (IsScope D mentions) (VariableBreach D mentions)
  scope_one = record { one = one_scope; one_breach = one_variable_breach; not_both = scope_no_breach }
