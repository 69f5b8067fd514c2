-- A term has one list of values or one first breach, and a query one elaboration or one first breach.
use Rattle.std.proofs.Common.{◌≡◌, ℕ, refl, sym, ap, ◌∙◌, subst, List, [], ◌∷◌, length, Option, Some, None}
use Rattle.st_num.specs.declared.span.Span.{Span}
use Rattle.st_num.specs.declared.rule.RuleId.{RuleId}
use Rattle.st_el.specs.declared.expression.Exp.{Exp}
use Rattle.st_il.specs.declared.definition.SyntaxDef.{SyntaxDef}
use Rattle.st_il.specs.declared.ty.Ty.{Ty}
use Rattle.st_il.specs.declared.expression.IlExp.{IlExp}
use Rattle.st_il.specs.declared.value.Value.{Value}
use Rattle.st_semantics.specs.declared.outcome.Outcome.{Outcome}
use Rattle.st_semantics.specs.declared.outcome.Outcome.TheVariants.{Val}
use Rattle.st_semantics.specs.Matching.{no_answers}
use Rattle.st_semantics.proofs.Singles.{IsSingle, Gives-single}
use Rattle.st_elab_table.specs.declared.decls.Decls.{Decls}
use Rattle.st_elab_table.specs.Questions.{Made, Breach}
use Rattle.st_elab_table.specs.Steps.{made, found, exp_of}
use Rattle.st_elab_table.specs.Elaboration.{around, Infer, InferBreach}
use Rattle.st_elab_exp.specs.Single.{HasOneOutcome}
use Rattle.st_term.specs.TermValue.{nothing, IsTermValue, AreTermValues}
use Rattle.st_term.specs.Reading.{closed, questions, IsTermOf, TermBreach, foreign_part, other_number, unsuited, IsQueryOf, QueryBreach, open_part, not_one, untyped}
use Rattle.st_term.specs.Foreign.{first_foreign, first_open}
use Rattle.st_term.proofs.Outcomes.{same_breach, asked_one, one_made, one_failure, made_no_failure}

-- ---- values

none_called : IsSingle no_answers
none_called fun vs o p h k = absurd h

same_value : (v w : Value) → Val v ≡ Val w → v ≡ w
same_value v w e = cc

one_value : (defs : List SyntaxDef) (e : IlExp) (v w : Value) → IsTermValue defs e v → IsTermValue defs e w → v ≡ w
one_value defs e v w h k = same_value v w (Gives-single defs no_answers none_called nothing e (Val v) (Val w) h k)

one_list_of_values : (defs : List SyntaxDef) (es : List IlExp) (vs ws : List Value) → AreTermValues defs es vs → AreTermValues defs es ws → vs ≡ ws
one_list_of_values defs [] [] [] h k = refl
one_list_of_values defs [] [] (w ∷ ws) h k = absurd k
one_list_of_values defs [] (v ∷ vs) ws h k = absurd h
one_list_of_values defs (e ∷ es) [] ws h k = absurd h
one_list_of_values defs (e ∷ es) (v ∷ vs) [] h k = absurd k
one_list_of_values defs (e ∷ es) (v ∷ vs) (w ∷ ws) h k =
    let p = one_value defs e v w h.0 k.0 in
    let q = one_list_of_values defs es vs ws h.1 k.1 in
    λ i. p i ∷ q i

-- ---- places

not_there : {place : Option Span} {at : Span} → place ≡ None → place ≡ Some at → ⊥
not_there p q = let e = sym p ∙ q in cc

one_place : {place : Option Span} {at here : Span} → place ≡ Some at → place ≡ Some here → at ≡ here
one_place p q = let e = sym p ∙ q in cc

-- ---- terms

module _ (D : Decls) (holes : List Ty) (exps : List Exp) where
  one_term : (x y : List Value) → IsTermOf D holes exps x → IsTermOf D holes exps y → x ≡ y
  one_term x y h k =
      let same : k.elaborated ≡ h.elaborated = (asked_one D closed (questions exps holes) exp_of).one k.elaborated h.elaborated k.at_holes h.at_holes in
      one_list_of_values D.types h.elaborated x y h.have_values (subst (λ z. AreTermValues D.types z y) same k.have_values)

  one_term_breach : (b c : Breach) → TermBreach D holes exps b → TermBreach D holes exps c → b ≡ c
  one_term_breach b c (foreign_part p r) (foreign_part q s) = same_breach b c (one_place p q) (r ∙ sym s)
  one_term_breach b c (foreign_part p r) (other_number q n s) = absurd (not_there q p)
  one_term_breach b c (foreign_part p r) (unsuited q n s) = absurd (not_there q p)
  one_term_breach b c (other_number p n r) (foreign_part q s) = absurd (not_there p q)
  one_term_breach b c (other_number p n r) (other_number q m s) = r ∙ sym s
  one_term_breach b c (other_number p n r) (unsuited q m s) = absurd (n m)
  one_term_breach b c (unsuited p n r) (foreign_part q s) = absurd (not_there p q)
  one_term_breach b c (unsuited p n r) (other_number q m s) = absurd (m n)
  one_term_breach b c (unsuited p n r) (unsuited q m s) = (asked_one D closed (questions exps holes) exp_of).one_breach b c r s

  term_no_breach : (x : List Value) (b : Breach) → IsTermOf D holes exps x → TermBreach D holes exps b → ⊥
  term_no_breach x b h (foreign_part p r) = not_there h.value_forms p
  term_no_breach x b h (other_number p n r) = n h.counted
  term_no_breach x b h (unsuited p n r) = (asked_one D closed (questions exps holes) exp_of).not_both h.elaborated b h.at_holes r

  pub term_one : HasOneOutcome (IsTermOf D holes exps) (TermBreach D holes exps)
  term_one = record { one = one_term; one_breach = one_term_breach; not_both = term_no_breach }

-- ---- queries

one_first : {e f : Exp} {exps : List Exp} → exps ≡ e ∷ [] → exps ≡ f ∷ [] → e ≡ f
one_first p q = let r = sym p ∙ q in cc

module _ (D : Decls) (exps : List Exp) where
  one_query : (x y : IlExp) → IsQueryOf D exps x → IsQueryOf D exps y → x ≡ y
  one_query x y h k =
      let same : k.exp ≡ h.exp = one_first k.one h.one in
      ap exp_of (one_made D closed (found (around closed) h.exp) (made x h.type) (made y k.type) h.elaborated (subst (λ z. Infer D closed z y k.type) same k.elaborated))

  one_query_breach : (b c : Breach) → QueryBreach D exps b → QueryBreach D exps c → b ≡ c
  one_query_breach b c (open_part p r) (open_part q s) = same_breach b c (one_place p q) (r ∙ sym s)
  one_query_breach b c (open_part p r) (not_one q n s) = absurd (not_there q p)
  one_query_breach b c (open_part p r) (untyped e q n s) = absurd (not_there q p)
  one_query_breach b c (not_one p n r) (open_part q s) = absurd (not_there p q)
  one_query_breach b c (not_one p n r) (not_one q m s) = r ∙ sym s
  one_query_breach b c (not_one p n r) (untyped e q m s) = absurd (n (ap length m))
  one_query_breach b c (untyped e p n r) (open_part q s) = absurd (not_there p q)
  one_query_breach b c (untyped e p n r) (not_one q m s) = absurd (m (ap length n))
  one_query_breach b c (untyped e p n r) (untyped f q m s) =
      one_failure D closed (found (around closed) e) b c r (subst (λ z. InferBreach D closed z c) (one_first m n) s)

  query_no_breach : (x : IlExp) (b : Breach) → IsQueryOf D exps x → QueryBreach D exps b → ⊥
  query_no_breach x b h (open_part p r) = not_there h.closed_parts p
  query_no_breach x b h (not_one p n r) = n (ap length h.one)
  query_no_breach x b h (untyped e p n r) =
      made_no_failure D closed (found (around closed) h.exp) (made x h.type) b h.elaborated (subst (λ z. InferBreach D closed z b) (one_first n h.one) r)

  pub query_one : HasOneOutcome (IsQueryOf D exps) (QueryBreach D exps)
  query_one = record { one = one_query; one_breach = one_query_breach; not_both = query_no_breach }
