-- What the readers of terms and queries tell, from what their parts tell.
use Rattle.std.proofs.Common.{◌≡◌, ℕ, ◌≤◌, ◌<◌, refl, sym, ap, ◌∙◌, subst, arith, List, [], ◌∷◌, length, map, get_or, inl, inr, Option, Some, None}
use Rattle.std.specs.Prelude.{Result, Ok, Err, IfErr}
use Rattle.st_num.specs.declared.fault.Fault.{Fault}
use Rattle.st_num.specs.declared.fault.Fault.TheVariants as fault
use Rattle.st_num.specs.declared.rule.RuleId.TheVariants.{Y6}
use Rattle.st_num.specs.declared.token.Token.{Token}
use Rattle.st_scan.specs.Answers.{TellsFirst}
use Rattle.st_scan.specs.Tokens.{Tokens}
use Rattle.st_el.specs.declared.expression.Exp.{Exp}
use Rattle.st_parse.specs.ExpressionSource.{Answers}
use Rattle.st_dims.specs.declared.within.Within.{Within}
use Rattle.st_il.specs.declared.ty.Ty.{Ty}
use Rattle.st_il.specs.declared.expression.IlExp.{IlExp}
use Rattle.st_il.specs.declared.value.Value.{Value}
use Rattle.st_elab_table.specs.declared.decls.Decls.{Decls}
use Rattle.st_elab_table.specs.declared.decls.Scope.{Scope}
use Rattle.st_elab_table.specs.Questions.{Breach}
use Rattle.st_elab_table.specs.Steps.{exp_of, each_asked}
use Rattle.st_elab_table.specs.Elaboration.{around, Infer, InferBreach}
use Rattle.st_elab_rows.specs.Told.{Told, TellsAll}
use Rattle.st_elab_table.specs.Parts.{Breaks, AskedAs}
use Rattle.st_elab_rows.proofs.Builds.{Told-stops}
use Rattle.st_term.specs.Foreign.{first_foreign, first_open}
use Rattle.st_term.specs.TermValue.{AreTermValues}
use Rattle.st_term.specs.Reading.{variables_of, beginning, closed, questions, IsTextOf, TextBreach, no_token, no_file, too_high, IsReading, IsBreach, in_text, in_expressions, IsTermOf, TermBreach, other_number, unsuited, IsQueryOf, QueryBreach, not_one, untyped}

-- ---- texts

module _ (D : Decls) (bytes : List ℕ) where
  abbrev TellsText : Result (List Exp) Fault → Type 0
  TellsText r = Told (IsTextOf D bytes) (TextBreach D bytes) r

  pub scan_stops : {T : Type 0} (r : Result T Fault) (s : Result (List Exp) Fault) (e : Fault) → r ≡ Err e → s ≡ Err e → IfErr r (TellsFirst 0 bytes) → TellsText s
  scan_stops r s (fault.Refused at rule) is out h = subst TellsText (sym out) (no_token (subst (λ z. IfErr z (TellsFirst 0 bytes)) is h))
  scan_stops r s fault.Memory is out h = subst TellsText (sym out) tt

  -- the answers of the parser are of the tokens and the names that were given
  pub given_to : (names slice : List (List ℕ)) (tokens all : List Token) (r : Result (List Exp) Fault) → slice ≡ names → names ≡ variables_of D → all ≡ tokens → Answers slice all r → Answers (variables_of D) tokens r
  given_to names slice tokens all r n are t h = subst (λ z. Answers z tokens r) (n ∙ are) (subst (λ z. Answers slice z r) t h)

  pub parse_stops : (tokens : List Token) (r s : Result (List Exp) Fault) (e : Fault) → Tokens 0 bytes tokens → r ≡ Err e → s ≡ Err e → Answers (variables_of D) tokens r → TellsText s
  parse_stops tokens r s (fault.Refused at rule) scanned is out h = subst TellsText (sym out) (go (subst (Answers (variables_of D) tokens) is h))
    where
      go : Answers (variables_of D) tokens (Err (fault.Refused at rule)) → TextBreach D bytes (record { at = at; rule = rule })
      go (inl f) = no_file tokens scanned f
      go (inr f) = too_high tokens scanned f
  parse_stops tokens r s fault.Memory scanned is out h = subst TellsText (sym out) tt

  pub text_read : (tokens : List Token) (r : Result (List Exp) Fault) (exps : List Exp) → Tokens 0 bytes tokens → r ≡ Ok exps → Answers (variables_of D) tokens r → IsTextOf D bytes exps
  text_read tokens r exps scanned is h =
      let told = subst (Answers (variables_of D) tokens) is h in
      record { tokens = tokens; scanned = scanned; parsed = told.0; low = told.1 }

  -- ---- and what their expressions are read as

  module _ {A : Type 0} (Reads : List Exp → A → Type 0) (Refuses : List Exp → Breach → Type 0) where
    pub text_stops : (r : Result (List Exp) Fault) (s : Result A Fault) (e : Fault) → r ≡ Err e → s ≡ Err e → TellsText r → Told (IsReading D bytes A Reads) (IsBreach D bytes Refuses) s
    text_stops r s e is out h = Told-stops (IsTextOf D bytes) (IsReading D bytes A Reads) (TextBreach D bytes) (IsBreach D bytes Refuses) r s e is out (λ b k. in_text k) h

    pub reading_stops : (exps : List Exp) (r s : Result A Fault) (e : Fault) → IsTextOf D bytes exps → r ≡ Err e → s ≡ Err e → Told (Reads exps) (Refuses exps) r
        → Told (IsReading D bytes A Reads) (IsBreach D bytes Refuses) s
    reading_stops exps r s e text is out h =
        Told-stops (Reads exps) (IsReading D bytes A Reads) (Refuses exps) (IsBreach D bytes Refuses) r s e is out (λ b k. in_expressions exps text k) h

-- ---- terms

module _ (D : Decls) (holes : List Ty) (exps : List Exp) where
  abbrev pub TellsTerm : Result (List Value) Fault → Type 0
  TellsTerm r = Told (IsTermOf D holes exps) (TermBreach D holes exps) r

  pub term_number : (e : Fault) → e ≡ fault.Refused beginning Y6 → first_foreign exps ≡ None → (length exps ≡ length holes → ⊥) → TellsTerm (Err e)
  term_number e is none n = subst (λ z. TellsTerm (Err z)) (sym is) (other_number none n refl)

  -- what was asked of the parts, in a scope without variables
  pub asked_closed : (S : Scope) (w : Within) (r : Result (List IlExp) Fault) → S ≡ closed → w ≡ around closed → TellsAll D S (each_asked w exps holes) exp_of r
      → TellsAll D closed (questions exps holes) exp_of r
  asked_closed S w r s e h = subst (λ z. TellsAll D closed (each_asked z exps holes) exp_of r) e (subst (λ z. TellsAll D z (each_asked w exps holes) exp_of r) s h)

  pub parts_stop : (r : Result (List IlExp) Fault) (s : Result (List Value) Fault) (e : Fault) → first_foreign exps ≡ None → length exps ≡ length holes → r ≡ Err e → s ≡ Err e
      → TellsAll D closed (questions exps holes) exp_of r → TellsTerm s
  parts_stop r s e none n is out h =
      Told-stops (AskedAs D closed (questions exps holes) IlExp exp_of) (IsTermOf D holes exps) (Breaks D closed (questions exps holes)) (TermBreach D holes exps) r s e is out (λ b k. unsuited none n k) h

  pub term_read : (r : Result (List IlExp) Fault) (xs : List IlExp) (values : List Value) → first_foreign exps ≡ None → length exps ≡ length holes → r ≡ Ok xs
      → TellsAll D closed (questions exps holes) exp_of r → AreTermValues D.types xs values → IsTermOf D holes exps values
  term_read r xs values none n is h have = record {
    value_forms = none;
    counted = n;
    elaborated = xs;
    at_holes = subst (λ z. TellsAll D closed (questions exps holes) exp_of z) is h;
    have_values = have;
  }

-- ---- queries

pub none_there : {A : Type 0} (o : Option A) → ((x : A) → o ≡ Some x → ⊥) → o ≡ None
none_there None h = refl
none_there (Some x) h = absurd (h x refl)

-- one expression
pub only_one : (es : List Exp) (e : Exp) → 1 ≤ length es → length es < 2 → e ≡ get_or es 0 e → es ≡ e ∷ []
only_one [] e h k is = absurd (omega arith)
only_one (x ∷ []) e h k is = ap (λ z. z ∷ []) (sym is)
only_one (x ∷ y ∷ es) e h k is = absurd (omega arith)

module _ (D : Decls) (exps : List Exp) where
  abbrev pub TellsQuery : Result IlExp Fault → Type 0
  TellsQuery r = Told (IsQueryOf D exps) (QueryBreach D exps) r

  pub query_number : (e : Fault) → e ≡ fault.Refused beginning Y6 → first_open exps ≡ None → (length exps ≡ 1 → ⊥) → TellsQuery (Err e)
  query_number e is none n = subst (λ z. TellsQuery (Err z)) (sym is) (not_one none n refl)

  abbrev pub TellsFound : Scope → Exp → Result (IlExp × Ty) Fault → Type 0
  TellsFound S exp r = Told (λ (p : IlExp × Ty). Infer D S exp p.0 p.1) (InferBreach D S exp) r

  pub found_stops : (S : Scope) (exp : Exp) (r : Result (IlExp × Ty) Fault) (s : Result IlExp Fault) (e : Fault) → S ≡ closed → first_open exps ≡ None → exps ≡ exp ∷ [] → r ≡ Err e → s ≡ Err e
      → TellsFound S exp r → TellsQuery s
  found_stops S exp r s e is_closed none one is out h =
      Told-stops (λ (p : IlExp × Ty). Infer D closed exp p.0 p.1) (IsQueryOf D exps) (InferBreach D closed exp) (QueryBreach D exps) r s e is out (λ b k. untyped exp none one k)
      (subst (λ z. TellsFound z exp r) is_closed h)

  pub query_read : (S : Scope) (exp : Exp) (r : Result (IlExp × Ty) Fault) (p : IlExp × Ty) → S ≡ closed → first_open exps ≡ None → exps ≡ exp ∷ [] → r ≡ Ok p → TellsFound S exp r → IsQueryOf D exps p.0
  query_read S exp r p is_closed none one is h = record {
    closed_parts = none;
    exp = exp;
    one = one;
    type = p.1;
    elaborated = subst (λ z. TellsFound z exp (Ok p)) is_closed (subst (TellsFound S exp) is h);
  }
