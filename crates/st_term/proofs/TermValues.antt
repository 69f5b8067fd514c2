-- Values of the forms that terms are elaborated to, and of several parts one after another.
use Rattle.std.proofs.Common.{◌≡◌, ℕ, suc, ◌+◌, ◌<◌, ◌≤◌, pos, refl, sym, ◌∙◌, ap, subst, Bool, List, [], ◌∷◌, ◌++◌, drop, length, get_or, Option, Some, None, append_assoc, append-nil, add-one, drop-cons}
use Rattle.std.specs.Prelude.{option_and_then, option_map}
use Rattle.std.proofs.lemmas.List.{drop_all}
use Rattle.st_il.specs.declared.definition.SyntaxDef.{SyntaxDef}
use Rattle.st_il.specs.declared.expression.IlExp.{IlExp, out-IlExp}
use Rattle.st_il.specs.declared.expression.IlExp.TheVariants as exp
use Rattle.st_il.specs.declared.expression.ListItem.{ListItem, out-ListItem}
use Rattle.st_il.specs.declared.ty.Ty.{Ty}
use Rattle.st_il.specs.declared.value.Value.{Value}
use Rattle.st_il.specs.declared.value.Value.TheVariants as value
use Rattle.st_semantics.specs.declared.outcome.Outcome.TheVariants.{Val}
use Rattle.st_semantics.specs.declared.outcome.Outcomes.TheVariants.{Values}
use Rattle.st_semantics.specs.Operators.{opposite}
use Rattle.st_semantics.specs.Parts.{Operation, constant, limited, made}
use Rattle.st_semantics.specs.Forms.{form_at, Strict, HasForm, by_itself, structure, absent_list, absent_option, spliced_at, building}
use Rattle.st_semantics.specs.Evaluation.{tasks, strict}
use Rattle.st_semantics.specs.Matching.{no_answers}
use Rattle.st_semantics.proofs.Values.{gives_values}
use Rattle.st_term.specs.TermValue.{nothing, IsTermValue, AreTermValues}
use Rattle.st_term.specs.inner.TermElements.{StandsFor, AreElements, ValuesContinue, ElementsContinue, IsRecordOf, IsLeftOut, list, option}

-- what is left begins with the item at this place
pub next_left : {A : Type 0} (xs : List A) (i : ℕ) (x : A) → i < length xs → x ≡ get_or xs i x → drop i xs ≡ x ∷ drop (i + 1) xs
next_left xs i x h is = drop-cons xs i x h ∙ (ap (λ z. z ∷ drop (suc i) xs) (sym is) ∙ ap (λ n. x ∷ drop n xs) (sym (add-one i)))

behind_more : {A : Type 0} (so_far some more new : List A) → new ≡ so_far ++ some → so_far ++ (some ++ more) ≡ new ++ more
behind_more so_far some more new e = sym (append_assoc so_far some more) ∙ ap (λ z. z ++ more) (sym e)

module _ (defs : List SyntaxDef) where
  by_form : (e : IlExp) (es : List IlExp) (f : Operation) (vs : List Value) (v : Value) → HasForm defs e (Strict es f) → AreTermValues defs es vs → f vs ≡ Val v → IsTermValue defs e v
  by_form e es f vs v form have is = strict es f (Values vs) form (gives_values defs no_answers (tasks nothing es) vs have) (sym is)

  -- ---- without parts

  pub value_Bool : (e : IlExp) (b : Bool) → e ≡ exp.Bool b → IsTermValue defs e (value.Bool b)
  value_Bool e b is = by_form e [] (constant (value.Bool b)) [] (value.Bool b) (by_itself (ap form_at (ap out-IlExp is ∙ exp.outs-Bool b))) tt refl

  pub value_Number : (e : IlExp) (n : ℕ) (v : Value) → e ≡ exp.Number n → v ≡ value.Num (pos n) → IsTermValue defs e v
  value_Number e n v is k = by_form e [] (constant (value.Num (pos n))) [] v (by_itself (ap form_at (ap out-IlExp is ∙ exp.outs-Number n))) tt (ap Val (sym k))

  pub value_Text : (e : IlExp) (text copy : List ℕ) → e ≡ exp.Text text → copy ≡ text → IsTermValue defs e (value.Text copy)
  value_Text e text copy is k = by_form e [] (constant (value.Text text)) [] (value.Text copy) (by_itself (ap form_at (ap out-IlExp is ∙ exp.outs-Text text))) tt (ap (λ z. Val (value.Text z)) (sym k))

  pub value_Empty : (e : IlExp) (t : Ty) → e ≡ exp.Empty t → IsTermValue defs e (value.Opt None)
  value_Empty e t is = by_form e [] (constant (value.Opt None)) [] (value.Opt None) (by_itself (ap form_at (ap out-IlExp is ∙ exp.outs-Empty t))) tt refl

  pub value_Absent : (e : IlExp) (t : Ty) (v : Value) → e ≡ exp.Absent t → IsLeftOut defs t v → IsTermValue defs e v
  value_Absent e t v is (list x m k) = by_form e [] (constant (value.List [])) [] v (absent_list t x (ap out-IlExp is ∙ exp.outs-Absent t) m refl) tt (ap Val (sym k))
  value_Absent e t v is (option x m k) = by_form e [] (constant (value.Opt None)) [] v (absent_option t x (ap out-IlExp is ∙ exp.outs-Absent t) m refl) tt (ap Val (sym k))

  -- ---- with one part

  pub value_Up : (e x : IlExp) (t : Ty) (v : Value) → e ≡ exp.Up t x → IsTermValue defs x v → IsTermValue defs e v
  value_Up e x t v is has = by_form e (x ∷ []) _ (v ∷ []) v (by_itself (ap form_at (ap out-IlExp is ∙ exp.outs-Up t x))) (has, tt) refl

  pub value_Neg : (e x : IlExp) (v w : Value) → e ≡ exp.Neg x → IsTermValue defs x v → made (opposite v) ≡ Val w → IsTermValue defs e w
  value_Neg e x v w is has k = by_form e (x ∷ []) _ (v ∷ []) w (by_itself (ap form_at (ap out-IlExp is ∙ exp.outs-Neg x))) (has, tt) k

  pub value_Present : (e x : IlExp) (v w : Value) → e ≡ exp.Present x → IsTermValue defs x v → limited (value.Opt (Some v)) ≡ Val w → IsTermValue defs e w
  value_Present e x v w is has k = by_form e (x ∷ []) _ (v ∷ []) w (by_itself (ap form_at (ap out-IlExp is ∙ exp.outs-Present x))) (has, tt) k

  -- ---- with several parts

  pub value_Case : (e : IlExp) (type tag copy : List ℕ) (es : List IlExp) (vs : List Value) (v : Value) → e ≡ exp.Case type tag es → AreTermValues defs es vs → copy ≡ tag
      → limited (value.Case copy vs) ≡ Val v → IsTermValue defs e v
  value_Case e type tag copy es vs v is have same k =
      by_form e es _ vs v (by_itself (ap form_at (ap out-IlExp is ∙ exp.outs-Case type tag es))) have (ap (λ z. limited (value.Case z vs)) (sym same) ∙ k)

  pub value_Tuple : (e : IlExp) (es : List IlExp) (vs : List Value) (v : Value) → e ≡ exp.Tuple es → AreTermValues defs es vs → limited (value.Tuple vs) ≡ Val v → IsTermValue defs e v
  value_Tuple e es vs v is have k = by_form e es _ vs v (by_itself (ap form_at (ap out-IlExp is ∙ exp.outs-Tuple es))) have k

  as_many : (es : List IlExp) (vs : List Value) → AreTermValues defs es vs → length es ≡ length vs
  as_many [] [] h = refl
  as_many [] (v ∷ vs) h = absurd h
  as_many (e ∷ es) [] h = absurd h
  as_many (e ∷ es) (v ∷ vs) h = ap suc (as_many es vs h.1)

  pub value_Fields : (e : IlExp) (type : List ℕ) (es : List IlExp) (vs : List Value) (v : Value) → e ≡ exp.Fields type es → AreTermValues defs es vs → IsRecordOf defs type vs v → IsTermValue defs e v
  value_Fields e type es vs v is have k =
      by_form e es (building k.declared) vs v (structure type es k.declared (ap out-IlExp is ∙ exp.outs-Fields type es) k.fields (as_many es vs have ∙ k.counted) refl) have k.built

  pub value_List : (e : IlExp) (t : Ty) (items : List ListItem) (elements : List Value) (v : Value) → e ≡ exp.List t items → AreElements defs items elements → limited (value.List elements) ≡ Val v
      → IsTermValue defs e v
  value_List e t items elements v is made_of k =
      by_form e _ _ made_of.values v (by_itself (ap form_at (ap out-IlExp is ∙ exp.outs-List t items))) made_of.have
      (ap (λ o. made (option_map value.List o)) made_of.make ∙ k)

  -- ---- one after another

  pub values_next : (all : List IlExp) (i : ℕ) (x : IlExp) (so_far new : List Value) (v : Value) → i < length all → x ≡ get_or all i x → ValuesContinue defs all (drop i all) so_far
      → IsTermValue defs x v → new ≡ so_far ++ v ∷ [] → ValuesContinue defs all (drop (i + 1) all) new
  values_next all i x so_far new v h is k has e = λ more rest.
      let first : AreTermValues defs (drop i all) (v ∷ more) = subst (λ z. AreTermValues defs z (v ∷ more)) (sym (next_left all i x h is)) (has, rest) in
      subst (AreTermValues defs all) (behind_more so_far (v ∷ []) more new e) (k (v ∷ more) first)

  pub values_end : (all : List IlExp) (i : ℕ) (so_far : List Value) → length all ≤ i → ValuesContinue defs all (drop i all) so_far → AreTermValues defs all so_far
  values_end all i so_far h k =
      subst (AreTermValues defs all) (append-nil so_far) (k [] (subst (λ z. AreTermValues defs z []) (sym (drop_all i all h)) tt))

  more_elements : (i : ListItem) (is : List ListItem) (ws more : List Value) → StandsFor defs i ws → AreElements defs is more → AreElements defs (i ∷ is) (ws ++ more)
  more_elements i is ws more s r = record {
    values = s.value ∷ r.values;
    have = (s.has, r.have);
    make = ap (option_and_then (spliced_at (out-ListItem i) s.value)) r.make ∙ s.stands more;
  }

  pub elements_next : (all : List ListItem) (i : ℕ) (x : ListItem) (so_far new ws : List Value) → i < length all → x ≡ get_or all i x → ElementsContinue defs all (drop i all) so_far
      → StandsFor defs x ws → new ≡ so_far ++ ws → ElementsContinue defs all (drop (i + 1) all) new
  elements_next all i x so_far new ws h is k s e = λ more rest.
      let first : AreElements defs (drop i all) (ws ++ more) = subst (λ z. AreElements defs z (ws ++ more)) (sym (next_left all i x h is)) (more_elements x (drop (i + 1) all) ws more s rest) in
      subst (AreElements defs all) (behind_more so_far ws more new e) (k (ws ++ more) first)

  pub elements_end : (all : List ListItem) (i : ℕ) (so_far : List Value) → length all ≤ i → ElementsContinue defs all (drop i all) so_far → AreElements defs all so_far
  elements_end all i so_far h k =
      subst (AreElements defs all) (append-nil so_far)
      (k [] (subst (λ z. AreElements defs z []) (sym (drop_all i all h)) (record { values = []; have = tt; make = refl })))
