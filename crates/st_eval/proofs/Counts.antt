-- The count of an iteration: its value where it is bound, and the variable that it is where it is not.
use Rattle.std.proofs.Common.{◌≡◌, ℕ, pos, refl, sym, ◌∙◌, ap, subst, List, [], ◌∷◌, filter, length, nat_eq, arith, Bool, true, false, if◌then◌else◌, Option, Some, None}
use Rattle.std.proofs.lemmas.Bool.{eqb-true, eq-eqb}
use Rattle.std.specs.Prelude.{MatchOption, IsTrue, ◌↔◌}
use Rattle.std.specs.Borrow.{Bor}
use Rattle.st_num.specs.Number.{IsNumber}
use Rattle.st_num.specs.declared.dim.Kind.{Kind}
use Rattle.st_num.specs.declared.dim.Kind.TheVariants as kind
use Rattle.st_il.specs.declared.definition.Listed.{Listed}
use Rattle.st_il.specs.declared.definition.SyntaxDef.{SyntaxDef}
use Rattle.st_il.specs.declared.expression.IlExp.{IlExp, out-IlExp, roll-IlExp, roll-out-IlExp}
use Rattle.st_il.specs.declared.expression.IlExp.TheVariants as exp
use Rattle.st_il.specs.declared.expression.IlExp.TheOpen.{IlExp-F}
use Rattle.st_il.specs.declared.expression.Iteration.{Iteration}
use Rattle.st_il.specs.declared.ty.Ty.{Ty, out-Ty}
use Rattle.st_il.specs.declared.ty.Ty.TheOpen.{Ty-F}
use Rattle.st_il.specs.declared.ty.Ty.TheVariants as ty
use Rattle.st_il.specs.declared.value.Env.{Env}
use Rattle.st_il.specs.declared.value.Value.{Value}
use Rattle.st_il.specs.declared.value.Value.TheOpen.{Value-F}
use Rattle.st_il.specs.declared.value.Value.TheVariants as value
use Rattle.st_type_table.specs.Meaning.{itself}
use Rattle.st_type_table.specs.HasType.{HasType}
use Rattle.st_type_table.specs.inner.TypedLevels.{TypedAt}
use Rattle.st_type_table.proofs.HasTypeLemmas.{typed-opened}
use Rattle.st_semantics.specs.declared.outcome.Outcome.{Outcome}
use Rattle.st_semantics.specs.declared.outcome.Outcome.TheVariants.{Val, NoValue, Deep}
use Rattle.st_semantics.specs.declared.outcome.Outcomes.TheVariants.{Values}
use Rattle.st_il.specs.Names.{Name, has_name, all_known}
use Rattle.st_semantics.specs.Environments.{AgreeOn, IsTypedValue, wrapped, type_of, listed_as}
use Rattle.st_semantics.specs.Formed as formed
use Rattle.st_semantics.specs.Formed.{IsFormed, AreFormed}
use Rattle.st_semantics.specs.Iterations.{count_of}
use Rattle.st_semantics.specs.Evaluation.{Answers, tasks, Gives, GivesAll, none, stop, next}
use Rattle.st_semantics.specs.Variables.{vars}
use Rattle.st_semantics.specs.Depth.{bound_count}
use Rattle.st_semantics.proofs.Names.{true_false}
use Rattle.st_semantics.proofs.Agree.{Gives-agree}
use Rattle.st_semantics.proofs.Elements.{no_alias_list, no_alias_option}
use Rattle.st_semantics.proofs.TypedParts.{natural_typed}
use Rattle.st_eval.specs.inner.Gathered.{bound_one, alone, IsUnknownCount, HasNumber}

-- ---- a count that is bound, or is not there

module _ (defs : List SyntaxDef) (C : Answers) (known : List Name) (env : Env) where
  pub bound_one-unknown : (e : IlExp) → all_known known (vars e) ≡ false → GivesAll defs C (tasks env (bound_one known e)) (Values [])
  bound_one-unknown e k = subst (λ z. GivesAll defs C (tasks env (if z then e ∷ [] else [])) (Values [])) (sym k) (none refl)

  pub bound_one-known : (e : IlExp) (few : Env) (o : Outcome) → all_known known (vars e) ≡ true → AgreeOn (vars e) few env → Gives defs C few e o → GivesAll defs C (tasks env (bound_one known e)) (alone o)
  bound_one-known e few o k g gives = subst (λ z. GivesAll defs C (tasks env (if z then e ∷ [] else [])) (alone o)) (sym k) (by o (Gives-agree defs C gives env g))
    where
      by : (o : Outcome) → Gives defs C env e o → GivesAll defs C (tasks env (e ∷ [])) (alone o)
      by (Val v) x = next v (Values []) x (none refl) refl
      by NoValue x = stop NoValue x tt refl
      by Deep x = stop Deep x tt refl

  pub bound_count-none : (how : Iteration) → count_of how ≡ [] → GivesAll defs C (tasks env (bound_count known how)) (Values [])
  bound_count-none how e = subst (λ z. GivesAll defs C (tasks env (filter (λ (e : IlExp). all_known known (vars e)) z)) (Values [])) (sym e) (none refl)

-- the count alone has a form
pub one_formed : (defs : List SyntaxDef) (es : List IlExp) (e : IlExp) → es ≡ e ∷ [] → AreFormed defs es → IsFormed defs e
one_formed defs es e is f = at e (subst (AreFormed defs) is f)
  where
    at : (e : IlExp) → AreFormed defs (e ∷ []) → IsFormed defs e
    at e (formed.more g rest) = g

-- ---- a count that is a variable

abbrev pub IsVariable : List Name → IlExp → Name → Type 0
IsVariable known e x = (out-IlExp e ≡ IlExp-F.Var x) × (has_name known x ≡ false)

pub unknown_count-is : (known : List Name) (how : Iteration) (e : IlExp) → count_of how ≡ e ∷ [] → (r : Option (Bor Name)) → MatchOption r ((x : Name) → out-IlExp e ≡ IlExp-F.Var x → has_name known x ≡ false → ⊥) (λ name. IsVariable known e name.now)
    → MatchOption r ((x : Name) → IsUnknownCount known how x → ⊥) (λ name. IsUnknownCount known how name.now)
unknown_count-is known how e one None f = λ x u.
    let both : u.0 ∷ [] ≡ e ∷ [] = sym u.1 ∙ one in
    let same : u.0 ≡ e = cc in
    f x (ap out-IlExp (sym same) ∙ u.2) u.3
unknown_count-is known how e one (Some name) w = (e, one, w.0, w.1)

pub unknown_count-none : (known : List Name) (how : Iteration) → count_of how ≡ [] → (x : Name) → IsUnknownCount known how x → ⊥
unknown_count-none known how e x u = let both : [] ≡ u.0 ∷ [] = sym e ∙ u.1 in cc

pub variable_is : (e : IlExp) (x : Name) → out-IlExp e ≡ IlExp-F.Var x → e ≡ exp.Var x
variable_is e x is = sym (roll-out-IlExp e) ∙ (ap roll-IlExp is ∙ exp.rolls-Var x)

pub variable_known : (known : List Name) (e : IlExp) (x : Name) → e ≡ exp.Var x → has_name known x ≡ true → (y : Name) → out-IlExp e ≡ IlExp-F.Var y → has_name known y ≡ false → ⊥
variable_known known e x is k y out f =
    let both : IlExp-F.Var y ≡ IlExp-F.Var x = sym out ∙ (ap out-IlExp is ∙ exp.outs-Var x) in
    let same : y ≡ x = cc in
    true_false (sym (ap (has_name known) same ∙ k) ∙ f)

pub variable_free : (known : List Name) (e : IlExp) (x : Name) → e ≡ exp.Var x → has_name known x ≡ false → IsVariable known e x
variable_free known e x is f = (ap out-IlExp is ∙ exp.outs-Var x, f)

-- ---- numbers of a type

module _ (defs : List SyntaxDef) (n : ℕ) where
  pub number_typed : (dim : List Kind) (t : Ty) → IsNumber (pos n) → dim ≡ [] → HasType defs (value.Num (pos n)) t → IsTypedValue defs (wrapped dim t) (value.Num (pos n))
  number_typed dim t num e h =
      let w = natural_typed defs n num in
      record { form = subst (λ z. HasType defs (value.Num (pos n)) (wrapped z t)) (sym e) h; value = w.value; numbers = w.numbers }

  no_list : (t : Ty) → HasType defs (value.Num (pos n)) (ty.List t) → ⊥
  no_list t h =
      subst (λ (z : Ty-F Ty). TypedAt defs (Value-F.Num (pos n)) z (ty.List t)) (ty.outs-List t)
      (subst (λ (z : Value-F Value). TypedAt defs z (out-Ty (ty.List t)) (ty.List t)) (value.outs-Num (pos n)) (typed-opened defs (value.Num (pos n)) (ty.List t) (ty.List t) (itself (no_alias_list defs t) refl) h))

  no_option : (t : Ty) → HasType defs (value.Num (pos n)) (ty.Opt t) → ⊥
  no_option t h =
      subst (λ (z : Ty-F Ty). TypedAt defs (Value-F.Num (pos n)) z (ty.Opt t)) (ty.outs-Opt t)
      (subst (λ (z : Value-F Value). TypedAt defs z (out-Ty (ty.Opt t)) (ty.Opt t)) (value.outs-Num (pos n)) (typed-opened defs (value.Num (pos n)) (ty.Opt t) (ty.Opt t) (itself (no_alias_option defs t) refl) h))

  pub number_plain : (dim : List Kind) (t : Ty) → IsTypedValue defs (wrapped dim t) (value.Num (pos n)) → (dim ≡ []) × HasType defs (value.Num (pos n)) t
  number_plain [] t typed = (refl, typed.form)
  number_plain (kind.List ∷ ks) t typed = absurd (no_list (wrapped ks t) typed.form)
  number_plain (kind.Opt ∷ ks) t typed = absurd (no_option (wrapped ks t) typed.form)

  -- the answers of a test
  pub number_has : (dim : List Kind) (t : Ty) (v : Value) (r : Bool) → Some v ≡ Some (value.Num (pos n)) → IsNumber (pos n) → dim ≡ [] → (IsTrue r ↔ HasType defs v t) → IsTrue r ↔ IsTypedValue defs (wrapped dim t) (value.Num (pos n))
  number_has dim t v r e num plain is =
      let same : v ≡ value.Num (pos n) = cc in (
        λ yes. number_typed dim t num plain (subst (λ z. HasType defs z t) same (is.0 yes)),
        λ typed. is.1 (subst (λ z. HasType defs z t) (sym same) (number_plain dim t typed).1),
      )

  pub number_refused : (dim : List Kind) (t : Ty) (r : Bool) → r ≡ nat_eq (length dim) 0 → r ≡ false → IsTrue false ↔ IsTypedValue defs (wrapped dim t) (value.Num (pos n))
  number_refused dim t r is refused = (
    λ yes. absurd (true_false (sym yes)),
    λ typed. sym refused ∙ (is ∙ eq-eqb (length dim) 0 (ap length (number_plain dim t typed).0)),
  )

-- no kinds at all
pub no_kinds : (dim : List Kind) → nat_eq (length dim) 0 ≡ true → dim ≡ []
no_kinds [] e = refl
no_kinds (k ∷ ks) e = let none : length (k ∷ ks) ≡ 0 = eqb-true (length (k ∷ ks)) 0 e in absurd (omega (arith, none))

-- ---- of a variable that is listed, or not

module _ (defs : List SyntaxDef) (ls : List Listed) (x : Name) (n : ℕ) where
  pub HasNumber-none : None ≡ listed_as x ls → IsTrue true ↔ HasNumber defs ls x n
  HasNumber-none e = (λ yes l at. (let bad : None ≡ Some l = e ∙ at in cc), λ h. refl)

  pub HasNumber-some : (l : Listed) → Some l ≡ listed_as x ls → (r : Bool) → (IsTrue r ↔ IsTypedValue defs (type_of l) (value.Num (pos n))) → IsTrue r ↔ HasNumber defs ls x n
  HasNumber-some l e r is = (
    λ yes m at.
        let both : Some l ≡ Some m = e ∙ at in
        let same : l ≡ m = cc in
        subst (λ z. IsTypedValue defs (type_of z) (value.Num (pos n))) same (is.0 yes),
    λ h. is.1 (h l (sym e)),
  )
