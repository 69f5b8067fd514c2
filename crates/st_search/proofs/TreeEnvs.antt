-- The environment of a tree: that of the end of a run, in byte order.
use Rattle.std.proofs.Common.{arith, ◌≡◌, refl, sym, ◌∙◌, ap, subst, Bool, true, false, List, [], ◌∷◌, ◌++◌, append-nil, length, ◌<◌, Some, None}
use Rattle.std.specs.Prelude.{Contains}
use Rattle.std.proofs.lemmas.List.Elements.{Contains-push}
use Rattle.st_il.specs.declared.definition.SyntaxDef.{SyntaxDef}
use Rattle.st_il.specs.declared.value.Env.{Env}
use Rattle.st_il.specs.Names.{Name, has_name}
use Rattle.st_semantics.specs.Environments.{IsOrdered, names_of, value_in}
use Rattle.st_match.specs.inner.Found.{IsExtension, AreExtensions}
use Rattle.st_match.proofs.Assembled.{value_nowhere}
use Rattle.st_eval.proofs.InByteOrder.{in_byte_order, is_in_order, in_order_value, name_has_value}

truth : (b : Bool) → (b ≡ true → ⊥) → b ≡ false
truth true h = absurd (h refl)
truth false h = refl

same_truth : (a b : Bool) → (a ≡ true → b ≡ true) → (b ≡ true → a ≡ true) → a ≡ b
same_truth true b f g = sym (f refl)
same_truth false true f g = g refl
same_truth false false f g = refl

-- a name stands in an environment where a name that has its value stands in another
has_too : (a b : Env) → ((x : Name) → value_in a x ≡ value_in b x) → (x : Name) → has_name (names_of a) x ≡ true → has_name (names_of b) x ≡ true
has_too a b same x h = at (has_name (names_of b) x) refl
  where
    at : (c : Bool) → has_name (names_of b) x ≡ c → c ≡ true
    at true e = refl
    at false e =
        let v = name_has_value x a.entries h in
        let none : value_in b x ≡ None = value_nowhere b.entries x e in
        let some : value_in b x ≡ Some v.0 = sym (same x) ∙ v.1 in absurd (cc)

-- with the same values, the same names stand in it
same_names : (a b : Env) → ((x : Name) → value_in a x ≡ value_in b x) → (x : Name) → has_name (names_of a) x ≡ has_name (names_of b) x
same_names a b same x = same_truth (has_name (names_of a) x) (has_name (names_of b) x) (has_too a b same x) (has_too b a (λ y. sym (same y)) x)

module _ (defs : List SyntaxDef) (env : Env) where
  -- what extends it by nothing is itself in byte order
  pub extends_nothing : (made : Env) → IsExtension defs [] [] [] env made → IsOrdered made × ((x : Name) → value_in made x ≡ value_in env x)
  extends_nothing made e = (e.ordered, λ x. at x (has_name (names_of env) x) refl)
    where
      at : (x : Name) (b : Bool) → has_name (names_of env) x ≡ b → value_in made x ≡ value_in env x
      at x true h = sym (e.extends x h)
      at x false h =
          let none : has_name (names_of made) x ≡ false = e.names x ∙ ap (λ z. has_name z x) (append-nil (names_of env)) ∙ h in
          value_nowhere made.entries x none ∙ sym (value_nowhere env.entries x h)

  itself_extends : IsExtension defs [] [] [] env (in_byte_order env)
  itself_extends = record {
    ordered = is_in_order env;
    names = λ x. same_names (in_byte_order env) env (in_order_value env) x ∙ ap (λ z. has_name z x) (sym (append-nil (names_of env)));
    extends = λ x h. sym (in_order_value env x);
    typed = λ x h l listed. absurd (cc);
    fit = tt;
  }

  pub extension_there : (found : List Env) → AreExtensions defs [] [] [] env found → found ≡ [] → ⊥
  extension_there found are none =
      let there : Contains found (in_byte_order env) = (are.exactly (in_byte_order env)).1 itself_extends in
      let short : there.0 < 0 = subst (λ (z : List Env). there.0 < length z) none there.1 in
      absurd (omega (arith, short))

  -- the last of them
  pub last_extension : (found rest : List Env) (made : Env) → AreExtensions defs [] [] [] env found → found ≡ rest ++ made ∷ [] → IsOrdered made × ((x : Name) → value_in made x ≡ value_in env x)
  last_extension found rest made are is =
      extends_nothing made ((are.exactly made).0 (subst (λ z. Contains z made) (sym is) (Contains-push rest made)))
