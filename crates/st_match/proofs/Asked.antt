-- What is asked of variables is that they have their types.
use Rattle.std.proofs.Common.{◌≡◌, ◌↔◌, refl, sym, ◌∙◌, ap, subst, List, [], ◌∷◌, inl, inr, Bool, false, Option, Some, None, bytes_eq}
use Rattle.std.specs.Prelude.{IsTrue}
use Rattle.std.specs.List.{All}
use Rattle.std.proofs.lemmas.List.Elements.{All-nil, All-cons, All-head, All-append}
use Rattle.st_il.specs.declared.definition.Listed.{Listed}
use Rattle.st_il.specs.declared.definition.SyntaxDef.{SyntaxDef}
use Rattle.st_il.specs.declared.value.Env.{Env}
use Rattle.st_il.specs.declared.value.Value.{Value}
use Rattle.st_il.specs.Names.{Name, has_name}
use Rattle.st_semantics.specs.Environments.{IsTypedValue, IsSomeTyped, TypedIn, type_of, listed_as, value_in}
use Rattle.st_semantics.proofs.Names.{bytes-same, bytes-path, or-left, or-right, or-cases, true_false}
use Rattle.st_match.specs.declared.types.Asked.{Asked}
use Rattle.st_match.specs.inner.Types.{HasAsked, asked_as, asked_of}
use Rattle.st_match.proofs.Tests.{All-parts}

module _ (defs : List SyntaxDef) (ls : List Listed) (env : Env) where
  first_typed : (x : Name) (o : Option Listed) (l : Listed) → o ≡ Some l → All (HasAsked defs env) (asked_as x o) → IsSomeTyped defs (type_of l) (value_in env x)
  first_typed x None l e h = cc
  first_typed x (Some m) l e h =
      let same : m ≡ l = cc in
      subst (λ z. IsSomeTyped defs (type_of z) (value_in env x)) same (All-head (HasAsked defs env) (record { name = x; ty = type_of m }) [] h)

  -- where they have what is asked, they have their types
  pub asked-typed : (xs : List Name) → All (HasAsked defs env) (asked_of ls xs) → TypedIn defs ls xs env
  asked-typed [] h x k l e = cc
  asked-typed (y ∷ ys) h x k l e =
      let parts = All-parts (HasAsked defs env) (asked_as y (listed_as y ls)) (asked_of ls ys) h in
      elim (or-cases (bytes_eq x y) (has_name ys x) k) [
        | inl same ↦ (let is : x ≡ y = bytes-path x y same in
            subst (λ z. IsSomeTyped defs (type_of l) (value_in env z)) (sym is) (first_typed y (listed_as y ls) l (ap (λ z. listed_as z ls) (sym is) ∙ e) parts.0))
        | inr later ↦ asked-typed ys parts.1 x later l e
      ]

  typed_first : (x : Name) (o : Option Listed) → ((l : Listed) → o ≡ Some l → IsSomeTyped defs (type_of l) (value_in env x)) → All (HasAsked defs env) (asked_as x o)
  typed_first x None h = All-nil (HasAsked defs env)
  typed_first x (Some l) h = All-cons (HasAsked defs env) (record { name = x; ty = type_of l }) [] (h l refl) (All-nil (HasAsked defs env))

  -- where they have their types, they have what is asked
  pub typed-asked : (xs : List Name) → TypedIn defs ls xs env → All (HasAsked defs env) (asked_of ls xs)
  typed-asked [] h = All-nil (HasAsked defs env)
  typed-asked (y ∷ ys) h = All-append (HasAsked defs env) (asked_as y (listed_as y ls)) (asked_of ls ys)
      (typed_first y (listed_as y ls) (λ l e. h y (or-left (bytes_eq y y) (has_name ys y) (bytes-same y)) l e))
      (typed-asked ys (λ x k l e. h x (or-right (bytes_eq x y) (has_name ys x) k) l e))

-- ---- one variable

pub asked-none : (defs : List SyntaxDef) (env : Env) (asked : Asked) → None ≡ value_in env asked.name → IsTrue false ↔ HasAsked defs env asked
asked-none defs env asked is = (λ f. absurd (true_false (sym f)), λ h. absurd (subst (IsSomeTyped defs asked.ty) (sym is) h))

pub asked-some : (defs : List SyntaxDef) (env : Env) (asked : Asked) (v : Value) (r : Bool) → Some v ≡ value_in env asked.name → (IsTrue r ↔ IsTypedValue defs asked.ty v) → IsTrue r ↔ HasAsked defs env asked
asked-some defs env asked v r is h = (λ e. subst (IsSomeTyped defs asked.ty) is (h.0 e), λ a. h.1 (subst (IsSomeTyped defs asked.ty) (sym is) a))
