-- Two environments of the same listed variables that give them the same values are one.
use Rattle.std.proofs.Common.{◌≡◌, refl, sym, ◌∙◌, ap, ap₂, List, [], ◌∷◌, map, Bool, true, false, if◌then◌else◌, Option, Some, None, bytes_eq}
use Rattle.std.specs.Ordering.{is_lt}
use Rattle.st_il.specs.declared.definition.Listed.{Listed}
use Rattle.st_il.specs.declared.definition.SyntaxDef.{SyntaxDef}
use Rattle.st_il.specs.declared.value.Env.{Env}
use Rattle.st_il.specs.declared.value.Value.{Value}
use Rattle.st_il.specs.Order.{text_cmp}
use Rattle.st_il.specs.Names.{Name, has_name}
use Rattle.st_semantics.specs.Environments.{Entry, lookup, value_in, names_of, listed_names, EnvOk, AgreeOn}
use Rattle.st_semantics.specs.inner.Sorted.{AreSorted}
use Rattle.st_semantics.proofs.Names.{bytes-same, bytes-path, known-within, true_false}
use Rattle.st_semantics.proofs.InOrder.{not_both, sorted_pairs}
use Rattle.st_semantics.proofs.Low.{name_there}

-- the names of some entries
abbrev names_in : List Entry → List Name
names_in es = map (λ (e : Entry). e.0) es

-- each name is before all later ones
abbrev Sorted : List Entry → Type 0
Sorted es = AreSorted (names_in es)

-- what a name does not stand before in a list that it begins is not there
found_later : (e : Entry) (es : List Entry) (x : Name) (v : Value) → Sorted (e ∷ es) → lookup x es ≡ Some v → is_lt (text_cmp e.0 x) ≡ true
found_later e es x v s h = s.0 x (name_there x v es h)

first_nowhere : (e : Entry) (es : List Entry) → Sorted (e ∷ es) → lookup e.0 es ≡ None
first_nowhere e es s = at (lookup e.0 es) refl
  where
    at : (o : Option Value) → lookup e.0 es ≡ o → o ≡ None
    at None h = refl
    at (Some v) h = absurd (let less = found_later e es e.0 v s h in not_both e.0 e.0 less less)

entry_first : (e : Entry) (es : List Entry) → lookup e.0 (e ∷ es) ≡ Some e.1
entry_first e es = ap (λ z. if z then Some e.1 else lookup e.0 es) (bytes-same e.0)

entries_equal : (xs ys : List Entry) → Sorted xs → Sorted ys → ((x : Name) → lookup x xs ≡ lookup x ys) → xs ≡ ys
entries_equal [] [] s t h = refl
entries_equal [] (y ∷ ys) s t h = let bad : None ≡ Some y.1 = h y.0 ∙ entry_first y ys in cc
entries_equal (x ∷ xs) [] s t h = let bad : None ≡ Some x.1 = sym (h x.0) ∙ entry_first x xs in cc
entries_equal (x ∷ xs) (y ∷ ys) s t h = at (bytes_eq x.0 y.0) refl (entries_equal xs ys s.1 t.1)
  where
    skipped : (e : Entry) (es : List Entry) (z : Name) → bytes_eq z e.0 ≡ false → lookup z (e ∷ es) ≡ lookup z es
    skipped e es z n = ap (λ c. if c then Some e.1 else lookup z es) n

    apart : (z w : Name) → bytes_eq z w ≡ false → bytes_eq w z ≡ false
    apart z w n = flip (bytes_eq w z) refl
      where
        flip : (c : Bool) → bytes_eq w z ≡ c → c ≡ false
        flip false k = refl
        flip true k = absurd (true_false (sym (ap (λ u. bytes_eq z u) (bytes-path w z k) ∙ bytes-same z) ∙ n))

    rest : x.0 ≡ y.0 → (z : Name) → lookup z xs ≡ lookup z ys
    rest same z = go (bytes_eq z x.0) refl
      where
        go : (c : Bool) → bytes_eq z x.0 ≡ c → lookup z xs ≡ lookup z ys
        go true k =
            let is : z ≡ x.0 = bytes-path z x.0 k in
            ap (λ u. lookup u xs) is ∙ (first_nowhere x xs s ∙ (sym (first_nowhere y ys t) ∙ ap (λ u. lookup u ys) (sym (is ∙ same))))
        go false k = sym (skipped x xs z k) ∙ (h z ∙ skipped y ys z (ap (bytes_eq z) (sym same) ∙ k))

    at : (b : Bool) → bytes_eq x.0 y.0 ≡ b → (((z : Name) → lookup z xs ≡ lookup z ys) → xs ≡ ys) → x ∷ xs ≡ y ∷ ys
    at true k ih =
        let name : x.0 ≡ y.0 = bytes-path x.0 y.0 k in
        let found : Some x.1 ≡ Some y.1 = sym (entry_first x xs) ∙ (h x.0 ∙ (ap (λ z. lookup z (y ∷ ys)) name ∙ entry_first y ys)) in
        let value : x.1 ≡ y.1 = cc in
        let more : xs ≡ ys = ih (rest name) in
        ap₂ (λ (p : Name) (q : Value). (p, q) ∷ xs) name value ∙ ap (λ z. y ∷ z) more
    at false k ih =
        let first : Some x.1 ≡ lookup x.0 ys = sym (entry_first x xs) ∙ (h x.0 ∙ skipped y ys x.0 k) in
        let second : Some y.1 ≡ lookup y.0 xs = sym (entry_first y ys) ∙ (sym (h y.0) ∙ skipped x xs y.0 (apart x.0 y.0 k)) in
        absurd (not_both x.0 y.0 (found_later x xs y.0 y.1 s (sym second)) (found_later y ys x.0 x.1 t (sym first)))

-- Two environments of the same listed variables that agree on them are one.
pub environments_equal : (defs : List SyntaxDef) (ls : List Listed) (a b : Env) → EnvOk defs ls a → EnvOk defs ls b → AgreeOn (listed_names ls) a b → a ≡ b
environments_equal defs ls a b p q g =
    ap (λ (z : List Entry). let env : Env = record { entries = z } in env) (entries_equal a.entries b.entries (sorted_pairs (names_in a.entries) p.ordered) (sorted_pairs (names_in b.entries) q.ordered) same)
  where
    nowhere : (env : Env) → EnvOk defs ls env → (x : Name) → has_name (listed_names ls) x ≡ false → value_in env x ≡ None
    nowhere env ok x n = at (value_in env x) refl
      where
        at : (o : Option Value) → value_in env x ≡ o → o ≡ None
        at None h = refl
        at (Some v) h = absurd (true_false (sym (known-within (listed_names ls) (names_of env) ok.no_other x (name_there x v env.entries h)) ∙ n))

    same : (x : Name) → lookup x a.entries ≡ lookup x b.entries
    same x = at (has_name (listed_names ls) x) refl
      where
        at : (c : Bool) → has_name (listed_names ls) x ≡ c → value_in a x ≡ value_in b x
        at true k = g x k
        at false k = nowhere a p x k ∙ sym (nowhere b q x k)
