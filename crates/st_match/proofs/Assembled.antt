-- What an environment has that is put together from two.
use Rattle.std.proofs.Common.{◌≡◌, refl, sym, ◌∙◌, ap, ap₂, subst, List, [], ◌∷◌, map, Bool, true, false, ◌||◌, if◌then◌else◌, Option, Some, None, bytes_eq}
use Rattle.st_il.specs.declared.value.Env.{Env}
use Rattle.st_il.specs.declared.value.Value.{Value}
use Rattle.st_il.specs.Names.{Name, has_name}
use Rattle.st_semantics.specs.Environments.{Entry, lookup}
use Rattle.st_semantics.proofs.Names.{bytes-same, bytes-path, or-left, or-right, true_false}
use Rattle.st_semantics.proofs.Low.{name_there}
use Rattle.st_match.specs.inner.Assembly.{value_of_either, entry_before, entries_of}
use Rattle.st_semantics.specs.inner.Sorted.{AreSorted}
use Rattle.st_semantics.proofs.InOrder.{nowhere}

-- the names of entries
abbrev pub names_in : List Entry → List Name
names_in es = map (λ (e : Entry). e.0) es

-- a name that is there has a value
pub value_there : (es : List Entry) (x : Name) → has_name (names_in es) x ≡ true → (v : Value) × (lookup x es ≡ Some v)
value_there [] x h = cc
value_there (e ∷ es) x h = at (bytes_eq x e.0) h (value_there es x)
  where
    at : (b : Bool) → (b || has_name (names_in es) x) ≡ true → (has_name (names_in es) x ≡ true → (v : Value) × (lookup x es ≡ Some v)) → (v : Value) × ((if b then Some e.1 else lookup x es) ≡ Some v)
    at true h ih = (e.1, refl)
    at false h ih = ih h

-- a name that is not there has none
pub value_nowhere : (es : List Entry) (x : Name) → has_name (names_in es) x ≡ false → lookup x es ≡ None
value_nowhere es x h = at (lookup x es) refl
  where
    at : (o : Option Value) → lookup x es ≡ o → o ≡ None
    at None k = refl
    at (Some v) k = absurd (true_false (sym (name_there x v es k) ∙ h))

module _ (env other : Env) where
  -- the first entry, and the others
  before-parts : (x : Name) (o : Option Value) (m : Option (List Entry)) (es : List Entry) → entry_before x o m ≡ Some es → (v : Value) × (fs : List Entry) × (o ≡ Some v) × (m ≡ Some fs) × (es ≡ (x, v) ∷ fs)
  before-parts x None m es e = cc
  before-parts x (Some v) None es e = cc
  before-parts x (Some v) (Some fs) es e = let is : (x, v) ∷ fs ≡ es = cc in (v, fs, refl, refl, sym is)

  pub entries-names : (xs : List Name) (es : List Entry) → entries_of xs env other ≡ Some es → names_in es ≡ xs
  entries-names [] es e = let is : [] ≡ es = cc in ap names_in (sym is)
  entries-names (x ∷ xs) es e =
      let p = before-parts x (value_of_either env other x) (entries_of xs env other) es e in
      ap names_in p.4 ∙ ap (λ z. x ∷ z) (entries-names xs p.1 p.3)

  pub entries-lookup : (xs : List Name) (es : List Entry) → entries_of xs env other ≡ Some es → (y : Name) → has_name xs y ≡ true → lookup y es ≡ value_of_either env other y
  entries-lookup [] es e y h = cc
  entries-lookup (x ∷ xs) es e y h =
      let p = before-parts x (value_of_either env other x) (entries_of xs env other) es e in
      ap (lookup y) p.4 ∙ at p.0 p.1 p.2 (bytes_eq y x) refl h (entries-lookup xs p.1 p.3 y)
    where
      at : (v : Value) (fs : List Entry) → value_of_either env other x ≡ Some v → (b : Bool) → bytes_eq y x ≡ b → (b || has_name xs y) ≡ true → (has_name xs y ≡ true → lookup y fs ≡ value_of_either env other y)
          → (if b then Some v else lookup y fs) ≡ value_of_either env other y
      at v fs is true k h ih = sym is ∙ ap (value_of_either env other) (sym (bytes-path y x k))
      at v fs is false k h ih = ih h

  -- Entries of these names are what is put together, where they have the values that come first.
  pub entries-are : (xs : List Name) (es : List Entry) → names_in es ≡ xs → AreSorted xs → ((y : Name) → has_name xs y ≡ true → value_of_either env other y ≡ lookup y es) → entries_of xs env other ≡ Some es
  entries-are [] [] n s h = refl
  entries-are [] (e ∷ es) n s h = cc
  entries-are (x ∷ xs) [] n s h = cc
  entries-are (x ∷ xs) (e ∷ es) n s h =
      let first : e.0 ≡ x = cc in
      let others : names_in es ≡ xs = cc in
      let here : value_of_either env other x ≡ Some e.1 = h x (or-left (bytes_eq x x) (has_name xs x) (bytes-same x)) ∙ ap (λ z. if z then Some e.1 else lookup x es) (ap (bytes_eq x) first ∙ bytes-same x) in
      let rest = entries-are xs es others s.1 (λ y k. h y (or-right (bytes_eq y x) (has_name xs y) k) ∙ later first y k) in
      ap₂ (entry_before x) here rest ∙ ap (λ z. Some ((z, e.1) ∷ es)) (sym first)
    where
      later : e.0 ≡ x → (y : Name) → has_name xs y ≡ true → lookup y (e ∷ es) ≡ lookup y es
      later first y k = at (bytes_eq y e.0) refl
        where
          at : (b : Bool) → bytes_eq y e.0 ≡ b → lookup y (e ∷ es) ≡ lookup y es
          at true j = absurd (true_false (sym (subst (λ z. has_name xs z ≡ true) (bytes-path y e.0 j ∙ first) k) ∙ nowhere x xs s))
          at false j = ap (λ z. if z then Some e.1 else lookup y es) j
