-- An environment with the entries of another one in byte order of their names, each name once.
use Rattle.std.proofs.Common.{◌≡◌, refl, sym, ◌∙◌, ap, subst, List, [], ◌∷◌, map, ◌⊎◌, inl, inr, Bool, true, false, ◌||◌, if◌then◌else◌, Option, Some, bytes_eq, All, arith}
use Rattle.std.specs.Prelude.{AllPairs}
use Rattle.std.specs.Ordering.{is_lt, is_eq}
use Rattle.std.specs.declared.cmp.Ordering.{Ordering}
use Rattle.std.specs.declared.cmp.Ordering.TheVariants as order
use Rattle.std.proofs.lemmas.Map.Text.{is_eq-slice_cmp}
use Rattle.std.proofs.lemmas.List.Elements.{All-nil, All-cons}
use Rattle.std.proofs.lemmas.List.Kept.{AllPairs-cons}
use Rattle.st_il.specs.declared.value.Env.{Env}
use Rattle.st_il.specs.declared.value.Value.{Value}
use Rattle.st_il.specs.Order.{text_cmp}
use Rattle.st_il.specs.Names.{Name, has_name}
use Rattle.st_semantics.specs.Environments.{Entry, lookup, value_in, names_of, IsOrdered}
use Rattle.st_semantics.proofs.InOrder.{before-trans, before-greater, names_equal}
use Rattle.st_semantics.proofs.Names.{bytes-same, bytes-path, or-left, or-right, or-cases, true_false}

-- the names of some entries
abbrev pub names_in : List Entry → List Name
names_in es = map (λ (e : Entry). e.0) es

-- ---- one entry more

-- an entry beside others, by how its name compares with that of the first
abbrev pub put_by : Ordering → Entry → Entry → List Entry → List Entry → List Entry
put_by order.Less e f fs more = e ∷ f ∷ fs
put_by order.Equal e f fs more = e ∷ fs
put_by order.Greater e f fs more = f ∷ more

abbrev pub put : Entry → List Entry → List Entry
put e [] = e ∷ []
put e (f ∷ fs) = put_by (text_cmp e.0 f.0) e f fs (put e fs)

not_greater : (x y : Name) → x ≡ y → text_cmp x y ≡ order.Greater → ⊥
not_greater x y same h =
    let equal : is_eq (text_cmp x y) ≡ true = is_eq-slice_cmp x y ∙ (ap (bytes_eq x) (sym same) ∙ bytes-same x) in
    let bad : is_eq order.Greater ≡ true = ap is_eq (sym h) ∙ equal in cc

-- what is found
found : (x : Name) (e f : Entry) (rest : Option Value) (o : Ordering) → text_cmp e.0 f.0 ≡ o → (b c : Bool) → bytes_eq x e.0 ≡ b → bytes_eq x f.0 ≡ c
    → (o ≡ order.Greater → (if c then Some f.1 else if b then Some e.1 else rest) ≡ (if b then Some e.1 else if c then Some f.1 else rest))
    × (o ≡ order.Equal → (if b then Some e.1 else rest) ≡ (if b then Some e.1 else if c then Some f.1 else rest))
found x e f rest o h true true j k = (
  λ g. absurd (not_greater e.0 f.0 (sym (bytes-path x e.0 j) ∙ bytes-path x f.0 k) (h ∙ g)),
  λ g. refl,
)
found x e f rest o h true false j k = (λ g. refl, λ g. refl)
found x e f rest o h false true j k = (
  λ g. refl,
  λ g. absurd (true_false (sym k ∙ (ap (bytes_eq x) (sym (names_equal e.0 f.0 (h ∙ g))) ∙ j))),
)
found x e f rest o h false false j k = (λ g. refl, λ g. refl)

lookup_put : (x : Name) (e : Entry) (es : List Entry) → lookup x (put e es) ≡ (if bytes_eq x e.0 then Some e.1 else lookup x es)
lookup_put x e [] = refl
lookup_put x e (f ∷ fs) = at (text_cmp e.0 f.0) refl (lookup_put x e fs)
  where
    at : (o : Ordering) → text_cmp e.0 f.0 ≡ o → lookup x (put e fs) ≡ (if bytes_eq x e.0 then Some e.1 else lookup x fs)
        → lookup x (put_by o e f fs (put e fs)) ≡ (if bytes_eq x e.0 then Some e.1 else if bytes_eq x f.0 then Some f.1 else lookup x fs)
    at order.Less h ih = refl
    at order.Equal h ih = (found x e f (lookup x fs) order.Equal h (bytes_eq x e.0) (bytes_eq x f.0) refl refl).1 refl
    at order.Greater h ih =
        ap (λ z. if bytes_eq x f.0 then Some f.1 else z) ih
        ∙ (found x e f (lookup x fs) order.Greater h (bytes_eq x e.0) (bytes_eq x f.0) refl refl).0 refl

-- the names are those of before, and the new one
names_put : (x : Name) (e : Entry) (es : List Entry) → has_name (names_in (put e es)) x ≡ true → (bytes_eq x e.0 ≡ true) ⊎ (has_name (names_in es) x ≡ true)
names_put x e [] h = elim (or-cases (bytes_eq x e.0) false h) [ inl k ↦ inl k | inr bad ↦ cc ]
names_put x e (f ∷ fs) h = at (text_cmp e.0 f.0) h (names_put x e fs)
  where
    at : (o : Ordering) → has_name (names_in (put_by o e f fs (put e fs))) x ≡ true → (has_name (names_in (put e fs)) x ≡ true → (bytes_eq x e.0 ≡ true) ⊎ (has_name (names_in fs) x ≡ true))
        → (bytes_eq x e.0 ≡ true) ⊎ ((bytes_eq x f.0 || has_name (names_in fs) x) ≡ true)
    at order.Less h ih = or-cases (bytes_eq x e.0) (bytes_eq x f.0 || has_name (names_in fs) x) h
    at order.Equal h ih = elim (or-cases (bytes_eq x e.0) (has_name (names_in fs) x) h) [ inl k ↦ inl k | inr k ↦ inr (or-right (bytes_eq x f.0) (has_name (names_in fs) x) k) ]
    at order.Greater h ih = elim (or-cases (bytes_eq x f.0) (has_name (names_in (put e fs)) x) h) [
      | inl k ↦ inr (or-left (bytes_eq x f.0) (has_name (names_in fs) x) k)
      | inr k ↦ elim (ih k) [ inl j ↦ inl j | inr j ↦ inr (or-right (bytes_eq x f.0) (has_name (names_in fs) x) j) ]
    ]

-- ---- in order

-- the name of an entry is before all these
abbrev IsFirst : Entry → List Entry → Type 0
IsFirst e es = (y : Name) → has_name (names_in es) y ≡ true → is_lt (text_cmp e.0 y) ≡ true

abbrev Sorted : List Entry → Type 0
Sorted [] = Unit {0}
Sorted (e ∷ es) = IsFirst e es × Sorted es

first_of_none : (e : Entry) → IsFirst e []
first_of_none e y h = cc

sorted_put : (e : Entry) (es : List Entry) → Sorted es → Sorted (put e es)
sorted_put e [] s = (first_of_none e, tt)
sorted_put e (f ∷ fs) s = at (text_cmp e.0 f.0) refl (sorted_put e fs s.1)
  where
    at : (o : Ordering) → text_cmp e.0 f.0 ≡ o → Sorted (put e fs) → Sorted (put_by o e f fs (put e fs))
    at order.Less h ih = (
      λ y k. elim (or-cases (bytes_eq y f.0) (has_name (names_in fs) y) k) [
        | inl j ↦ subst (λ z. is_lt (text_cmp e.0 z) ≡ true) (sym (bytes-path y f.0 j)) (ap is_lt h)
        | inr j ↦ before-trans e.0 f.0 y (ap is_lt h) (s.0 y j)
      ],
      s,
    )
    at order.Equal h ih = (λ y k. subst (λ z. is_lt (text_cmp z y) ≡ true) (sym (names_equal e.0 f.0 h)) (s.0 y k), s.1)
    at order.Greater h ih = (
      λ y k. elim (names_put y e fs k) [
        | inl j ↦ subst (λ z. is_lt (text_cmp f.0 z) ≡ true) (sym (bytes-path y e.0 j)) (before-greater e.0 f.0 h)
        | inr j ↦ s.0 y j
      ],
      ih,
    )

abbrev pub all_put : List Entry → List Entry
all_put [] = []
all_put (e ∷ es) = put e (all_put es)

all_put-lookup : (x : Name) (es : List Entry) → lookup x (all_put es) ≡ lookup x es
all_put-lookup x [] = refl
all_put-lookup x (e ∷ es) = lookup_put x e (all_put es) ∙ ap (λ z. if bytes_eq x e.0 then Some e.1 else z) (all_put-lookup x es)

all_put-names : (x : Name) (es : List Entry) → has_name (names_in (all_put es)) x ≡ true → has_name (names_in es) x ≡ true
all_put-names x [] h = h
all_put-names x (e ∷ es) h = elim (names_put x e (all_put es) h) [
  | inl k ↦ or-left (bytes_eq x e.0) (has_name (names_in es) x) k
  | inr k ↦ or-right (bytes_eq x e.0) (has_name (names_in es) x) (all_put-names x es k)
]

all_put-sorted : (es : List Entry) → Sorted (all_put es)
all_put-sorted [] = tt
all_put-sorted (e ∷ es) = sorted_put e (all_put es) (all_put-sorted es)

-- what holds of all names holds of each
pub all_names : (P : Name → Type 0) (xs : List Name) → ((x : Name) → has_name xs x ≡ true → P x) → All P xs
all_names P [] h = All-nil P
all_names P (x ∷ xs) h = All-cons P x xs (h x (or-left (bytes_eq x x) (has_name xs x) (bytes-same x))) (all_names P xs (λ y k. h y (or-right (bytes_eq y x) (has_name xs y) k)))

sorted_pairs : (es : List Entry) → Sorted es → AllPairs (λ (x y : Name). is_lt (text_cmp x y) ≡ true) (names_in es)
sorted_pairs [] s = λ i j d h k. absurd (omega (arith, h, k))
sorted_pairs (e ∷ es) s =
    AllPairs-cons (λ (x y : Name). is_lt (text_cmp x y) ≡ true) e.0 (names_in es) (all_names (λ y. is_lt (text_cmp e.0 y) ≡ true) (names_in es) s.0) (sorted_pairs es s.1)

-- ---- environments

abbrev pub in_byte_order : Env → Env
in_byte_order env = record { entries = all_put env.entries }

pub is_in_order : (env : Env) → IsOrdered (in_byte_order env)
is_in_order env = sorted_pairs (all_put env.entries) (all_put-sorted env.entries)

-- it gives each variable the same value
pub in_order_value : (env : Env) (x : Name) → value_in (in_byte_order env) x ≡ value_in env x
in_order_value env x = all_put-lookup x env.entries

-- it has no other names
pub in_order_names : (env : Env) (x : Name) → has_name (names_of (in_byte_order env)) x ≡ true → has_name (names_of env) x ≡ true
in_order_names env x h = all_put-names x env.entries h

-- a name of an environment has a value in it
pub name_has_value : (x : Name) (es : List Entry) → has_name (names_in es) x ≡ true → (v : Value) × (lookup x es ≡ Some v)
name_has_value x [] h = cc
name_has_value x (e ∷ es) h = at (bytes_eq x e.0) h (name_has_value x es)
  where
    at : (b : Bool) → (b || has_name (names_in es) x) ≡ true → (has_name (names_in es) x ≡ true → (v : Value) × (lookup x es ≡ Some v)) → (v : Value) × ((if b then Some e.1 else lookup x es) ≡ Some v)
    at true h ih = (e.1, refl)
    at false h ih = ih h
