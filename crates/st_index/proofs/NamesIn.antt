-- Names in sets, once one is added.
use Rattle.std.proofs.Common.{◌≡◌, refl, sym, ap, ◌∙◌, ℕ, Bool, true, false, eqb, ◌||◌, if◌then◌else◌, List, [], ◌∷◌, ◌++◌, bytes_eq}
use Rattle.std.specs.Borrow.{Bor}
use Rattle.std.specs.Cmp.Lexicographic.{pointwise}
use Rattle.std.specs.List.{list_any}
use Rattle.std.proofs.lemmas.List.Folds.{list_any-append}
use Rattle.std.proofs.lemmas.Slice.Eq.{bytes_eq-Decides}
use Rattle.indexmap.specs.IndexSet.{insert_key}
use Rattle.st_il.specs.Names.{Name, has_name}
use Rattle.st_index.specs.Names.{names_in, SameNames}

same-equal : (p q : Name) → bytes_eq p q ≡ true → p ≡ q
same-equal p q h = (bytes_eq-Decides p q).0 h

-- ---- names that are referred to

pub names_in_append : (keys more : List (Bor (List ℕ))) → names_in (keys ++ more) ≡ names_in keys ++ names_in more
names_in_append [] more = refl
names_in_append (key ∷ keys) more = ap (λ z. key.now ∷ z) (names_in_append keys more)

pub names_in_last : (keys : List (Bor (List ℕ))) (name : Bor (List ℕ)) → names_in (keys ++ name ∷ []) ≡ names_in keys ++ name.now ∷ []
names_in_last keys name = names_in_append keys (name ∷ [])

pub has_name_in : (keys : List (Bor (List ℕ))) (q : Name) → has_name (names_in keys) q ≡ list_any (λ (key : Bor (List ℕ)). bytes_eq q key.now) keys
has_name_in [] q = refl
has_name_in (key ∷ keys) q = ap (λ z. bytes_eq q key.now || z) (has_name_in keys q)

pub has_name_append : (xs ys : List Name) (q : Name) → has_name (xs ++ ys) q ≡ (has_name xs q || has_name ys q)
has_name_append xs ys q = list_any-append (bytes_eq q) xs ys

-- ---- sets

or-absorbed : (a b : Bool) → (b ≡ true → a ≡ true) → a ≡ (a || (b || false))
or-absorbed true b h = refl
or-absorbed false true h = h refl
or-absorbed false false h = refl

-- what an insertion leaves of a set
pub keys-insert : (keys new : List (Bor (List ℕ))) (name : Bor (List ℕ)) → new ≡ insert_key (λ x y. pointwise eqb x.now y.now) keys name
    → SameNames (names_in new) (names_in keys ++ name.now ∷ [])
keys-insert keys new name n q = by (list_any (λ (y : Bor (List ℕ)). pointwise eqb name.now y.now) keys) refl
  where
    by : (b : Bool) → list_any (λ (y : Bor (List ℕ)). pointwise eqb name.now y.now) keys ≡ b → has_name (names_in new) q ≡ has_name (names_in keys ++ name.now ∷ []) q
    by true e =
        ap (λ z. has_name (names_in z) q) (n ∙ ap (λ c. if c then keys else keys ++ name ∷ []) e)
        ∙ or-absorbed (has_name (names_in keys) q) (bytes_eq q name.now)
        (λ h. ap (has_name (names_in keys)) (same-equal q name.now h) ∙ has_name_in keys name.now ∙ e)
        ∙ sym (has_name_append (names_in keys) (name.now ∷ []) q)
    by false e =
        ap (λ z. has_name (names_in z) q) (n ∙ ap (λ c. if c then keys else keys ++ name ∷ []) e)
        ∙ ap (λ z. has_name z q) (names_in_last keys name)

-- names that are added behind others
pub SameNames-append : (xs ys more : List Name) → SameNames xs ys → SameNames (xs ++ more) (ys ++ more)
SameNames-append xs ys more s q =
    has_name_append xs more q ∙ ap (λ z. z || has_name more q) (s q) ∙ sym (has_name_append ys more q)
