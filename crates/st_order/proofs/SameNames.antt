-- What is told of names is the same of lists in which the same names are.
use Rattle.std.proofs.Common.{◌≡◌, refl, sym, ◌∙◌, ap, ap₂, Bool, ◌&&◌, ◌||◌, not, if◌then◌else◌, ℕ, List, [], ◌∷◌, ◌++◌}
use Rattle.std.specs.Borrow.{Bor}
use Rattle.std.specs.List.{list_all, list_any}
use Rattle.st_il.specs.Names.{Name, has_name, all_known, among, without}
use Rattle.st_order.specs.inner.Index.{names_in, SameNames}
use Rattle.st_order.proofs.NamesIn.{has_name_append}

pub SameNames-refl : (xs : List Name) → SameNames xs xs
SameNames-refl xs q = refl

pub SameNames-sym : (xs ys : List Name) → SameNames xs ys → SameNames ys xs
SameNames-sym xs ys s q = sym (s q)

pub SameNames-trans : (xs ys zs : List Name) → SameNames xs ys → SameNames ys zs → SameNames xs zs
SameNames-trans xs ys zs s t q = s q ∙ t q

-- names behind others
pub SameNames-behind : (more xs ys : List Name) → SameNames xs ys → SameNames (more ++ xs) (more ++ ys)
SameNames-behind more xs ys s q = has_name_append more xs q ∙ ap (λ z. has_name more q || z) (s q) ∙ sym (has_name_append more ys q)

pub all_same : {A : Type 0} (f g : A → Bool) → ((x : A) → f x ≡ g x) → (xs : List A) → list_all f xs ≡ list_all g xs
all_same f g h [] = refl
all_same f g h (x ∷ xs) = ap₂ (λ a b. a && b) (h x) (all_same f g h xs)

pub any_same : {A : Type 0} (f g : A → Bool) → ((x : A) → f x ≡ g x) → (xs : List A) → list_any f xs ≡ list_any g xs
any_same f g h [] = refl
any_same f g h (x ∷ xs) = ap₂ (λ a b. a || b) (h x) (any_same f g h xs)

pub known_same : (xs ys : List Name) → SameNames xs ys → (names : List Name) → all_known xs names ≡ all_known ys names
known_same xs ys s names = all_same (has_name xs) (has_name ys) s names

pub among_same : (xs ys : List Name) → SameNames xs ys → (names : List Name) → among xs names ≡ among ys names
among_same xs ys s [] = refl
among_same xs ys s (n ∷ ns) = ap₂ (λ a b. if a then n ∷ b else b) (s n) (among_same xs ys s ns)

pub without_same : (xs ys : List Name) → SameNames xs ys → (names : List Name) → without xs names ≡ without ys names
without_same xs ys s [] = refl
without_same xs ys s (n ∷ ns) = ap₂ (λ a b. if not a then n ∷ b else b) (s n) (without_same xs ys s ns)

-- the names that were added to none, read as a slice
pub names_made : (slice row old : List (Bor (List ℕ))) (names : List Name) → slice ≡ row → names_in row ≡ names_in old ++ names → old ≡ [] → names_in slice ≡ names
names_made slice row old names s e none = ap names_in s ∙ e ∙ ap (λ z. names_in z ++ names) none

-- the set of these
pub SameNames-made : (set : List Name) (slice row old : List (Bor (List ℕ))) (names : List Name) → SameNames set (names_in slice) → slice ≡ row → names_in row ≡ names_in old ++ names → old ≡ [] → SameNames set names
SameNames-made set slice row old names same s e none q = same q ∙ ap (λ z. has_name z q) (names_made slice row old names s e none)
