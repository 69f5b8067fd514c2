-- Names: primes at the end, and parts before a `_`.
use Rattle.std.proofs.Common.{◌≡◌, ℕ, ◌+◌, ◌<◌, List, [], ◌∷◌, ◌++◌, length, take, drop, get_or, Bool, true, false, not, ◌&&◌, ◌||◌, ◌==◌, if◌then◌else◌, refl, sym, ap, ◌∙◌}
use Rattle.std.specs.List.{list_any}
use Rattle.std.proofs.lemmas.List.Folds.{list_any-append}
use Rattle.std.proofs.lemmas.List.{take_more, drop_more}
use Rattle.st_grammar.specs.Terminals.{drop_primes, is_named, is_declared}

abbrev pub no_prime : ℕ → Bool
no_prime c = not (c == 39)

pub or_false : (b : Bool) → b || false ≡ b
or_false true = refl
or_false false = refl

pub or_true : (b : Bool) → b || true ≡ true
or_true true = refl
or_true false = refl

pub primes_end : (xs : List ℕ) → drop_primes (xs ++ 39 ∷ []) ≡ drop_primes xs
primes_end [] = refl
primes_end (b ∷ xs) =
    ap (λ c. if c then b ∷ drop_primes (xs ++ 39 ∷ []) else []) (list_any-append no_prime (b ∷ xs) (39 ∷ []) ∙ or_false (list_any no_prime (b ∷ xs)))
    ∙ ap (λ ys. if list_any no_prime (b ∷ xs) then b ∷ ys else []) (primes_end xs)

pub other_end : (xs : List ℕ) (b : ℕ) → b == 39 ≡ false → drop_primes (xs ++ b ∷ []) ≡ xs ++ b ∷ []
other_end [] b e = ap (λ c. if c || false then b ∷ [] else []) (ap not e)
other_end (x ∷ xs) b e =
    ap (λ c. if c then x ∷ drop_primes (xs ++ b ∷ []) else []) (list_any-append no_prime (x ∷ xs) (b ∷ []) ∙ ap (λ c. list_any no_prime (x ∷ xs) || (c || false)) (ap not e) ∙ or_true (list_any no_prime (x ∷ xs)))
    ∙ ap (λ ys. x ∷ ys) (other_end xs b e)

pub no_primes : drop_primes [] ≡ []
no_primes = refl

-- one more byte of a name
pub declared_more : (names : List (List ℕ)) (name : List ℕ) (i d : ℕ) → i < length name
    → is_declared names (take i name) (drop i name) ≡ ((get_or name i d == 95 && is_named names (take i name)) || is_declared names (take (i + 1) name) (drop (i + 1) name))
declared_more names name i d h =
    ap (is_declared names (take i name)) (drop_more name i d h)
    ∙ ap (λ front. (get_or name i d == 95 && is_named names (take i name)) || is_declared names front (drop (i + 1) name)) (sym (take_more name i d h))
