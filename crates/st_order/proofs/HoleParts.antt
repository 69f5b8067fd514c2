-- What stands at the inputs of a relation, hole by hole.
use Rattle.std.proofs.Common.{◌≡◌, refl, sym, ◌∙◌, ap, ℕ, zero, suc, ◌+◌, ◌<◌, ◌≤◌, Bool, true, false, not, List, [], ◌∷◌, ◌++◌, append_assoc, append-nil, length, get_or, drop, slice_get, Option, Some, None, if◌then◌else◌, add-one, arith}
use Rattle.st_semantics.specs.Directions.{inputs_by, outputs_by}
use Rattle.st_order.specs.inner.HolesOf.{at_holes, is_hole}
use Rattle.st_semantics.proofs.HoleSums.{drop_there}

-- the first of some bits
abbrev first_of : List Bool → Option Bool
first_of [] = None
first_of (b ∷ bs) = Some b

-- and the others
abbrev rest_of : List Bool → List Bool
rest_of [] = []
rest_of (b ∷ bs) = bs

get_there : (mask : List Bool) (i : ℕ) → slice_get mask i ≡ first_of (drop i mask)
get_there [] zero = refl
get_there [] (suc i) = refl
get_there (b ∷ bs) zero = refl
get_there (b ∷ bs) (suc i) = get_there bs i

rest_there : (mask : List Bool) (i : ℕ) → rest_of (drop i mask) ≡ drop (suc i) mask
rest_there [] zero = refl
rest_there [] (suc i) = refl
rest_there (b ∷ bs) zero = refl
rest_there (b ∷ bs) (suc i) = rest_there bs i

at_holes_head : {A : Type 0} (input : Bool) (mask : List Bool) (x : A) (xs : List A)
    → at_holes input mask (x ∷ xs) ≡ (if is_hole input (first_of mask) then x ∷ [] else []) ++ at_holes input (rest_of mask) xs
at_holes_head true [] x xs = refl
at_holes_head false [] x xs = refl
at_holes_head {A} true (b ∷ bs) x xs = at b
  where
    at : (b : Bool) → (if b then x ∷ inputs_by bs xs else inputs_by bs xs) ≡ (if b then x ∷ [] else []) ++ inputs_by bs xs
    at true = refl
    at false = refl
at_holes_head {A} false (b ∷ bs) x xs = at (not b)
  where
    at : (b : Bool) → (if b then x ∷ outputs_by bs xs else outputs_by bs xs) ≡ (if b then x ∷ [] else []) ++ outputs_by bs xs
    at true = refl
    at false = refl

pub at_holes_next : {A : Type 0} (input : Bool) (mask : List Bool) (xs : List A) (i : ℕ) (x : A) (now new whole : List A) → i < length xs → x ≡ get_or xs i x
    → now ++ at_holes input (drop i mask) (drop i xs) ≡ whole → new ≡ now ++ (if is_hole input (slice_get mask i) then x ∷ [] else [])
    → new ++ at_holes input (drop (i + 1) mask) (drop (i + 1) xs) ≡ whole
at_holes_next {A} input mask xs i x now new whole h e inv n =
    let more : List A = at_holes input (drop (i + 1) mask) (drop (i + 1) xs) in
    ap (λ z. z ++ more) (n ∙ ap (λ z. now ++ (if is_hole input z then x ∷ [] else [])) (get_there mask i))
    ∙ append_assoc now (if is_hole input (first_of (drop i mask)) then x ∷ [] else []) more
    ∙ ap (λ z. now ++ ((if is_hole input (first_of (drop i mask)) then x ∷ [] else []) ++ at_holes input z (drop (i + 1) xs)))
    (ap (λ k. drop k mask) (add-one i) ∙ sym (rest_there mask i))
    ∙ ap (λ z. now ++ z) (sym (at_holes_head input (drop i mask) x (drop (i + 1) xs)))
    ∙ ap (λ z. now ++ at_holes input (drop i mask) z) (sym (drop_there xs i x h e)) ∙ inv

-- no members are left
at_holes_none : {A : Type 0} (input : Bool) (mask : List Bool) → at_holes {A = A} input mask [] ≡ []
at_holes_none true [] = refl
at_holes_none true (b ∷ bs) = refl
at_holes_none false [] = refl
at_holes_none false (b ∷ bs) = refl

pub at_holes_end : {A : Type 0} (input : Bool) (mask : List Bool) (xs rest now whole : List A) → rest ≡ [] → now ++ at_holes input mask rest ≡ whole → now ≡ whole
at_holes_end input mask xs rest now whole none inv =
    sym (append-nil now) ∙ ap (λ z. now ++ z) (sym (at_holes_none input mask)) ∙ ap (λ z. now ++ at_holes input mask z) (sym none) ∙ inv

-- no member is behind the last one
pub drop_all : {A : Type 0} (xs : List A) (i : ℕ) → length xs ≤ i → drop i xs ≡ []
drop_all [] zero h = refl
drop_all [] (suc i) h = refl
drop_all (x ∷ xs) zero h = absurd (omega (arith, h))
drop_all (x ∷ xs) (suc i) h = drop_all xs i (omega (arith, h))
