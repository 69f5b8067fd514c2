-- What is taken off, and put back without a name.
use Rattle.std.proofs.Common.{◌≡◌, ℕ, ◌+◌, List, [], ◌∷◌, ◌++◌, take, drop, reverse, refl, sym, ap, ◌∙◌, zero, suc, add-one, Option, Some, None, MatchOption}
use Rattle.std.proofs.lemmas.List.{reverse-append, map-append, take-map, drop-map}
use Rattle.st_num.specs.declared.token.Token.{Token}
use Rattle.st_parse_builder.specs.Variables.{Occurrence, occurrence, occurrences, without}

-- ---- taken off

last_first : {A : Type 0} (xs ys : List A) (y : A) → xs ≡ ys ++ y ∷ [] → reverse xs ≡ y ∷ reverse ys
last_first xs ys y e = ap reverse e ∙ reverse-append ys (y ∷ [])

-- what is left of a row whose end was taken off
pub parts_left : (name : List ℕ) (seen front behind : List Token) (from : ℕ) → front ≡ take from seen → reverse behind ≡ drop from seen
    → occurrences front ++ without (name ∷ []) (occurrences (reverse behind))
    ≡ take from (occurrences seen) ++ without (name ∷ []) (drop from (occurrences seen))
parts_left name seen front behind from e f =
    ap (λ xs. occurrences xs ++ without (name ∷ []) (occurrences (reverse behind))) e
    ∙ ap (λ xs. occurrences (take from seen) ++ without (name ∷ []) (occurrences xs)) f
    ∙ ap (λ os. os ++ without (name ∷ []) (occurrences (drop from seen))) (sym (take-map occurrence from seen))
    ∙ ap (λ os. take from (occurrences seen) ++ without (name ∷ []) os) (sym (drop-map occurrence from seen))

-- the end of a row is put back behind what is left of the rest
pub parts_back : (f : List Occurrence → List Occurrence) (seen front next after count : List Token) (to : ℕ) → front ≡ take to seen → reverse count ≡ drop to seen
    → occurrences next ≡ f (occurrences front) → after ≡ next ++ reverse count
    → occurrences after ≡ f (take to (occurrences seen)) ++ drop to (occurrences seen)
parts_back f seen front next after count to e g h a =
    ap occurrences a ∙ map-append occurrence next (reverse count)
    ∙ ap (λ os. os ++ occurrences (reverse count)) (h ∙ ap (λ xs. f (occurrences xs)) e ∙ ap f (sym (take-map occurrence to seen)))
    ∙ ap (λ xs. f (take to (occurrences seen)) ++ xs) (ap occurrences g ∙ sym (drop-map occurrence to seen))

-- ---- dropped

all_none : {A : Type 0} (i : ℕ) → drop {A = A} i [] ≡ []
all_none zero = refl
all_none (suc i) = refl

tail_drop : {A : Type 0} (xs ys : List A) (i : ℕ) (y : A) → drop i xs ≡ y ∷ ys → drop (suc i) xs ≡ ys
tail_drop [] ys i y e = let never : [] ≡ y ∷ ys = sym (all_none i) ∙ e in absurd (cc)
tail_drop (x ∷ xs) ys zero y e = let is : xs ≡ ys = cc in is
tail_drop (x ∷ xs) ys (suc i) y e = tail_drop xs ys i y e

none_left : {A : Type 0} (xs : List A) (i : ℕ) → drop i xs ≡ [] → drop (suc i) xs ≡ []
none_left [] i e = refl
none_left (x ∷ xs) zero e = absurd (cc)
none_left (x ∷ xs) (suc i) e = none_left xs i e

-- one more is dropped
pub one_dropped : {A : Type 0} (o : Option A) (xs old new : List A) (i : ℕ) → reverse old ≡ drop i xs
    → MatchOption o ((old ≡ []) × (new ≡ [])) (λ x. old ≡ new ++ x ∷ []) → reverse new ≡ drop (i + 1) xs
one_dropped None xs old new i e h =
    ap reverse h.1 ∙ sym (none_left xs i (sym e ∙ ap reverse h.0)) ∙ ap (λ n. drop n xs) (sym (add-one i))
one_dropped (Some x) xs old new i e h =
    sym (tail_drop xs (reverse new) i x (sym e ∙ last_first old new x h)) ∙ ap (λ n. drop n xs) (sym (add-one i))
