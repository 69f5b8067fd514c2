-- Names without the primes at their ends, and what stands before each `_`.
use Rattle.std.proofs.Common.{◌≡◌, refl, sym, ap, ◌∙◌, subst, arith, ℕ, ◌+◌, ◌-◌, ◌<◌, ◌≤◌, List, [], ◌∷◌, ◌++◌, length, map, take, append-nil, append_assoc, Bool, true, false, nat_eq, if◌then◌else◌, Option, Some, None}
use Rattle.std.specs.Option.{option_or}
use Rattle.std.specs.Str.{byte}
use Rattle.std.specs.Prelude.{slice_index}
use Rattle.std.proofs.lemmas.Bool.{eqb-true}
use Rattle.std.proofs.lemmas.List.{take_more, map-append}
use Rattle.st_il.specs.declared.ty.Ty.{Ty}
use Rattle.st_elab_table.specs.declared.decls.Decls.{Decls}
use Rattle.st_elab_table.specs.Variables.{before_end, unprimed, fronts, named_type, first_type, type_of_name}
use Rattle.st_elab_rows.specs.inner.Searching.{remaining_at, remaining_before}

pub unprimed_prime : (cs : List ℕ) → unprimed (cs ++ byte "'" ∷ []) ≡ unprimed cs
unprimed_prime [] = refl
unprimed_prime (c ∷ cs) = ap (before_end c) (unprimed_prime cs)

last_kept : (c : ℕ) (b : Bool) → nat_eq c (byte "'") ≡ b → (c ≡ byte "'" → ⊥) → before_end c [] ≡ c ∷ []
last_kept c true e h = absurd (h (eqb-true c (byte "'") e))
last_kept c false e h = ap (λ b. if b then [] else c ∷ []) e

front_kept : (c : ℕ) (cs : List ℕ) → ((front : List ℕ) → c ∷ cs ≡ front ++ byte "'" ∷ [] → ⊥) → before_end c cs ≡ c ∷ cs
front_kept c [] h = last_kept c (nat_eq c (byte "'")) refl (λ e. h [] (ap (λ z. z ∷ []) e))
front_kept c (d ∷ ds) h = refl

pub unprimed_none : (cs : List ℕ) → ((front : List ℕ) → cs ≡ front ++ byte "'" ∷ [] → ⊥) → unprimed cs ≡ cs
unprimed_none [] h = refl
unprimed_none (c ∷ cs) h =
    ap (before_end c) (unprimed_none cs (λ front e. h (c ∷ front) (ap (λ z. c ∷ z) e))) ∙ front_kept c cs h

-- ---- what stands before each `_`

abbrev here : Bool → List ℕ → List (List ℕ)
here b cs = if b then cs ∷ [] else []

here_after : (d : ℕ) (b : Bool) (cs : List ℕ) → map (λ front. d ∷ front) (here b cs) ≡ here b (d ∷ cs)
here_after d true cs = refl
here_after d false cs = refl

fronts_last : (cs : List ℕ) (c : ℕ) → fronts (cs ++ c ∷ []) ≡ here (nat_eq c (byte "_")) cs ++ fronts cs
fronts_last [] c = sym (append-nil (here (nat_eq c (byte "_")) []))
fronts_last (d ∷ cs) c =
    let tail = here (nat_eq d (byte "_")) [] in
    let first = here (nat_eq c (byte "_")) cs in
    ap (λ z. map (λ front. d ∷ front) z ++ tail) (fronts_last cs c)
    ∙ ap (λ z. z ++ tail) (map-append (λ front. d ∷ front) first (fronts cs))
    ∙ ap (λ z. (z ++ map (λ front. d ∷ front) (fronts cs)) ++ tail) (here_after d (nat_eq c (byte "_")) cs)
    ∙ append_assoc (here (nat_eq c (byte "_")) (d ∷ cs)) (map (λ front. d ∷ front) (fronts cs)) tail

-- ---- the first type

or_assoc : {X : Type 0} (a b c : Option X) → option_or (option_or a b) c ≡ option_or a (option_or b c)
or_assoc None b c = refl
or_assoc (Some x) b c = refl

first_append : (D : Decls) (xs ys : List (List ℕ)) → first_type D (xs ++ ys) ≡ option_or (first_type D xs) (first_type D ys)
first_append D [] ys = refl
first_append D (x ∷ xs) ys = ap (option_or (named_type D x)) (first_append D xs ys) ∙ sym (or_assoc (named_type D x) (first_type D xs) (first_type D ys))

unprimed_here : (b : Bool) (cs : List ℕ) → map unprimed (here b cs) ≡ (if b then unprimed cs ∷ [] else [])
unprimed_here true cs = refl
unprimed_here false cs = refl

-- the name that remains at a place comes before those that remain before it
pub first_before : (D : Decls) (at : ℕ) (name : List ℕ) → at < length name
    → first_type D (remaining_before (at + 1) name) ≡ option_or (first_type D (remaining_at at name)) (first_type D (remaining_before at name))
first_before D at name h =
    let c = slice_index name at in
    let b = nat_eq c (byte "_") in
    ap (λ z. first_type D (map unprimed (fronts z))) (take_more name at 0 h)
    ∙ ap (λ z. first_type D (map unprimed z)) (fronts_last (take at name) c)
    ∙ ap (first_type D) (map-append unprimed (here b (take at name)) (fronts (take at name)))
    ∙ first_append D (map unprimed (here b (take at name))) (remaining_before at name)
    ∙ ap (λ z. option_or (first_type D z) (first_type D (remaining_before at name))) (unprimed_here b (take at name))

-- one place back
first_step : (D : Decls) (at : ℕ) (name : List ℕ) → 0 < at → at ≤ length name
    → first_type D (remaining_before at name) ≡ option_or (first_type D (remaining_at (at - 1) name)) (first_type D (remaining_before (at - 1) name))
first_step D at name behind h =
    let e : (at - 1) + 1 ≡ at = omega arith in
    subst (λ z. first_type D (remaining_before z name) ≡ option_or (first_type D (remaining_at (at - 1) name)) (first_type D (remaining_before (at - 1) name))) e
    (first_before D (at - 1) name (omega arith))

-- the type of the name that remains at this place, where no longer name has one
pub found_before : (D : Decls) (at : ℕ) (name : List ℕ) (t : Ty) → named_type D (unprimed name) ≡ None
    → first_type D (map unprimed (fronts name)) ≡ first_type D (remaining_before at name) → 0 < at → at ≤ length name
    → Some t ≡ first_type D (remaining_at (at - 1) name) → Some t ≡ type_of_name D name
found_before D at name t none searched behind h is =
    sym (ap (λ o. option_or o (first_type D (map unprimed (fronts name)))) none ∙ searched ∙ first_step D at name behind h
    ∙ ap (λ o. option_or o (first_type D (remaining_before (at - 1) name))) (sym is))

pub not_before : (D : Decls) (at : ℕ) (name : List ℕ)
    → first_type D (map unprimed (fronts name)) ≡ first_type D (remaining_before at name) → 0 < at → at ≤ length name
    → None ≡ first_type D (remaining_at (at - 1) name) → first_type D (map unprimed (fronts name)) ≡ first_type D (remaining_before (at - 1) name)
not_before D at name searched behind h is =
    searched ∙ first_step D at name behind h ∙ ap (λ o. option_or o (first_type D (remaining_before (at - 1) name))) (sym is)
