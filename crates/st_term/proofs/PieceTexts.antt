-- Texts one behind another, and what stands in a hole or in parentheses.
use Rattle.std.proofs.Common.{◌≡◌, refl, sym, ◌∙◌, ap, ap₂, ℕ, ◌+◌, ◌<◌, suc, List, [], ◌∷◌, ◌++◌, map, flat_map, drop, length, get_or, codes, Bool, true, false, Some, append_assoc, append-nil, arith}
use Rattle.std.proofs.Math.Seq.{drop-cons}
use Rattle.std.proofs.lemmas.List.{length-map, get_or-map}
use Rattle.std.specs.Prelude.{Option, if◌then◌else◌, ◌==◌}
use Rattle.st_il.specs.declared.value.Value.{Value}
use Rattle.st_term.specs.declared.print.Progress.{Progress}
use Rattle.st_term.specs.TermText.{Piece, hole, separated, wrapped, list_text, shown, element_text, hole_place, hole_texts, pieces_texts}
use Rattle.st_term.specs.inner.Pieces.{gap, continued, is_behind, FollowsOn, rest_text, Goes}

-- ---- spaces

is_behind-true : (ts : List (List ℕ)) → is_behind true ts ≡ true
is_behind-true [] = refl
is_behind-true (t ∷ ts) = refl

pub continued-append : (b : Bool) (ts us : List (List ℕ)) → continued b (ts ++ us) ≡ continued b ts ++ continued (is_behind b ts) us
continued-append b [] us = refl
continued-append b (t ∷ ts) us =
    ap (λ z. gap b ++ (t ++ z)) (continued-append true ts us ∙ ap (λ c. continued true ts ++ continued c us) (is_behind-true ts))
    ∙ ap (λ z. gap b ++ z) (sym (append_assoc t (continued true ts) (continued true us)))
    ∙ sym (append_assoc (gap b) (t ++ continued true ts) (continued true us))

continued-spaces : (ts : List (List ℕ)) → continued true ts ≡ flat_map (λ next. codes " " ++ next) ts
continued-spaces [] = refl
continued-spaces (t ∷ ts) = ap (λ z. codes " " ++ (t ++ z)) (continued-spaces ts) ∙ sym (append_assoc (codes " ") t (flat_map (λ next. codes " " ++ next) ts))

pub continued-separated : (ts : List (List ℕ)) → continued false ts ≡ separated (codes " ") ts
continued-separated [] = refl
continued-separated (t ∷ ts) = ap (λ z. t ++ z) (continued-spaces ts)

-- ---- a hole

next_used : (vs : List Value) (n : ℕ) (v : Value) → n < length vs → v ≡ get_or vs n v → drop n (map shown vs) ≡ shown v ∷ drop (n + 1) (map shown vs)
next_used vs n v h is =
    let long : n < length (map shown vs) = omega (arith, h, length-map vs shown) in
    let more : suc n ≡ n + 1 = omega arith in
    drop-cons (map shown vs) n (shown v) long
    ∙ ap₂ (λ x xs. x ∷ xs) (get_or-map shown vs n v (shown v) h ∙ ap shown (sym is)) (ap (λ k. drop k (map shown vs)) more)

pub hole_with : (before behind : Option Piece) (vs : List Value) (v : Value) (p next : Progress) (old new : List ℕ) → p.used < length vs → v ≡ get_or vs p.used v
    → next.used ≡ p.used + 1 → FollowsOn p.behind next.behind old new (hole_texts (hole_place before behind) (shown v))
    → Goes before hole behind (map shown vs) p next old new
hole_with before behind vs v p next old new h is more f = λ ps first_is.
    let ts = hole_texts (hole_place before behind) (shown v) in
    let us = pieces_texts (Some hole) ps (drop (p.used + 1) (map shown vs)) in
    let left : rest_text (Some hole) ps (map shown vs) next ≡ continued (is_behind p.behind ts) us =
    ap₂ (λ b n. continued b (pieces_texts (Some hole) ps (drop n (map shown vs)))) f.then more in
    let right : rest_text before (hole ∷ ps) (map shown vs) p ≡ continued p.behind (ts ++ us) =
    ap (λ z. continued p.behind (pieces_texts before (hole ∷ ps) z)) (next_used vs p.used v h is)
    ∙ ap (λ b. continued p.behind (hole_texts (hole_place before b) (shown v) ++ us)) first_is in
    ap₂ (λ a b. a ++ b) f.written left
    ∙ append_assoc old (continued p.behind ts) (continued (is_behind p.behind ts) us)
    ∙ ap (λ z. old ++ z) (sym (right ∙ continued-append p.behind ts us))

-- ---- parentheses

joined : (b : Bool) (old t : List ℕ) → ((old ++ (if b then codes "(" else [])) ++ t) ++ (if b then codes ")" else []) ≡ old ++ wrapped b t
joined true old t = append_assoc (old ++ codes "(") t (codes ")") ∙ append_assoc old (codes "(") (t ++ codes ")")
joined false old t = append-nil ((old ++ []) ++ t) ∙ ap (λ z. z ++ t) (append-nil old)

-- what was written between parentheses, where they are needed
pub wrapped_text : (b c d : Bool) (old begun mid t u : List ℕ) → c ≡ b → d ≡ b → begun ≡ old ++ (if c then codes "(" else []) → mid ≡ begun ++ t → t ≡ u
    → mid ++ (if d then codes ")" else []) ≡ old ++ wrapped b u
wrapped_text b c d old begun mid t u p q f g h =
    ap₂ (λ x y. x ++ (if y then codes ")" else [])) (g ∙ ap₂ (λ x y. x ++ y) (f ∙ ap (λ y. old ++ (if y then codes "(" else [])) p) h) q
    ∙ joined b old u

pub list_some : (vs : List Value) → false ≡ (length vs == 0) → continued false (map element_text (map shown vs)) ≡ list_text (map element_text (map shown vs))
list_some [] some = cc
list_some (v ∷ vs) some = continued-separated (map element_text (map shown (v ∷ vs)))
