-- As many members as the holes of two parts, one behind the other.
use Rattle.std.proofs.Common.{◌≡◌, sym, ◌∙◌, ap, ℕ, zero, suc, ◌+◌, ◌<◌, Bool, List, [], ◌∷◌, ◌++◌, append_assoc, length, get_or, drop, map, sum, add-one, arith, rules}
use Rattle.std.proofs.Math.ListN.{replicate}
use Rattle.std.proofs.lemmas.List.Sums.{sum_by-cons}
use Rattle.st_num.specs.declared.mark.Mark.{Mark}
use Rattle.st_il.specs.declared.template.Template.{Template, the_lemmas}
use Rattle.st_il.specs.declared.template.Template.TheVariants as template
use Rattle.st_il.specs.Template.{holes}
use Rattle.std.proofs.lemmas.List.{replicate-append-replicate}

pub holes_joined : (mask : List Bool) (n m : ℕ) (input : Bool) → (mask ++ replicate n input) ++ replicate m input ≡ mask ++ replicate (n + m) input
holes_joined mask n m input =
    append_assoc mask (replicate n input) (replicate m input) ∙ ap (λ z. mask ++ z) (replicate-append-replicate n m input)

-- ---- the holes of a notation with a sign

holes_infix : (left right : Template) (sign : Mark) → holes (template.Infix left sign right) ≡ holes left + holes right
holes_infix left right sign = search (rules, the_lemmas)

pub holes_divided : (t left right : Template) (sign : Mark) → t ≡ template.Infix left sign right → holes t ≡ holes left + holes right
holes_divided t left right sign is = ap holes is ∙ holes_infix left right sign

-- ---- the holes of several

drop_read : {A : Type 0} (xs : List A) (i : ℕ) (x : A) → i < length xs → x ≡ get_or xs i x → drop i xs ≡ x ∷ drop (suc i) xs
drop_read [] i x h e = absurd (omega arith)
drop_read (y ∷ ys) zero x h e = ap (λ z. z ∷ ys) (sym e)
drop_read (y ∷ ys) (suc i) x h e = drop_read ys i x (omega arith) e

-- what stands from a place on, where this is read there
pub drop_there : {A : Type 0} (xs : List A) (i : ℕ) (x : A) → i < length xs → x ≡ get_or xs i x → drop i xs ≡ x ∷ drop (i + 1) xs
drop_there xs i x h e = drop_read xs i x h e ∙ ap (λ n. x ∷ drop n xs) (sym (add-one i))

pub holes_step : (parts : List Template) (i : ℕ) (part : Template) (input : Bool) (mask now whole : List Bool) → i < length parts → part ≡ get_or parts i part
    → mask ++ replicate (sum (map holes (drop i parts))) input ≡ whole → now ≡ mask ++ replicate (holes part) input
    → now ++ replicate (sum (map holes (drop (i + 1) parts))) input ≡ whole
holes_step parts i part input mask now whole h e inv n =
    ap (λ z. z ++ replicate (sum (map holes (drop (i + 1) parts))) input) n
    ∙ holes_joined mask (holes part) (sum (map holes (drop (i + 1) parts))) input
    ∙ ap (λ n. mask ++ replicate n input) (sym (sum_by-cons (λ n. n) (holes part) (map holes (drop (i + 1) parts))))
    ∙ ap (λ ps. mask ++ replicate (sum (map holes ps)) input) (sym (drop_there parts i part h e)) ∙ inv
