-- How the fields of a record are printed, one behind another.
use Rattle.std.proofs.Common.{◌≡◌, ℕ, ◌+◌, ◌<◌, List, [], ◌∷◌, ◌++◌, length, map, flat_map, take, get_or, codes, ap, sym, ◌∙◌, arith}
use Rattle.std.proofs.lemmas.Grind.{common_steps, flat_map-append}
use Rattle.std.proofs.lemmas.List.{take_more, map-append}
use Rattle.st_el.specs.declared.expression.Exp.{Exp}
use Rattle.st_latex.specs.Tokens.{token, atom}
use Rattle.st_latex.specs.Parts.{field_text}
use Rattle.st_latex.specs.Expressions.{latex_exp, latex_field}

-- ---- what two maps and a third make of one element more

next_taken :
    {A : Type 0} (xs : List A) (i : ℕ) (x : A) → i < length xs → x ≡ get_or xs i x → take (i + 1) xs ≡ take i xs ++ x ∷ []
next_taken xs i x h is = take_more xs i x h ∙ ap (λ y. take i xs ++ y ∷ []) (sym is)

one : (g : List ℕ → List ℕ) (z : List ℕ) → flat_map g (z ∷ []) ≡ g z
one g z = grind (arith, common_steps)

one_more :
    {A B : Type 0} (k : A → B) (h : B → List ℕ) (g : List ℕ → List ℕ) (xs : List A) (i : ℕ) (x : A) → i < length xs → x ≡ get_or xs i x
    → flat_map g (map h (map k (take (i + 1) xs))) ≡ flat_map g (map h (map k (take i xs))) ++ g (h (k x))
one_more k h g xs i x within is =
    ap (λ ys. flat_map g (map h (map k ys))) (next_taken xs i x within is)
    ∙ ap (λ ys. flat_map g (map h ys)) (map-append k (take i xs) (x ∷ []))
    ∙ ap (flat_map g) (map-append h (map k (take i xs)) (k x ∷ []))
    ∙ flat_map-append g (map h (map k (take i xs))) (h (k x) ∷ [])
    ∙ ap (λ y. flat_map g (map h (map k (take i xs))) ++ y) (one g (h (k x)))

more_end :
    (old rest new a b whole : List ℕ) → rest ≡ old ++ a → new ≡ rest ++ b → whole ≡ a ++ b → new ≡ old ++ whole
more_end old rest new a b whole r n w = grind (arith, common_steps)

-- the fields behind the first
abbrev pub fields_behind : List (List ℕ × Exp) → List ℕ
fields_behind fields = flat_map (λ next. token (codes ",") ++ next) (map field_text (map latex_field fields))

-- what is printed where one more field is
pub next_field :
    (old rest new : List ℕ) (fields : List (List ℕ × Exp)) (i : ℕ) (field : List ℕ × Exp) → i < length fields → field ≡ get_or fields i field
    → rest ≡ old ++ fields_behind (take i fields) → new ≡ rest ++ (token (codes ",") ++ (atom field.0 ++ latex_exp field.1))
    → new ≡ old ++ fields_behind (take (i + 1) fields)
next_field old rest new fields i field within is r n =
    more_end old rest new (fields_behind (take i fields)) (token (codes ",") ++ (atom field.0 ++ latex_exp field.1)) (fields_behind (take (i + 1) fields))
    r n (one_more latex_field field_text (λ next. token (codes ",") ++ next) fields i field within is)
