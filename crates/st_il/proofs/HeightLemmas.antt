-- The heights of records.
use Rattle.std.proofs.Common.{rules, ◌≡◌, ◌≢◌, refl, sym, ◌∙◌, ap, ℕ, ◌+◌, ◌-◌, List, [], ◌∷◌, map, nat_le, Bool, arith}
use Rattle.std.proofs.lemmas.Bool.Decides.{nat_tests}
use Rattle.st_il.specs.declared.value.Value.{Value, the_lemmas}
use Rattle.st_il.specs.declared.value.Value.TheVariants as v
use Rattle.st_il.specs.Height.{height, highest, field_heights}

heights-map : (fields : List (List ℕ × Value)) → map (λ (field : List ℕ × ℕ). field.1) (map (λ (field : List ℕ × Value). (field.0, height field.1)) fields) ≡ field_heights fields
heights-map [] = refl
heights-map (field ∷ fields) = ap (λ hs. height field.1 ∷ hs) (heights-map fields)

height-levels : (fields : List (List ℕ × Value)) → height (v.Fields fields) ≡ 1 + highest (map (λ (field : List ℕ × ℕ). field.1) (map (λ (field : List ℕ × Value). (field.0, height field.1)) fields))
height-levels fields = search (rules, the_lemmas)

pub height-Fields : (fields : List (List ℕ × Value)) → height (v.Fields fields) ≡ 1 + highest (field_heights fields)
height-Fields fields = height-levels fields ∙ ap (λ hs. 1 + highest hs) (heights-map fields)

one_more : (h limit : ℕ) → limit ≢ 0 → nat_le h (limit - 1) ≡ nat_le (1 + h) limit
one_more h limit n = grind (arith, nat_tests)

-- a record is within a limit where its fields are within one less
pub fields-within : (value : Value) (fields : List (List ℕ × Value)) (limit : ℕ) (b : Bool) → limit ≢ 0 → value ≡ v.Fields fields → b ≡ nat_le (highest (field_heights fields)) (limit - 1) → b ≡ nat_le (height value) limit
fields-within value fields limit b n e h =
    h ∙ one_more (highest (field_heights fields)) limit n ∙ ap (λ k. nat_le k limit) (sym (ap height e ∙ height-Fields fields))
