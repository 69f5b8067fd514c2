-- How the fields of a record are printed.
use Rattle.std.proofs.Common.{◌≡◌, ℕ, ◌≤◌, List, ◌∷◌, ◌++◌, length, map, flat_map, take, codes, ap, sym, ◌∙◌, arith}
use Rattle.std.proofs.lemmas.Grind.{common_steps}
use Rattle.st_el.specs.declared.expression.Exp.{Exp}
use Rattle.st_el.specs.declared.expression.Node.{Node}
use Rattle.st_el.specs.declared.expression.Node.TheVariants.{Fields, outs-Fields}
use Rattle.st_el.specs.declared.context.Around.{Around}
use Rattle.st_el.specs.declared.context.Around.TheVariants.{Brackets}
use Rattle.st_el.specs.declared.context.Context.{Context}
use Rattle.st_el.specs.Contexts.{whole}
use Rattle.st_el.specs.SourceText.{front, opened, parts_printed, printed, printed_field, field_text, fields_text}

-- the text of a record
pub fields-front :
    (around : Around) (node : Node) (fields : List (List ℕ × Exp)) → node ≡ Fields fields
    → front around (opened node) ≡ codes "{" ++ fields_text (map printed_field fields) ++ codes "}"
fields-front around node fields is =
    ap (λ n. front around (opened n)) is ∙ ap (λ level. front around (parts_printed level)) (outs-Fields fields)

-- the fields behind the first
abbrev pub fields_behind : List (List ℕ × Exp) → List ℕ
fields_behind others = flat_map (λ next. codes ", " ++ next) (map field_text (map printed_field others))

fields-whole :
    (old name text behind : List ℕ)
    → (((old ++ (codes "{" ++ name ++ codes " ")) ++ text) ++ behind) ++ codes "}"
    ≡ old ++ (codes "{" ++ ((name ++ codes " " ++ text) ++ behind) ++ codes "}")
fields-whole old name text behind = grind (arith, common_steps)

take-all : {A : Type 0} (xs : List A) (i : ℕ) → length xs ≤ i → take i xs ≡ xs
take-all xs i h = grind (arith, common_steps)

-- what a loop over the fields behind the first has printed in the end
pub fields-end :
    (old label first rest new : List ℕ) (fields others : List (List ℕ × Exp)) (field : List ℕ × Exp) (context : Context) (i : ℕ)
    → fields ≡ field ∷ others
    → label ≡ old ++ (codes "{" ++ field.0 ++ codes " ")
    → context ≡ whole Brackets
    → first ≡ label ++ (printed field.1).at context
    → rest ≡ first ++ fields_behind (take i others)
    → length others ≤ i
    → new ≡ rest ++ codes "}"
    → new ≡ old ++ (codes "{" ++ fields_text (map printed_field fields) ++ codes "}")
fields-end old label first rest new fields others field context i e l p f r h n =
    n ∙ ap (λ x. x ++ codes "}") (r ∙ ap (λ x. x ++ fields_behind (take i others)) (f ∙ ap (λ x. label ++ (printed field.1).at x) p ∙ ap (λ x. x ++ (printed field.1).at (whole Brackets)) l))
    ∙ ap (λ xs. (((old ++ (codes "{" ++ field.0 ++ codes " ")) ++ (printed field.1).at (whole Brackets)) ++ fields_behind xs) ++ codes "}") (take-all others i h)
    ∙ fields-whole old field.0 ((printed field.1).at (whole Brackets)) (fields_behind others)
    ∙ ap (λ xs. old ++ (codes "{" ++ fields_text (map printed_field xs) ++ codes "}")) (sym e)
