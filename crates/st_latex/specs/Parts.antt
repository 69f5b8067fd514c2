-- How parts are put together, each with the blank before it.
use Rattle.std.specs.Prelude.{ℕ, List, [], ◌∷◌, ◌++◌, map, flat_map, codes}
use Rattle.st_num.specs.Signs.{closing}
use Rattle.st_num.specs.declared.mark.Mark.{Mark}
use Rattle.st_num.specs.declared.mark.Mark.TheVariants.{Caret}
use Rattle.st_el.specs.SourceText.{separated}
use Rattle.st_latex.specs.Tokens.{token, sign_text, sign, atom}

-- a part between two brackets
abbrev pub enclosed : List ℕ → List ℕ → List ℕ → List ℕ
enclosed opening inside closing = token opening ++ inside ++ token closing

-- parts behind each other
abbrev pub joined : List (List ℕ) → List ℕ
joined parts = flat_map (λ part. part) parts

-- parts in parentheses, with commas between them
abbrev pub tuple : List (List ℕ) → List ℕ
tuple parts = enclosed (codes "(") (separated (token (codes ",")) parts) (codes ")")

-- the arguments of a function, which are left out where there are none
abbrev pub arguments : List (List ℕ) → List ℕ
arguments [] = []
arguments (part ∷ parts) = tuple (part ∷ parts)

-- a part in a backquoted bracket
abbrev pub bracketed : Mark → List ℕ → List ℕ
bracketed opening inside = enclosed (sign_text opening) inside (sign_text (closing opening))

-- a sign and its right side; an exponent stands in braces
abbrev pub behind : Mark → List ℕ → List ℕ
behind Caret right = enclosed (codes "^{") right (codes "}")
behind mark right = sign mark ++ right

-- two sides of a sign
abbrev pub sides : List ℕ → Mark → List ℕ → List ℕ
sides left mark right = left ++ behind mark right

-- a field of a record: its name and what stands behind it
abbrev pub field_text : List ℕ × List ℕ → List ℕ
field_text field = atom field.0 ++ field.1

-- the fields of a record in braces, with commas between them
abbrev pub record_text : List (List ℕ × List ℕ) → List ℕ
record_text fields =
    enclosed (codes "\\{") (separated (token (codes ",")) (map field_text fields)) (codes "\\}")
