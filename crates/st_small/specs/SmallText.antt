-- The text of small specifications, line by line.
use Rattle.std.specs.Prelude.{◌≡◌, ℕ, List, ◌++◌, codes}
use Rattle.std.specs.List.{flat_map}
use Rattle.st_il.specs.declared.small.Small.{Small}
use Rattle.st_il.specs.declared.small.SmallRule.{SmallRule}
use Rattle.st_il.specs.Small.{IsSmall}

-- an atom among the alternatives of a syntax, as ` | A`
abbrev pub alternative_text : List ℕ → List ℕ
alternative_text atom = codes " | " ++ atom

-- the line `syntax x = | A | B ..`
abbrev pub syntax_line : List ℕ → List (List ℕ) → List ℕ
syntax_line syntax atoms =
    codes "syntax " ++ syntax ++ codes " =" ++ flat_map alternative_text atoms ++ codes "\n"

-- the line `relation R: x ~> x`
abbrev pub relation_line : List ℕ → List ℕ → List ℕ
relation_line relation syntax =
    codes "relation " ++ relation ++ codes ": " ++ syntax ++ codes " ~> " ++ syntax ++ codes "\n"

-- a line `rule R/n: A ~> B`
abbrev pub rule_line : List ℕ → SmallRule → List ℕ
rule_line relation rule =
    codes "rule " ++ relation ++ codes "/" ++ rule.name ++ codes ": " ++ rule.from ++ codes " ~> "
    ++ rule.to ++ codes "\n"

-- the text: both first lines, and a line for each rule
abbrev pub text_of : Small → List ℕ
text_of s =
    syntax_line s.syntax s.atoms ++ relation_line s.relation s.syntax
    ++ flat_map (rule_line s.relation) s.rules

-- the bytes are the text of this small specification
pub record IsTextOf (s : Small) (bytes : List ℕ) : Type 0 where
  pub small : IsSmall s
  pub text : bytes ≡ text_of s
