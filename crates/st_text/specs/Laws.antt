-- What holds of the texts of all trees.
use Rattle.std.specs.Prelude.{◌≡◌, ℕ, List, [], ◌∷◌, ◌++◌}
use Rattle.st_text.specs.Text.{TextTree, TextTrees, text, HasText, TreeText, RowText, FrontText, Ends}

-- a tree has at most one text
abbrev pub OneText : Type 0
OneText =
    (t : TextTree) (bytes others : List ℕ) → TreeText t bytes → TreeText t others → bytes ≡ others

-- a text has at most one tree
abbrev pub OneTree : Type 0
OneTree = (t u : TextTree) (bytes : List ℕ) → TreeText t bytes → TreeText u bytes → t ≡ u

-- bytes are the texts of at most one row of trees
abbrev pub OneRow : Type 0
OneRow = (ts us : TextTrees) (bytes : List ℕ) → RowText ts bytes → RowText us bytes → ts ≡ us

-- at most one tree has its text at the front of bytes
abbrev pub OneFront : Type 0
OneFront =
    (t u : TextTree) (bytes rest other : List ℕ) → FrontText t bytes rest → FrontText u bytes other
    → (t ≡ u) × (rest ≡ other)

-- A text with a space, a closing parenthesis or a line feed behind it does not begin the text of
-- another tree with one of these behind it.
abbrev pub NoFrontOfAnother : Type 0
NoFrontOfAnother =
    (t u : TextTree) (b c : ℕ) (rest : List ℕ) → HasText t → HasText u
    → Ends (b ∷ []) → Ends (c ∷ [])
    → text u ++ c ∷ [] ≡ (text t ++ b ∷ []) ++ rest → (t ≡ u) × (b ≡ c) × (rest ≡ [])
