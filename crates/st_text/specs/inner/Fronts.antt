-- What stands at the front of bytes, with at most `limit` parentheses open.
use Rattle.std.specs.Prelude.{◌≡◌, ℕ, ◌≤◌, List, [], ◌∷◌, ◌++◌, flat_map, true, false, ◌⊎◌, ◌||◌, ◌==◌, if◌then◌else◌, Result}
use Rattle.std.specs.Borrow.{Bor}
use Rattle.std.specs.List.{All}
use Rattle.st_num.specs.Texts.{IsTextByte}
use Rattle.st_text.specs.declared.fault.TextFault.{TextFault}
use Rattle.st_text.specs.declared.tree.TextTree as program
use Rattle.st_text.specs.Text.{TextTree, TextTrees, escaped, text, row_text, depth, row_depth, is_word_byte, IsSpelled, AreSpelled, Ends}
use Rattle.st_text.specs.Trees.{tree_of, trees_of}
use Rattle.st_text.specs.Reading.{Answers}

-- the text of this tree is at the front of the bytes
pub record Reads (limit : ℕ) (bytes : List ℕ) (t : TextTree) (rest : List ℕ) : Type 0 where
  pub spelled : IsSpelled t
  pub shallow : depth t ≤ limit
  pub is : bytes ≡ text t ++ rest
  pub ends : Ends rest

-- nothing, a closing parenthesis or a line feed: what stands behind a whole row
abbrev pub Closes : List ℕ → Type 0
Closes [] = Unit {0}
Closes (b ∷ rest) = (b ≡ 41) ⊎ (b ≡ 10)

-- the text of this row is at the front of the bytes
pub record ReadsRow (limit : ℕ) (bytes : List ℕ) (ts : TextTrees) (rest : List ℕ) : Type 0 where
  pub spelled : AreSpelled ts
  pub shallow : row_depth ts ≤ limit
  pub is : bytes ≡ row_text ts ++ rest
  pub closes : Closes rest

-- these bytes are written at the front, up to a closing quote
pub record ReadsContent (bytes s rest : List ℕ) : Type 0 where
  pub printable : All IsTextByte s
  pub is : bytes ≡ flat_map escaped s ++ 34 ∷ rest

-- no tree is at the front of the bytes
pub record ReadsNoTree (limit : ℕ) (bytes : List ℕ) : Type 0 where
  pub never : (t : TextTree) (rest : List ℕ) → Reads limit bytes t rest → ⊥

-- no row is at the front of the bytes
pub record ReadsNoRow (limit : ℕ) (bytes : List ℕ) : Type 0 where
  pub never : (ts : TextTrees) (rest : List ℕ) → ReadsRow limit bytes ts rest → ⊥

-- no text up to a closing quote is at the front of the bytes
pub record ReadsNoContent (bytes : List ℕ) : Type 0 where
  pub never : (s rest : List ℕ) → ReadsContent bytes s rest → ⊥

-- the result is the tree at the front of the bytes with the rest; they are malformed
-- only where there is none
abbrev pub AnswersTree : ℕ → List ℕ → Result (program.TextTree × Bor (List ℕ)) TextFault → Type 0
AnswersTree limit bytes result =
    Answers result (λ p. Reads limit bytes (tree_of p.0) p.1.now) (ReadsNoTree limit bytes)

-- the same of a row
abbrev pub AnswersRow : ℕ → List ℕ
    → Result (List program.TextTree × Bor (List ℕ)) TextFault → Type 0
AnswersRow limit bytes result =
    Answers result (λ p. ReadsRow limit bytes (trees_of p.0) p.1.now) (ReadsNoRow limit bytes)

-- the same of a text up to its closing quote
abbrev pub AnswersContent : List ℕ → Result (List ℕ × Bor (List ℕ)) TextFault → Type 0
AnswersContent bytes result =
    Answers result (λ p. ReadsContent bytes p.0 p.1.now) (ReadsNoContent bytes)

-- a byte of a word is first
abbrev pub FirstIsWord : List ℕ → Type 0
FirstIsWord [] = ⊥
FirstIsWord (b ∷ bytes) = is_word_byte b ≡ true

-- no byte of a word is first
abbrev pub Stops : List ℕ → Type 0
Stops [] = Unit {0}
Stops (b ∷ bytes) = is_word_byte b ≡ false

-- the byte that a letter behind a backslash stands for, or 0
abbrev pub unescape : ℕ → ℕ
unescape b = if b == 34 || b == 92 then b else if b == 110 then 10 else if b == 116 then 9 else 0
