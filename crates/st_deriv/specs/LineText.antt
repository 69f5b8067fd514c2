-- The texts of the lines of a derivation.
-- So far of lines whose values are cases without operands, and whose nodes have no bindings,
-- children and evidence.
use Rattle.std.specs.Prelude.{◌≡◌, ℕ, ◌≤◌, ◌^◌, ◌<◌, List, [], ◌∷◌, ◌++◌, map, flat_map, None, codes, decimal, ◌⊎◌}
use Rattle.std.specs.List.{All}
use Rattle.st_deriv.specs.declared.line.Ending.{Ending}
use Rattle.st_deriv.specs.declared.line.Ending.TheVariants.{Stuck, Fuel, Depth}
use Rattle.st_deriv.specs.declared.line.Line.{Line}
use Rattle.st_deriv.specs.declared.line.Line.TheVariants.{Head, From, Node, Step, End}
use Rattle.st_deriv.specs.declared.line.NodeLine.{NodeLine}
use Rattle.st_il.specs.declared.value.Value.{Value, out-Value}
use Rattle.st_il.specs.declared.value.Value.TheOpen.{Value-F}
use Rattle.st_il.specs.declared.value.Value.TheVariants as value
use Rattle.st_text.specs.Text.{TextTree, TextTrees, word, quote, list, none, more, row_text, HaveTexts}
use Rattle.st_text.specs.Trees.{row_of}

-- the tag of a case; other values have none
abbrev pub tag_at : {X : Type 0} → Value-F X → List ℕ
tag_at (Value-F.Case tag parts) = tag
tag_at _ = []

-- the tag of a value
abbrev pub tag_of : Value → List ℕ
tag_of val = tag_at (out-Value val)

-- the value is a case without operands
abbrev pub IsPlainCase : Value → Type 0
IsPlainCase val = val ≡ value.Case (tag_of val) []

-- the tree of a case without operands, which is printed as `(c "TAG")`
abbrev pub case_tree : List ℕ → TextTree
case_tree tag = list (more (word (codes "c")) (more (quote tag) none))

-- the tree of a value that is a case without operands
abbrev pub value_tree : Value → TextTree
value_tree val = case_tree (tag_of val)

-- values, one tree each
abbrev pub value_trees : List Value → TextTrees
value_trees vals = row_of (map value_tree vals)

-- an upper-case letter
abbrev pub IsUpperLetter : ℕ → Type 0
IsUpperLetter byte = (65 ≤ byte) × (byte ≤ 90)

-- a byte with which the name of a relation goes on: a letter, a digit, `_` or `'`
abbrev pub IsNameByte : ℕ → Type 0
IsNameByte byte =
    IsUpperLetter byte ⊎ ((97 ≤ byte) × (byte ≤ 122)) ⊎ ((48 ≤ byte) × (byte ≤ 57)) ⊎ (byte ≡ 95)
    ⊎ (byte ≡ 39)

-- the name of a relation: an upper-case letter, and then letters, digits, `_` and `'`
abbrev pub IsRelationName : List ℕ → Type 0
IsRelationName [] = ⊥
IsRelationName (byte ∷ bytes) = IsUpperLetter byte × All IsNameByte bytes

-- the word of how a run ended
abbrev pub ending_word : Ending → List ℕ
ending_word Stuck = codes "stuck"
ending_word Fuel = codes "fuel"
ending_word Depth = codes "depth"

-- a node that has no bindings, no children and no evidence,
-- and whose values are cases without operands
pub record IsPlainNode (node : NodeLine) : Type 0 where
  pub env : node.env.entries ≡ []
  pub children : node.children ≡ []
  pub evidence : node.evidence ≡ None
  pub values : All IsPlainCase node.values

-- the lines that have a text so far, where their words and quoted texts are spelled
abbrev pub IsPlainLine : Line → Type 0
IsPlainLine (Head format relation) = (format ≡ 1) × IsRelationName relation
IsPlainLine (From values) = All IsPlainCase values
IsPlainLine (Node node) = IsPlainNode node
IsPlainLine (Step number) = number < 2 ^ 128
IsPlainLine (End ending) = Unit {0}

-- what stands behind the word `node` in the line of a node
abbrev pub node_trees : NodeLine → TextTrees
node_trees node =
    more (quote node.relation)
    (more (quote node.rule)
    (more (list none) (more (list none) (more (list (value_trees node.values)) none))))

-- the row of trees that a line is printed as
abbrev pub line_trees : Line → TextTrees
line_trees (Head format relation) =
    more (word (codes "derivation")) (more (word (codes "1")) (more (word relation) none))
line_trees (From values) = more (word (codes "from")) (value_trees values)
line_trees (Node node) = more (word (codes "node")) (node_trees node)
line_trees (Step number) = more (word (codes "step")) (more (word (decimal number)) none)
line_trees (End ending) = more (word (codes "end")) (more (word (ending_word ending)) none)

-- the line has a text
pub record HasText (line : Line) : Type 0 where
  pub plain : IsPlainLine line
  pub spelled : HaveTexts (line_trees line)

-- the text of a line that has one, without its line feed
abbrev pub line_text : Line → List ℕ
line_text line = row_text (line_trees line)

-- the bytes are the text of a line, without its line feed
pub record LineText (line : Line) (bytes : List ℕ) : Type 0 where
  pub has : HasText line
  pub is : bytes ≡ line_text line

-- the bytes are the text of no line
pub record IsNoLine (bytes : List ℕ) : Type 0 where
  pub never : (line : Line) → LineText line bytes → ⊥

-- the texts of lines, each with a line feed behind it
abbrev pub lines_text : List Line → List ℕ
lines_text lines = flat_map (λ line. line_text line ++ 10 ∷ []) lines

-- the bytes are the texts of these lines, each with a line feed behind it
pub record LinesText (lines : List Line) (bytes : List ℕ) : Type 0 where
  pub have : All HasText lines
  pub is : bytes ≡ lines_text lines
