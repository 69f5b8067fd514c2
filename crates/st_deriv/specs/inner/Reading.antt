-- What the readers of lines answer.
use Rattle.std.specs.Prelude.{◌≡◌, ℕ, ◌^◌, ◌<◌, List, decimal, Result}
use Rattle.std.specs.List.{All}
use Rattle.st_deriv.specs.declared.line.Ending.{Ending}
use Rattle.st_deriv.specs.declared.line.Line.{Line}
use Rattle.st_il.specs.declared.value.Value.{Value}
use Rattle.st_text.specs.Text.{TextTree, TextTrees, word, quote, list}
use Rattle.st_text.specs.Reading.{Answers}
use Rattle.st_text.specs.declared.fault.TextFault.{TextFault}
use Rattle.st_deriv.specs.LineText.{IsPlainCase, value_trees, case_tree, IsRelationName, ending_word, IsPlainLine, line_trees}

-- the line is printed as these trees
pub record LineTrees (line : Line) (trees : TextTrees) : Type 0 where
  pub plain : IsPlainLine line
  pub is : trees ≡ line_trees line

-- no line is printed as these trees
pub record AreNoLine (trees : TextTrees) : Type 0 where
  pub never : (line : Line) → LineTrees line trees → ⊥

-- the result is the line that is printed as these trees; they are malformed only where none is
abbrev pub AnswersLine : TextTrees → Result Line TextFault → Type 0
AnswersLine trees result = Answers result (λ line. LineTrees line trees) (AreNoLine trees)

-- the values are printed as these trees
pub record ValueTrees (vals : List Value) (trees : TextTrees) : Type 0 where
  pub plain : All IsPlainCase vals
  pub is : trees ≡ value_trees vals

-- no values are printed as these trees
pub record AreNoValues (trees : TextTrees) : Type 0 where
  pub never : (vals : List Value) → ValueTrees vals trees → ⊥

-- the result is the values that are printed as these trees; they are malformed
-- only where none are
abbrev pub AnswersValues : TextTrees → Result (List Value) TextFault → Type 0
AnswersValues trees result = Answers result (λ vals. ValueTrees vals trees) (AreNoValues trees)

-- the tree is no quoted text
pub record IsNoQuote (tree : TextTree) : Type 0 where
  pub never : (s : List ℕ) → tree ≡ quote s → ⊥

-- the tree is no list
pub record IsNoList (tree : TextTree) : Type 0 where
  pub never : (trees : TextTrees) → tree ≡ list trees → ⊥

-- the tree is that of no case without operands
pub record IsNoCase (tree : TextTree) : Type 0 where
  pub never : (tag : List ℕ) → tree ≡ case_tree tag → ⊥

-- the tree is not the name of a relation
pub record IsNoRelation (tree : TextTree) : Type 0 where
  pub never : (name : List ℕ) → IsRelationName name → tree ≡ word name → ⊥

-- the tree is no number below 2^128 in decimal digits
pub record IsNoNumber (tree : TextTree) : Type 0 where
  pub never : (n : ℕ) → n < 2 ^ 128 → tree ≡ word (decimal n) → ⊥

-- the tree is no word of how a run ended
pub record IsNoEnding (tree : TextTree) : Type 0 where
  pub never : (ending : Ending) → tree ≡ word (ending_word ending) → ⊥
