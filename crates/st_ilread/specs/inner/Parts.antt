-- The parts of forms that have no tree of their own.
use Rattle.std.specs.Prelude.{◌≡◌, ℕ, List, map, length, Bool, true, ◌&&◌, nat_le, codes, Result}
use Rattle.std.specs.List.{list_all}
use Rattle.st_text.specs.declared.fault.TextFault.{TextFault}
use Rattle.st_text.specs.Text.{TextTree, TextTrees, quote, none, more}
use Rattle.st_text.specs.Trees.{row_of}
use Rattle.st_text.specs.Reading.{Answers}
use Rattle.st_il.specs.declared.expression.IlExp.{IlExp}
use Rattle.st_il.specs.declared.expression.PathSeg.{PathSeg}
use Rattle.st_iltext.specs.Definitions.{mode_word}
use Rattle.st_iltext.specs.Expressions.{group, form, exp_tree, segment_tree}
use Rattle.st_iltext.specs.Written.{exp_written, segment_written}

-- nothing is asked
abbrev pub any : {X : Type 0} → X → Bool
any x = true

-- the list of the trees of these
abbrev pub row_tree : {X : Type 0} → (X → TextTree) → List X → TextTree
row_tree tree xs = group (map tree xs)

-- a path has a step, and each step is written in the one spelling
abbrev pub path_written : List PathSeg → Bool
path_written path = nat_le 1 (length path) && list_all segment_written path

-- the tree of a mode
abbrev pub mode_tree : List Bool → TextTree
mode_tree mode = form (codes "mode") (map mode_word mode)

-- the trees are the tree of this alone, which is written in the one spelling
pub record IsOnly {X : Type 0} (tree : X → TextTree) (written : X → Bool)
    (ts : TextTrees) (x : X) : Type 0 where
  pub fits : written x ≡ true
  pub is : ts ≡ more (tree x) none

-- the trees are the tree of none alone
pub record IsOnlyNone {X : Type 0} (tree : X → TextTree) (written : X → Bool)
    (ts : TextTrees) : Type 0 where
  pub never : (x : X) → written x ≡ true → ts ≡ more (tree x) none → ⊥

-- what is read of trees is the only one, and they are malformed only where they are of none alone
abbrev pub ReadsOnly : {X : Type 0} → (X → TextTree) → (X → Bool) → TextTrees
    → Result X TextFault → Type 0
ReadsOnly tree written ts result =
    Answers result (IsOnly tree written ts) (IsOnlyNone tree written ts)

-- the trees are this name and these expressions
pub record AreNamed (ts : TextTrees) (x : List ℕ) (es : List IlExp) : Type 0 where
  pub fit : list_all exp_written es ≡ true
  pub are : ts ≡ more (quote x) (row_of (map exp_tree es))

-- the trees are no name with expressions behind it
pub record AreNoneNamed (ts : TextTrees) : Type 0 where
  pub never : (x : List ℕ) (es : List IlExp) → AreNamed ts x es → ⊥

-- the trees are an expression, a path into its value, and another expression
pub record AreUpdate (ts : TextTrees) (x : IlExp) (path : List PathSeg) (y : IlExp) : Type 0 where
  pub first : exp_written x ≡ true
  pub second : path_written path ≡ true
  pub third : exp_written y ≡ true
  pub are : ts ≡ more (exp_tree x) (more (row_tree segment_tree path) (more (exp_tree y) none))

-- the trees are no such three
pub record AreNoUpdate (ts : TextTrees) : Type 0 where
  pub never : (x : IlExp) (path : List PathSeg) (y : IlExp) → AreUpdate ts x path y → ⊥
