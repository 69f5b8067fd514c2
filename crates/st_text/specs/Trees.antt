-- The tree of `Text` that a `TextTree` of the program is.
use Rattle.std.specs.Prelude.{List, [], ◌∷◌, map}
use Rattle.st_text.specs.declared.tree.TextTree.{TextTree, fold-TextTree}
use Rattle.st_text.specs.declared.tree.TextTree.TheOpen.{TextTree-F}
use Rattle.st_text.specs.Text as spec
use Rattle.st_text.specs.Text.{TextTrees, word, quote, list, none, more}

-- trees as a row
abbrev pub row_of : List spec.TextTree → TextTrees
row_of [] = none
row_of (t ∷ ts) = more t (row_of ts)

-- the tree of a level whose parts are these trees
abbrev pub tree_at : TextTree-F spec.TextTree → spec.TextTree
tree_at (TextTree-F.Word w) = word w
tree_at (TextTree-F.Quote s) = quote s
tree_at (TextTree-F.List ts) = list (row_of ts)

-- the tree that a tree of the program stands for
abbrev pub tree_of : TextTree → spec.TextTree
tree_of = fold-TextTree spec.TextTree tree_at

-- the row that trees of the program stand for
abbrev pub trees_of : List TextTree → TextTrees
trees_of ts = row_of (map tree_of ts)
