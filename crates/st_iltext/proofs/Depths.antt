-- How many parentheses are open in the parts of a tree.
use Rattle.std.proofs.Common.{◌≡◌, ℕ, zero, suc, ◌+◌, ◌*◌, ◌<◌, ◌≤◌, List, [], ◌∷◌, ◌++◌, length, get_or, map, sym, ap, ◌∙◌, arith}
use Rattle.st_text.specs.declared.tree.TextTree as program
use Rattle.st_text.specs.declared.tree.TextTree.{List as ListTree}
use Rattle.st_text.specs.Text.{TextTree, list, more, depth, row_depth}
use Rattle.st_text.specs.Trees.{row_of, tree_of, trees_of}
use Rattle.st_iltext.proofs.Rows.{tree_of-List}

-- the parts of a list, behind its first
pub parts_below : (t h : program.TextTree) (trees rows parts : List program.TextTree) → t ≡ ListTree trees → rows ≡ trees → rows ≡ h ∷ parts
    → 4 * row_depth (trees_of parts) + 3 < 4 * depth (tree_of t)
parts_below t h trees rows parts e f g =
    let is : tree_of t ≡ list (more (tree_of h) (trees_of parts)) = ap tree_of e ∙ tree_of-List trees ∙ ap (λ us. list (trees_of us)) (sym f ∙ g) in
    omega (arith, ap depth is)

pub rest_below : (t : program.TextTree) (trees rest : List program.TextTree) → trees ≡ t ∷ rest → row_depth (trees_of rest) ≤ row_depth (trees_of trees)
rest_below t trees rest e = omega (arith, ap (λ us. row_depth (trees_of us)) e)

pub first_below : (t : program.TextTree) (trees rest : List program.TextTree) → trees ≡ t ∷ rest → depth (tree_of t) ≤ row_depth (trees_of trees)
first_below t trees rest e = omega (arith, ap (λ us. row_depth (trees_of us)) e)

pub tree_below : (trees : List program.TextTree) (i : ℕ) (t : program.TextTree) → i < length trees → t ≡ get_or trees i t → depth (tree_of t) ≤ row_depth (trees_of trees)
tree_below [] i t h e = omega arith
tree_below (u ∷ trees) zero t h e = omega (arith, ap (λ x. depth (tree_of x)) e)
tree_below (u ∷ trees) (suc i) t h e = omega (arith, tree_below trees i t (omega arith) e)

-- what stands behind others
pub behind_below : (us : List TextTree) (trees rest : List program.TextTree) → map tree_of trees ≡ us ++ map tree_of rest → row_depth (trees_of rest) ≤ row_depth (trees_of trees)
behind_below us trees rest e = omega (arith, ap (λ ws. row_depth (row_of ws)) e, deep us (map tree_of rest))
  where
    deep : (vs ws : List TextTree) → row_depth (row_of ws) ≤ row_depth (row_of (vs ++ ws))
    deep [] ws = omega arith
    deep (v ∷ vs) ws = omega (arith, deep vs ws)
