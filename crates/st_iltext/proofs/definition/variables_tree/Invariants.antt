use Rattle.std.proofs.Common.{◌≡◌, ◌++◌, map, drop}
use Rattle.st_iltext.specs.Definitions.{listed_tree}
use Rattle.st_text.specs.Trees.{tree_of}
use Rattle.st_iltext.proofs.definition.variables_tree.Given as goal

abbrev pub invariant-loop-variable : goal.invariant-loop-variable
invariant-loop-variable l =
    map tree_of l.trees ++ map listed_tree (drop l.variable-index l.variables) ≡ map tree_of l.initial.trees ++ map listed_tree l.variables
