use Rattle.std.proofs.Common.{◌≡◌, ◌++◌, map, drop}
use Rattle.st_iltext.specs.Definitions.{alternative_tree}
use Rattle.st_text.specs.Trees.{tree_of}
use Rattle.st_iltext.proofs.definition.variant_tree.Given as goal

abbrev pub invariant-loop-alternative : goal.invariant-loop-alternative
invariant-loop-alternative l =
    map tree_of l.trees ++ map alternative_tree (drop l.alternative-index l.alternatives) ≡ map tree_of l.initial.trees ++ map alternative_tree l.alternatives
