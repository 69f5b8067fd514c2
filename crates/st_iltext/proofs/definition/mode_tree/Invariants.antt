use Rattle.std.proofs.Common.{◌≡◌, ◌++◌, map, drop}
use Rattle.st_iltext.specs.Definitions.{mode_word}
use Rattle.st_text.specs.Trees.{tree_of}
use Rattle.st_iltext.proofs.definition.mode_tree.Given as goal

abbrev pub invariant-loop-is_input : goal.invariant-loop-is_input
invariant-loop-is_input l =
    map tree_of l.trees ++ map mode_word (drop l.is_input-index l.mode) ≡ map tree_of l.initial.trees ++ map mode_word l.mode
