use Rattle.std.proofs.Common.{◌≡◌, ◌++◌, map, drop}
use Rattle.st_iltext.specs.Definitions.{kind_word}
use Rattle.st_text.specs.Trees.{tree_of}
use Rattle.st_iltext.proofs.definition.push_kinds.Given as goal

abbrev pub invariant-loop-kind : goal.invariant-loop-kind
invariant-loop-kind l =
    map tree_of l.trees ++ map kind_word (drop l.kind-index l.kind-items) ≡ map tree_of l.initial.trees ++ map kind_word l.kind-items
