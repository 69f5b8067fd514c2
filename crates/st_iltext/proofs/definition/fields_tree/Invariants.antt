use Rattle.std.proofs.Common.{◌≡◌, ◌++◌, map, drop}
use Rattle.st_iltext.specs.Definitions.{field_tree}
use Rattle.st_text.specs.Trees.{tree_of}
use Rattle.st_iltext.proofs.definition.fields_tree.Given as goal

abbrev pub invariant-loop-field : goal.invariant-loop-field
invariant-loop-field l =
    map tree_of l.trees ++ map field_tree (drop l.field-index l.fields) ≡ map tree_of l.initial.trees ++ map field_tree l.fields
