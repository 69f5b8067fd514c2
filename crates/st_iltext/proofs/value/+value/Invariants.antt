use Rattle.std.proofs.Common.{◌≡◌, ◌++◌, map, drop}
use Rattle.st_iltext.specs.Values.{value_tree}
use Rattle.st_iltext.specs.inner.Fields.{fields_row}
use Rattle.st_text.specs.Trees.{tree_of}
use Rattle.st_iltext.proofs.value.+value.Given as goal

abbrev pub invariant-push_values-loop-value : goal.invariant-push_values-loop-value
invariant-push_values-loop-value l =
    map tree_of l.trees ++ map value_tree (drop l.value-index l.values) ≡ map tree_of l.initial.trees ++ map value_tree l.values

abbrev pub invariant-push_fields-loop-field : goal.invariant-push_fields-loop-field
invariant-push_fields-loop-field l =
    map tree_of l.trees ++ fields_row (drop l.field-index l.fields) ≡ map tree_of l.initial.trees ++ fields_row l.fields
