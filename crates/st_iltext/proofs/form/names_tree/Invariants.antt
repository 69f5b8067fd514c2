use Rattle.std.proofs.Common.{◌≡◌, map, take}
use Rattle.st_text.specs.Text.{quote}
use Rattle.st_text.specs.Trees.{tree_of}
use Rattle.st_iltext.proofs.form.names_tree.Given as goal

abbrev pub invariant-loop-text : goal.invariant-loop-text
invariant-loop-text l = map tree_of l.trees ≡ map quote (take l.text-index l.texts)
