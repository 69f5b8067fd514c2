use Rattle.std.proofs.Common.{◌≡◌, ◌++◌, map, drop}
use Rattle.st_iltext.specs.Expressions.{ty_tree}
use Rattle.st_text.specs.Trees.{tree_of}
use Rattle.st_iltext.proofs.ty.+ty.Given as goal

abbrev pub invariant-push_types-loop-ty : goal.invariant-push_types-loop-ty
invariant-push_types-loop-ty l =
    map tree_of l.trees ++ map ty_tree (drop l.ty-index l.types) ≡ map tree_of l.initial.trees ++ map ty_tree l.types
