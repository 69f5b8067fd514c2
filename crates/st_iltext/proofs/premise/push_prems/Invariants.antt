use Rattle.std.proofs.Common.{◌≡◌, ◌++◌, map, drop}
use Rattle.st_iltext.specs.Expressions.{prem_tree}
use Rattle.st_text.specs.Trees.{tree_of}
use Rattle.st_iltext.proofs.premise.push_prems.Given as goal

abbrev pub invariant-loop-prem : goal.invariant-loop-prem
invariant-loop-prem l =
    map tree_of l.trees ++ map prem_tree (drop l.prem-index l.prems) ≡ map tree_of l.initial.trees ++ map prem_tree l.prems
