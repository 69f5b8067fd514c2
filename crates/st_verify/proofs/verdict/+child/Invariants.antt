use Rattle.std.proofs.Common.{take}
use Rattle.std.specs.Prelude.{All, flat_map}
use Rattle.st_semantics.specs.Verdict.{IsNode}
use Rattle.st_verify.specs.SmallVerdict.{child_lines}
use Rattle.st_verify.proofs.verdict.+child.Given as goal

abbrev pub invariant-are_children-loop-child : goal.invariant-are_children-loop-child
invariant-are_children-loop-child l = All (IsNode l.notes) (flat_map child_lines (take l.child-index l.children))
