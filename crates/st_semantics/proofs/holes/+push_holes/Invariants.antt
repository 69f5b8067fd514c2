use Rattle.std.proofs.Common.{◌≡◌, ◌++◌, map, drop, sum}
use Rattle.std.proofs.Math.ListN.{replicate}
use Rattle.st_il.specs.Template.{holes}
use Rattle.st_semantics.proofs.holes.+push_holes.Given as goal

abbrev pub invariant-push_all_holes-loop-part : goal.invariant-push_all_holes-loop-part
invariant-push_all_holes-loop-part l = l.mask ++ replicate (sum (map holes (drop l.part-index l.parts))) l.input ≡ l.initial.mask ++ replicate (sum (map holes l.parts)) l.input
