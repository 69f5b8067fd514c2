use Rattle.std.proofs.Common.{◌≡◌, ◌++◌, drop}
use Rattle.st_search.specs.inner.Trees.{merged}
use Rattle.st_search.proofs.tree.merged.Given as goal

abbrev pub invariant-loop-input : goal.invariant-loop-input
invariant-loop-input l = l.values ++ merged (drop l.input-index l.holes) l.ins l.outs ≡ merged l.holes l.initial.ins l.initial.outs
