use Rattle.std.proofs.Common.{◌-◌, length}
use Rattle.st_any_table.specs.inner.Ranks.{IsSettling}
use Rattle.st_any_table.proofs.ranks.settle.Given as goal

abbrev pub invariant-passes : goal.invariant-passes
invariant-passes l = IsSettling l.graph l.ranks.items l.count l.more

abbrev pub decreases-passes : goal.decreases-passes
decreases-passes l = length l.graph - l.count
