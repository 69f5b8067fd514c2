use Rattle.st_any_table.specs.inner.Ranks.{IsPass}
use Rattle.st_any_table.proofs.ranks.pass.Given as goal

abbrev pub invariant-nodes : goal.invariant-nodes
invariant-nodes l = IsPass l.graph l.before l.ranks l.count l.at

abbrev pub decreases-nodes : goal.decreases-nodes
decreases-nodes l = l.at
