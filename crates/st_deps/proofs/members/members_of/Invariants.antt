use Rattle.std.proofs.Common.{take}
use Rattle.st_deps.specs.inner.Members.{AreMembers}
use Rattle.st_deps.proofs.members.members_of.Given as goal

abbrev pub invariant-loop-node : goal.invariant-loop-node
invariant-loop-node l = AreMembers (take l.node l.names) (take l.node l.ranks) l.count l.rows.items
