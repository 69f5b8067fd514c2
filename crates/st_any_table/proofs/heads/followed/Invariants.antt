use Rattle.st_type_table.proofs.PositionLemmas.{name_rank}
use Rattle.st_any_table.specs.inner.Heads.{IsFollowed}
use Rattle.st_any_table.proofs.heads.followed.Given as goal

abbrev pub invariant-loop-written : goal.invariant-loop-written
invariant-loop-written l = IsFollowed l.defs l.ty l.here

abbrev pub decreases-loop-written : goal.decreases-loop-written
decreases-loop-written l = name_rank l.defs l.ranks l.here
