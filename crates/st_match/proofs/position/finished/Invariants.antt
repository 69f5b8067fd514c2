use Rattle.std.proofs.Common.{take, []}
use Rattle.st_match.specs.inner.Positions.{FollowAll}
use Rattle.st_match.proofs.position.finished.Given as goal

abbrev pub invariant-loop-position : goal.invariant-loop-position
invariant-loop-position l = FollowAll [] l.values l.found (take l.position-index l.positions)
