use Rattle.std.proofs.Common.{length}
use Rattle.st_match.proofs.types.+wrapped.Given as goal

abbrev pub decreases-wrapped : goal.decreases-wrapped
decreases-wrapped l = length l.kinds.now
