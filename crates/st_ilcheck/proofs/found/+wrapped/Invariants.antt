use Rattle.std.proofs.Common.{length}
use Rattle.st_ilcheck.proofs.found.+wrapped.Given as goal

abbrev pub decreases-wrapped : goal.decreases-wrapped
decreases-wrapped l = length l.kinds.now
