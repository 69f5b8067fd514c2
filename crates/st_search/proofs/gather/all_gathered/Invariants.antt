use Rattle.std.proofs.Common.{take}
use Rattle.st_eval.specs.inner.Known.{names_now}
use Rattle.st_search.specs.inner.Gathering.{AreGatheredTo}
use Rattle.st_search.proofs.gather.all_gathered.Given as goal

abbrev pub invariant-loop-walk : goal.invariant-loop-walk
invariant-loop-walk l = AreGatheredTo l.types l.variables (names_now l.known) l.how l.names l.asks (take l.walk-index l.walks) l.found
