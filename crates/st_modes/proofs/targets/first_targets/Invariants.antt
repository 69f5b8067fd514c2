use Rattle.std.proofs.Common.{take}
use Rattle.st_order.specs.inner.Index.{names_in}
use Rattle.st_modes.specs.inner.Reaching.{cited_under}
use Rattle.st_modes.specs.inner.Targets.{HasFirst}
use Rattle.st_modes.proofs.targets.first_targets.Given as goal

abbrev pub invariant-loop-i : goal.invariant-loop-i
invariant-loop-i l = HasFirst (cited_under l.citing.entries) (names_in (take l.i l.targets)) (names_in l.found.keys) l.firsts.entries
