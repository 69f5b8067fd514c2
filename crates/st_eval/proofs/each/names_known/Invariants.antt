use Rattle.std.proofs.Common.{◌≡◌, ◌++◌, drop}
use Rattle.st_il.specs.Names.{among}
use Rattle.st_eval.specs.inner.Known.{names_now}
use Rattle.st_eval.proofs.each.names_known.Given as goal

abbrev pub invariant-loop-name : goal.invariant-loop-name
invariant-loop-name l = names_now l.bound ++ among (names_now l.known) (drop l.name-index l.names) ≡ among (names_now l.known) l.names
