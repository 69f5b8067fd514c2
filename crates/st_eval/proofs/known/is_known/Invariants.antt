use Rattle.std.proofs.Common.{◌≡◌, drop}
use Rattle.st_il.specs.Names.{has_name}
use Rattle.st_eval.specs.inner.Known.{names_now}
use Rattle.st_eval.proofs.known.is_known.Given as goal

abbrev pub invariant-loop-other : goal.invariant-loop-other
invariant-loop-other l = has_name (names_now l.known) l.name ≡ has_name (names_now (drop l.other-index l.known)) l.name
