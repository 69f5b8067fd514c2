use Rattle.std.proofs.Common.{◌≡◌, drop}
use Rattle.st_il.specs.Names.{all_known}
use Rattle.st_eval.specs.inner.Known.{names_now}
use Rattle.st_eval.proofs.known.are_known.Given as goal

abbrev pub invariant-loop-name : goal.invariant-loop-name
invariant-loop-name l = all_known (names_now l.known) l.names ≡ all_known (names_now l.known) (drop l.name-index l.names)
