use Rattle.std.proofs.Common.{◌≡◌, ◌++◌, drop}
use Rattle.st_il.specs.Names.{without}
use Rattle.st_eval.specs.inner.Known.{names_now}
use Rattle.st_eval.proofs.each.names_unknown.Given as goal

abbrev pub invariant-loop-name : goal.invariant-loop-name
invariant-loop-name l = names_now l.unknown ++ without (names_now l.known) (drop l.name-index l.names) ≡ without (names_now l.known) l.names
