use Rattle.std.proofs.Common.{◌≡◌, ◌++◌, drop}
use Rattle.st_eval.specs.inner.Known.{names_now}
use Rattle.st_eval.proofs.each.copy_names.Given as goal

abbrev pub invariant-loop-name : goal.invariant-loop-name
invariant-loop-name l = l.copies ++ names_now (drop l.name-index l.names) ≡ names_now l.names
