use Rattle.std.proofs.Common.{◌≡◌, ◌++◌, drop}
use Rattle.st_eval.specs.inner.Known.{names_now}
use Rattle.st_eval.proofs.variables.with_names.Given as goal

abbrev pub invariant-loop-name : goal.invariant-loop-name
invariant-loop-name l = names_now l.more ++ drop l.name-index l.names ≡ names_now l.fn.first ++ l.names
