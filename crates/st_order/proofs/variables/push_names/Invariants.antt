use Rattle.std.proofs.Common.{◌≡◌, ◌++◌, drop}
use Rattle.st_order.specs.inner.Index.{names_in}
use Rattle.st_order.proofs.variables.push_names.Given as goal

abbrev pub invariant-loop-name : goal.invariant-loop-name
invariant-loop-name l = names_in l.names ++ drop l.name-index l.list ≡ names_in l.initial.names ++ l.list
