use Rattle.std.proofs.Common.{◌≡◌, ◌++◌, drop}
use Rattle.st_order.specs.inner.Index.{names_in}
use Rattle.st_order.proofs.variables.push_refs.Given as goal

abbrev pub invariant-loop-name : goal.invariant-loop-name
invariant-loop-name l = names_in l.names ++ names_in (drop l.name-index l.list) ≡ names_in l.initial.names ++ names_in l.list
