use Rattle.std.proofs.Common.{◌≡◌, ◌++◌, drop}
use Rattle.st_il.specs.Names.{without}
use Rattle.st_semantics.specs.Iterations.{index_of}
use Rattle.st_order.specs.inner.Index.{names_in}
use Rattle.st_order.proofs.variables.push_others.Given as goal

abbrev pub invariant-loop-name : goal.invariant-loop-name
invariant-loop-name l = names_in l.names ++ without (index_of l.how) (names_in (drop l.name-index l.list)) ≡ names_in l.initial.names ++ without (index_of l.how) (names_in l.list)
