use Rattle.std.proofs.Common.{◌≡◌, ◌++◌, drop}
use Rattle.st_il.specs.Names.{without}
use Rattle.st_semantics.specs.Iterations.{index_of}
use Rattle.st_match.proofs.names.push_others.Given as goal

abbrev pub invariant-loop-name : goal.invariant-loop-name
invariant-loop-name l = l.names ++ without (index_of l.how) (drop l.name-index l.list) ≡ l.initial.names ++ without (index_of l.how) l.list
