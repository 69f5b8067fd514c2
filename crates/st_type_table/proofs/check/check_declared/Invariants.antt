use Rattle.std.proofs.Common.{drop}
use Rattle.st_type_table.specs.Breach.{all_declared}
use Rattle.st_type_table.proofs.CheckLemmas.{Rest}
use Rattle.st_type_table.proofs.check.check_declared.Given as goal

abbrev pub invariant-loop-k : goal.invariant-loop-k
invariant-loop-k l = Rest l.defs (all_declared l.part l.k (drop l.k l.names)) (all_declared l.part 0 l.names)
