use Rattle.std.proofs.Common.{drop}
use Rattle.st_type_table.specs.Breach.{on_alias}
use Rattle.st_type_table.specs.inner.Checking.{Returns}
use Rattle.st_type_table.proofs.CheckLemmas.{Rest}
use Rattle.st_type_table.proofs.check.check_alias.Given as goal

abbrev pub invariant-loop-k : goal.invariant-loop-k
invariant-loop-k l = Rest l.defs (on_alias l.target l.k (drop l.k l.names)) (on_alias l.target 0 l.names) × Returns l.defs l.target l.numbers l.own (drop l.k l.names)
