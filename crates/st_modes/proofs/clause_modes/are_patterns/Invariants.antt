use Rattle.std.proofs.Common.{◌≡◌, drop}
use Rattle.std.specs.List.{list_all}
use Rattle.st_semantics.specs.Patterns.{is_pattern}
use Rattle.st_modes.proofs.clause_modes.are_patterns.Given as goal

abbrev pub invariant-loop-arg : goal.invariant-loop-arg
invariant-loop-arg l = list_all is_pattern l.args ≡ list_all is_pattern (drop l.arg-index l.args)
