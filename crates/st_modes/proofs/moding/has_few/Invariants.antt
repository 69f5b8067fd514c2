use Rattle.std.proofs.Common.{drop}
use Rattle.std.specs.Prelude.{◌↔◌}
use Rattle.st_modes.specs.inner.Few.{AllHaveFew}
use Rattle.st_modes.proofs.moding.has_few.Given as goal

abbrev pub invariant-loop-definition : goal.invariant-loop-definition
invariant-loop-definition l = AllHaveFew l.defs ↔ AllHaveFew (drop l.definition-index l.defs)
