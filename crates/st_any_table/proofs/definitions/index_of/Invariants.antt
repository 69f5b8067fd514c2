use Rattle.std.proofs.Common.{take}
use Rattle.st_any_table.specs.inner.Index.{IsIndex}
use Rattle.st_any_table.proofs.definitions.index_of.Given as goal

abbrev pub invariant-loop-k : goal.invariant-loop-k
invariant-loop-k l = IsIndex (take l.k l.defs) l.index.entries
