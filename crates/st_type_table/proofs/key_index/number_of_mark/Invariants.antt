use Rattle.std.proofs.Common.{ℕ, take}
use Rattle.st_type_table.specs.inner.KeyIndexes.{HasMark}
use Rattle.st_type_table.proofs.key_index.number_of_mark.Given as goal

abbrev pub invariant-loop-one : goal.invariant-loop-one
invariant-loop-one l = (n : ℕ) → HasMark (take l.one-index l.marks) l.mark n → ⊥
