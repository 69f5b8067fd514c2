use Rattle.std.proofs.Common.{◌-◌, length, drop}
use Rattle.st_elab_table.specs.inner.NameIndex.{IsNameIndex}
use Rattle.st_elab_table.proofs.named_row.index_of.Given as goal

abbrev pub invariant-loop-i : goal.invariant-loop-i
invariant-loop-i g l = IsNameIndex g.T.Named.name l.items (drop (length l.items - l.i) l.items) l.index.entries
