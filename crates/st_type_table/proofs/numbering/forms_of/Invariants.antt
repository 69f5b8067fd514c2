use Rattle.st_type_table.specs.inner.Forms.{AreNumbers}
use Rattle.st_type_table.specs.inner.Kept.{defs_of}
use Rattle.st_type_table.proofs.NumberingLemmas.{HaveNumbers}
use Rattle.st_type_table.proofs.numbering.forms_of.Given as goal

abbrev pub invariant-loop-at : goal.invariant-loop-at
invariant-loop-at l = AreNumbers (defs_of l.entries.entries) l.numbers.entries l.list.keys × HaveNumbers (defs_of l.entries.entries) l.numbers.entries l.names.items l.at
