use Rattle.std.proofs.Common.{take}
use Rattle.st_type_table.specs.inner.Search.{MarksAll}
use Rattle.st_type_table.proofs.search.mark_all.Given as goal

abbrev pub invariant-loop-position : goal.invariant-loop-position
invariant-loop-position l = MarksAll (take l.position-index l.row) l.fn.marks l.fn.todo.items l.marks l.todo.items
