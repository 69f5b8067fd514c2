use Rattle.std.proofs.Common.{◌+◌, ◌*◌, length}
use Rattle.st_type_table.specs.inner.Graph.{unmarked}
use Rattle.st_type_table.specs.inner.Search.{IsSearch}
use Rattle.st_type_table.proofs.search.follow.Given as goal

abbrev pub invariant-search : goal.invariant-search
invariant-search l = IsSearch l.graph l.target l.marks l.todo.items

abbrev pub decreases-search : goal.decreases-search
decreases-search l = 2 * unmarked l.marks + length l.todo.items
