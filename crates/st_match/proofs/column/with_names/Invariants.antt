use Rattle.std.proofs.Common.{◌≡◌, ◌++◌, [], drop, map}
use Rattle.st_semantics.specs.Iterations.{bound_to}
use Rattle.st_match.specs.inner.Scope.{entries_of, value_held}
use Rattle.st_match.proofs.column.with_names.Given as goal

abbrev pub invariant-loop-i : goal.invariant-loop-i
invariant-loop-i l =
    entries_of l.inner ++ bound_to (drop l.i l.names) (map value_held (drop l.i l.heads)) [] ≡ entries_of l.fn.bound ++ bound_to l.names (map value_held l.heads) []
