use Rattle.std.proofs.Common.{◌≡◌, ◌++◌, [], drop, map}
use Rattle.st_semantics.specs.Iterations.{bound_to}
use Rattle.st_match.specs.inner.Scope.{entries_of, value_held}
use Rattle.st_eval.specs.inner.Known.{names_now}
use Rattle.st_eval.proofs.element.with_names.Given as goal

abbrev pub invariant-loop-i : goal.invariant-loop-i
invariant-loop-i l =
    entries_of l.inner ++ bound_to (names_now (drop l.i l.names)) (map value_held (drop l.i l.heads)) [] ≡ entries_of l.fn.bound ++ bound_to (names_now l.names) (map value_held l.heads) []
