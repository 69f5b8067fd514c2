use Rattle.std.proofs.Common.{◌≡◌, ◌++◌, ℕ, List, drop}
use Rattle.st_il.specs.Definitions.{clauses_from, clauses_in}
use Rattle.st_index.specs.inner.Groups.{members}
use Rattle.st_index.proofs.groups.clauses_by_function.Given as goal

abbrev pub invariant-loop-definition : goal.invariant-loop-definition
invariant-loop-definition l =
    (q : List ℕ) → members l.groups.entries q ++ clauses_from q (clauses_in (drop l.definition-index l.defs)) ≡ clauses_from q (clauses_in l.defs)
