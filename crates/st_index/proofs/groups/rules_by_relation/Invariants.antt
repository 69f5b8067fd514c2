use Rattle.std.proofs.Common.{◌≡◌, ◌++◌, ℕ, List, drop}
use Rattle.st_il.specs.Definitions.{rules_from, rules_in}
use Rattle.st_index.specs.inner.Groups.{members}
use Rattle.st_index.proofs.groups.rules_by_relation.Given as goal

abbrev pub invariant-loop-definition : goal.invariant-loop-definition
invariant-loop-definition l =
    (q : List ℕ) → members l.groups.entries q ++ rules_from q (rules_in (drop l.definition-index l.defs)) ≡ rules_from q (rules_in l.defs)
