use Rattle.std.proofs.Common.{◌≡◌, ◌+◌, ◌++◌, drop, flat_map}
use Rattle.std.specs.List.{enumerate_from}
use Rattle.st_prose.specs.ProseText.{clause_text}
use Rattle.st_prose.proofs.clause.print_function.Given as goal

abbrev pub invariant-loop-i : goal.invariant-loop-i
invariant-loop-i l =
    l.out.items ++ flat_map (clause_text l.index) (enumerate_from (l.i + 1) (drop l.i l.clauses))
    ≡ l.initial.out.items ++ flat_map (clause_text l.index) (enumerate_from 1 l.clauses)
