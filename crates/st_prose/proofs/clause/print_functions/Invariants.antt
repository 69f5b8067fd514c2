use Rattle.std.proofs.Common.{◌≡◌, ◌++◌, take, flat_map}
use Rattle.st_prose.specs.ProseText.{function_text}
use Rattle.st_prose.proofs.clause.print_functions.Given as goal

abbrev pub invariant-loop-clauses : goal.invariant-loop-clauses
invariant-loop-clauses l =
    l.out.items ≡ l.initial.out.items ++ flat_map (function_text l.index) (take l.clauses-index l.algos.funs)
