use Rattle.std.proofs.Common.{◌≡◌, ◌++◌, drop}
use Rattle.st_semantics.specs.Iterations.{index_of, kind_of}
use Rattle.st_ilcheck.specs.Variables.{inside}
use Rattle.st_ilcheck.proofs.contents.inside.Given as goal

abbrev pub invariant-loop-occurrence : goal.invariant-loop-occurrence
invariant-loop-occurrence l =
    l.found ++ inside (index_of l.how) (kind_of l.how) (drop l.occurrence-index l.occurrences) ≡ inside (index_of l.how) (kind_of l.how) l.occurrences
