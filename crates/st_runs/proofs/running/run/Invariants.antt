use Rattle.st_runs.specs.inner.Searching.{IsUnderWay}
use Rattle.st_runs.proofs.running.run.Given as goal

abbrev pub invariant-loop-number : goal.invariant-loop-number
invariant-loop-number l = IsUnderWay l.searching.language.now l.searching.relation.now l.searching.depth l.fn.start l.term l.number l.bytes.items
