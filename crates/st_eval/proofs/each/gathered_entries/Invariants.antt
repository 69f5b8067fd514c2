use Rattle.std.proofs.Common.{◌≡◌, drop}
use Rattle.st_eval.specs.inner.Known.{names_now}
use Rattle.st_eval.specs.inner.Gathered.{gathered_entries, entries_behind}
use Rattle.st_eval.proofs.each.gathered_entries.Given as goal

abbrev pub invariant-loop-name : goal.invariant-loop-name
invariant-loop-name l =
    gathered_entries l.how l.found (names_now l.names) ≡ entries_behind l.entries (gathered_entries l.how l.found (names_now (drop l.name-index l.names)))
