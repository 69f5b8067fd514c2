use Rattle.std.proofs.Common.{◌≡◌, drop}
use Rattle.st_match.specs.inner.Assembly.{entries_of, behind_entries}
use Rattle.st_match.proofs.assembly.assembled.Given as goal

abbrev pub invariant-loop-name : goal.invariant-loop-name
invariant-loop-name l = entries_of l.names l.env l.other ≡ behind_entries l.entries (entries_of (drop l.name-index l.names) l.env l.other)
