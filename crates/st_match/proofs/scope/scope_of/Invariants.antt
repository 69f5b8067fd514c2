use Rattle.std.proofs.Common.{◌≡◌, ◌++◌, drop}
use Rattle.st_match.specs.inner.Scope.{entries_of}
use Rattle.st_match.proofs.scope.scope_of.Given as goal

abbrev pub invariant-loop-entry : goal.invariant-loop-entry
invariant-loop-entry l = entries_of l.scope ++ drop l.entry-index l.env.entries ≡ l.env.entries
