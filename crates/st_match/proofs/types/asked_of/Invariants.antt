use Rattle.std.proofs.Common.{◌≡◌, ◌++◌, drop}
use Rattle.st_match.specs.inner.Types.{asked_of}
use Rattle.st_match.proofs.types.asked_of.Given as goal

abbrev pub invariant-loop-name : goal.invariant-loop-name
invariant-loop-name l = asked_of l.variables l.names ≡ l.asked ++ asked_of l.variables (drop l.name-index l.names)
