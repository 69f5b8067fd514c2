use Rattle.std.proofs.Common.{◌≡◌, ◌++◌, drop}
use Rattle.st_match.proofs.names.push_names.Given as goal

abbrev pub invariant-loop-name : goal.invariant-loop-name
invariant-loop-name l = l.names ++ drop l.name-index l.list ≡ l.initial.names ++ l.list
