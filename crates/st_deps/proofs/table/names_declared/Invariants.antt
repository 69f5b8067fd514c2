use Rattle.std.proofs.Common.{◌≡◌, [], drop}
use Rattle.st_deps.specs.Definitions.{names_declared}
use Rattle.st_deps.proofs.table.names_declared.Given as goal

abbrev pub invariant-loop-definition : goal.invariant-loop-definition
invariant-loop-definition l =
    names_declared [] l.defs ≡ names_declared l.names.keys (drop l.definition-index l.defs)
