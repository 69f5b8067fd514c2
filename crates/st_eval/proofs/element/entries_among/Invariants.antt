use Rattle.std.proofs.Common.{◌≡◌, ◌++◌, drop}
use Rattle.st_match.specs.inner.Scope.{scope_env}
use Rattle.st_eval.specs.inner.Known.{names_now}
use Rattle.st_eval.specs.inner.Beside.{entries_among}
use Rattle.st_eval.proofs.element.entries_among.Given as goal

abbrev pub invariant-loop-name : goal.invariant-loop-name
invariant-loop-name l =
    l.entries ++ entries_among (scope_env l.scope) (names_now (drop l.name-index l.names)) ≡ entries_among (scope_env l.scope) (names_now l.names)
