use Rattle.std.proofs.Common.{◌≡◌, ◌++◌, drop}
use Rattle.st_semantics.specs.Environments.{names_of}
use Rattle.st_match.specs.inner.Scope.{scope_env}
use Rattle.st_eval.specs.inner.Known.{names_now}
use Rattle.st_eval.proofs.element.bound_names.Given as goal

abbrev pub invariant-loop-bound : goal.invariant-loop-bound
invariant-loop-bound l = names_now l.names ++ names_of (scope_env (drop l.bound-index l.scope)) ≡ names_of (scope_env l.scope)
