use Rattle.std.proofs.Common.{◌≡◌, drop}
use Rattle.st_semantics.specs.Environments.{lookup}
use Rattle.st_match.specs.inner.Scope.{entries_of}
use Rattle.st_eval.proofs.element.find.Given as goal

abbrev pub invariant-loop-bound : goal.invariant-loop-bound
invariant-loop-bound l = lookup l.name (entries_of l.scope) ≡ lookup l.name (entries_of (drop l.bound-index l.scope))
