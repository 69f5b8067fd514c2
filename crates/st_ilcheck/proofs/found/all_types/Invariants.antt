use Rattle.std.proofs.Common.{◌≡◌, drop}
use Rattle.st_ilcheck.specs.FoundTypes.{all_types}
use Rattle.st_ilcheck.specs.inner.Steps.{behind_types}
use Rattle.st_ilcheck.proofs.found.all_types.Given as goal

abbrev pub invariant-loop-ty : goal.invariant-loop-ty
invariant-loop-ty l = all_types l.types ≡ behind_types l.found (all_types (drop l.ty-index l.types))
