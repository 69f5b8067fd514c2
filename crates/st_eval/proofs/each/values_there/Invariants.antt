use Rattle.std.proofs.Common.{◌≡◌, ◌++◌, drop}
use Rattle.st_eval.specs.inner.Gathered.{values_there}
use Rattle.st_eval.proofs.each.values_there.Given as goal

abbrev pub invariant-loop-env : goal.invariant-loop-env
invariant-loop-env l = l.values ++ values_there l.name (drop l.env-index l.found) ≡ values_there l.name l.found
