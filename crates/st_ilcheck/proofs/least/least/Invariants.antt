use Rattle.std.proofs.Common.{◌≡◌, length}
use Rattle.st_ilcheck.specs.Least.{least}
use Rattle.st_ilcheck.specs.inner.Leasts.{least_before}
use Rattle.st_ilcheck.proofs.least.least.Given as goal

abbrev pub invariant-rules : goal.invariant-rules
invariant-rules l = least_before l.left l.found ≡ least l.fn.rules

abbrev pub decreases-rules : goal.decreases-rules
decreases-rules l = length l.left
