use Rattle.std.proofs.Common.{◌≡◌}
use Rattle.st_notation.specs.Elements.{bare}
use Rattle.st_notation.proofs.element.bare.Given as goal

abbrev pub invariant-loop-inner : goal.invariant-loop-inner
invariant-loop-inner l = bare l.inner ≡ bare l.exp
