use Rattle.std.proofs.Common.{◌≡◌, ◌++◌, map, drop}
use Rattle.st_semantics.specs.ModeRules.{Function}
use Rattle.st_order.specs.inner.Index.{names_in}
use Rattle.st_modes.specs.inner.Circles.{numbers_of}
use Rattle.st_modes.proofs.circles.push_functions.Given as goal

abbrev pub invariant-loop-name : goal.invariant-loop-name
invariant-loop-name l = l.row ++ numbers_of l.citers (map Function (names_in (drop l.name-index l.names))) ≡ l.initial.row ++ numbers_of l.citers (map Function (names_in l.names))
