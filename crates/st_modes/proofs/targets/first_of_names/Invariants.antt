use Rattle.std.proofs.Common.{◌≡◌, drop}
use Rattle.st_order.specs.inner.Index.{names_in}
use Rattle.st_modes.specs.inner.Targets.{lesser, least_first}
use Rattle.st_modes.proofs.targets.first_of_names.Given as goal

abbrev pub invariant-loop-name : goal.invariant-loop-name
invariant-loop-name l = lesser l.found (least_first l.firsts.entries (names_in (drop l.name-index l.names))) ≡ least_first l.firsts.entries (names_in l.names)
