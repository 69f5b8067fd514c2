use Rattle.std.proofs.Common.{◌≡◌, drop}
use Rattle.std.specs.List.{list_any}
use Rattle.st_order.specs.inner.Index.{names_in}
use Rattle.st_commands.specs.inner.Needing.{has_otherwise_under}
use Rattle.st_commands.proofs.needed.one_has_otherwise.Given as goal

abbrev pub invariant-loop-name : goal.invariant-loop-name
invariant-loop-name l =
    list_any (has_otherwise_under l.rules.entries) (names_in l.names) ≡ list_any (has_otherwise_under l.rules.entries) (names_in (drop l.name-index l.names))
