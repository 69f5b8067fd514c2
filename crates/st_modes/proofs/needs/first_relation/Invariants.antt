use Rattle.std.proofs.Common.{◌≡◌, drop, find}
use Rattle.st_order.specs.inner.Index.{names_in}
use Rattle.st_order.specs.Known.{all_now}
use Rattle.st_modes.specs.inner.Needs.{is_other_in}
use Rattle.st_modes.proofs.needs.first_relation.Given as goal

abbrev pub invariant-loop-relation : goal.invariant-loop-relation
invariant-loop-relation l =
    find (is_other_in (names_in l.names.keys) l.own) (all_now l.relations) ≡ find (is_other_in (names_in l.names.keys) l.own) (all_now (drop l.relation-index l.relations))
