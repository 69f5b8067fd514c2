use Rattle.std.proofs.Common.{◌≡◌, ◌++◌, drop}
use Rattle.std.specs.List.{list_all}
use Rattle.st_semantics.specs.Executable.{is_met}
use Rattle.st_order.specs.inner.Index.{names_in}
use Rattle.st_order.specs.inner.Parts.{exps_in}
use Rattle.st_order.proofs.class.are_met_with.Given as goal

abbrev pub invariant-loop-exp : goal.invariant-loop-exp
invariant-loop-exp l =
    list_all (is_met (names_in l.bound.keys) (names_in l.bound.keys ++ names_in l.more.keys)) (exps_in l.exps)
    ≡ list_all (is_met (names_in l.bound.keys) (names_in l.bound.keys ++ names_in l.more.keys)) (exps_in (drop l.exp-index l.exps))
