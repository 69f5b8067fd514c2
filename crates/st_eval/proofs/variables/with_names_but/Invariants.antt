use Rattle.std.proofs.Common.{◌≡◌, ◌++◌, drop}
use Rattle.st_il.specs.Names.{without}
use Rattle.st_eval.specs.inner.Known.{names_now}
use Rattle.st_eval.proofs.variables.with_names_but.Given as goal

abbrev pub invariant-loop-name : goal.invariant-loop-name
invariant-loop-name l =
    names_now l.more ++ without (names_now l.some) (names_now (drop l.name-index l.names)) ≡ names_now l.fn.first ++ without (names_now l.some) (names_now l.names)
