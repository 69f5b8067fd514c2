use Rattle.std.proofs.Common.{◌≡◌, drop}
use Rattle.st_il.specs.declared.definition.Il.{Il}
use Rattle.st_semantics.specs.ModeRules.{patterns_have_one_open}
use Rattle.st_order.specs.inner.Index.{names_in}
use Rattle.st_modes.proofs.one_open.patterns_have_one_open.Given as goal

abbrev pub invariant-loop-premise : goal.invariant-loop-premise
invariant-loop-premise l = (il : Il) → patterns_have_one_open il (names_in l.bound.keys) (drop l.premise-index l.premises) ≡ patterns_have_one_open il (names_in l.names) l.premises
