use Rattle.std.proofs.Common.{◌≡◌, map, take}
use Rattle.st_il.specs.Small.{rule_def}
use Rattle.st_small.proofs.part.rules_of.Given as goal

abbrev pub invariant-loop-def : goal.invariant-loop-def
invariant-loop-def l = take l.def-index l.defs ≡ map (rule_def l.relation l.syntax) l.rules
