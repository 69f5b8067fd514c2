use Rattle.std.proofs.Common.{◌≡◌, map, drop}
use Rattle.st_iltext.specs.Written.{follow, name_of}
use Rattle.st_ilread.proofs.variable.are_in_order.Given as goal

abbrev pub invariant-loop-variable : goal.invariant-loop-variable
invariant-loop-variable l = follow (name_of l.initial.before) (map name_of l.others) ≡ follow (name_of l.before) (map name_of (drop l.variable-index l.others))
