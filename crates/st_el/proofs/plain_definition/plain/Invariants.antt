use Rattle.std.proofs.Common.{◌≡◌, ◌++◌, map, take, drop}
use Rattle.st_el.specs.Erasure.{plain_def, plain_defs, joined_behind}
use Rattle.st_el.proofs.plain_definition.plain.Given as goal

abbrev pub invariant-loop-i : goal.invariant-loop-i
invariant-loop-i l = l.plain ++ map plain_def (joined_behind (take l.i l.all) (drop l.i l.all)) ≡ plain_defs l.all
