use Rattle.std.proofs.Common.{◌-◌, length, drop}
use Rattle.st_ilcheck.specs.inner.Heads.{FindFunctions}
use Rattle.st_ilcheck.proofs.heads.functions_by_name.Given as goal

abbrev pub invariant-loop-i : goal.invariant-loop-i
invariant-loop-i l = FindFunctions (drop (length l.defs - l.i) l.defs) l.map.entries
