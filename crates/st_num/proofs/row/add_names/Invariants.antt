use Rattle.std.proofs.Common.{◌≡◌, ◌++◌, take}
use Rattle.st_num.proofs.row.add_names.Given as goal

abbrev pub invariant-loop-name : goal.invariant-loop-name
invariant-loop-name l = l.copies ≡ l.initial.copies ++ take l.name-index l.names
