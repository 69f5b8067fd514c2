use Rattle.std.proofs.Common.{◌≡◌, take, drop}
use Rattle.st_type_table.specs.inner.Kept.{kept_of}
use Rattle.st_type_table.proofs.build.fill.Given as goal

abbrev pub invariant-loop-at : goal.invariant-loop-at
invariant-loop-at l = record { entries : l.map.entries ≡ take l.at (kept_of l.defs l.ranks l.fn.flats l.joins); rest : l.left.items ≡ drop l.at l.fn.flats }
