use Rattle.std.proofs.Common.{◌≡◌, ◌++◌, map, drop}
use Rattle.st_erase.specs.Filling.{part_of, write_parts}
use Rattle.st_erase.proofs.filling.+fill.Given as goal

abbrev pub invariant-write_parts-loop-i : goal.invariant-write_parts-loop-i
invariant-write_parts-loop-i l =
    (l.elements ++ (write_parts (map part_of (drop l.i l.parts)) l.operands.items).out ≡ (write_parts (map part_of l.parts) l.initial.operands.items).out)
    × ((write_parts (map part_of (drop l.i l.parts)) l.operands.items).rest ≡ (write_parts (map part_of l.parts) l.initial.operands.items).rest)
