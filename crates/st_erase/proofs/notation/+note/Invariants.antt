use Rattle.std.proofs.Common.{◌≡◌, ◌++◌, map, drop}
use Rattle.st_erase.specs.Notations.{note_of, note_parts}
use Rattle.st_erase.proofs.notation.+note.Given as goal

abbrev pub invariant-note_parts-loop-part : goal.invariant-note_parts-loop-part
invariant-note_parts-loop-part l =
    (l.found ++ (note_parts (map note_of (drop l.part-index l.parts)) l.typs.items).out ≡ (note_parts (map note_of l.parts) l.initial.typs.items).out)
    × ((note_parts (map note_of (drop l.part-index l.parts)) l.typs.items).rest ≡ (note_parts (map note_of l.parts) l.initial.typs.items).rest)
