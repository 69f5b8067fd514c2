use Rattle.std.proofs.Common.{◌≡◌, map, take}
use Rattle.st_small.specs.inner.Parts.{atom_alternative}
use Rattle.st_small.proofs.part.atoms_of.Given as goal

abbrev pub invariant-loop-alternative : goal.invariant-loop-alternative
invariant-loop-alternative l = take l.alternative-index l.alternatives ≡ map atom_alternative l.atoms
