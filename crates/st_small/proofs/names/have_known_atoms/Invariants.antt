use Rattle.std.proofs.Common.{take}
use Rattle.std.specs.List.{All}
use Rattle.st_small.specs.inner.Names.{names_of, GoesBetween}
use Rattle.st_small.proofs.names.have_known_atoms.Given as goal

abbrev pub invariant-loop-rule : goal.invariant-loop-rule
invariant-loop-rule l = All (GoesBetween (names_of l.atoms.keys)) (take l.rule-index l.rules)
