use Rattle.std.proofs.Common.{◌≡◌, take}
use Rattle.st_il.specs.Small.{AreDistinct}
use Rattle.st_small.specs.inner.Names.{names_of}
use Rattle.st_small.proofs.names.distinct_atoms.Given as goal

abbrev pub invariant-loop-atom : goal.invariant-loop-atom
invariant-loop-atom l = record {
  kept : names_of l.set.keys ≡ take l.atom-index l.atoms;
  distinct : AreDistinct (take l.atom-index l.atoms);
}
