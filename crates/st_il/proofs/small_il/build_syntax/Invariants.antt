use Rattle.std.proofs.Common.{◌≡◌, [], map, take}
use Rattle.st_il.specs.declared.definition.Alternative.TheVariants.{Case}
use Rattle.st_il.proofs.small_il.build_syntax.Given as goal

abbrev pub invariant-loop-atom : goal.invariant-loop-atom
invariant-loop-atom l = l.alternatives ≡ map (λ atom. Case atom []) (take l.atom-index l.atoms)
