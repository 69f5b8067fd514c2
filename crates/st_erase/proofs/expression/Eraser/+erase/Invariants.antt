use Rattle.std.proofs.Common.{◌≡◌, map, take}
use Rattle.st_erase.specs.Places.{whole}
use Rattle.st_erase.specs.Erasure.{source, erased, erased_item, erased_segment}
use Rattle.st_erase.proofs.expression.Eraser.+erase.Given as goal

abbrev pub invariant-all-loop-exp : goal.invariant-all-loop-exp
invariant-all-loop-exp l = l.found ≡ map (erased l.self.defs.now) (take l.exp-index l.exps)

abbrev pub invariant-wholes-loop-exp : goal.invariant-wholes-loop-exp
invariant-wholes-loop-exp l = l.found ≡ map whole (map (erased l.self.defs.now) (take l.exp-index l.exps))

abbrev pub invariant-path-loop-segment : goal.invariant-path-loop-segment
invariant-path-loop-segment l = l.found ≡ map (erased_segment l.self.defs.now) (take l.segment-index l.path)

abbrev pub invariant-sources-loop-item : goal.invariant-sources-loop-item
invariant-sources-loop-item l = l.found ≡ map source (map (erased_item l.self.defs.now) (take l.item-index l.items))
