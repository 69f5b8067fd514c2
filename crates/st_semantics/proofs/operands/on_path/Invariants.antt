use Rattle.std.proofs.Common.{◌≡◌, ◌++◌, ◌∷◌, drop, map}
use Rattle.st_il.specs.Names.{flattened}
use Rattle.st_semantics.specs.Operands.{segment_exps}
use Rattle.st_semantics.specs.References.{exps_now}
use Rattle.st_semantics.proofs.operands.on_path.Given as goal

abbrev pub invariant-loop-segment : goal.invariant-loop-segment
invariant-loop-segment l =
    exps_now l.exps ++ flattened (map segment_exps (drop l.segment-index l.path)) ≡ l.value ∷ flattened (map segment_exps l.path)
