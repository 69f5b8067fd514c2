use Rattle.std.proofs.Common.{◌≡◌, ◌++◌, drop}
use Rattle.st_semantics.specs.Directions.{inputs_by}
use Rattle.st_term.proofs.typed.input_types.Given as goal

abbrev pub invariant-loop-number : goal.invariant-loop-number
invariant-loop-number l = l.types ++ inputs_by (drop l.number l.inputs) (drop l.number l.holes) ≡ inputs_by l.inputs l.holes
