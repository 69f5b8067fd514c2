use Rattle.std.proofs.Common.{drop}
use Rattle.st_notation.specs.Fitted.{fillings}
use Rattle.st_notation.specs.inner.Steps.{Reaches}
use Rattle.st_notation.proofs.fitting.+fit.Given as goal

abbrev pub invariant-fit_sequence-loop-index : goal.invariant-fit_sequence-loop-index
invariant-fit_sequence-loop-index l = Reaches l.parts l.shapes l.elements (fillings l.filled) (drop l.index l.parts) l.shapes_left l.left
