use Rattle.std.proofs.Common.{◌↔◌, drop}
use Rattle.st_il.specs.declared.ty.Ty.{Ty}
use Rattle.st_il.specs.Definitions.{syntaxes}
use Rattle.st_ilcheck.specs.Rules.{LeadsTo}
use Rattle.st_ilcheck.proofs.shape.place.Given as goal

abbrev pub invariant-loop-segment : goal.invariant-loop-segment
invariant-loop-segment l =
    (w : Ty) → LeadsTo (syntaxes l.language) (drop l.segment-index l.path) l.here w ↔ LeadsTo (syntaxes l.language) l.path l.ty w
