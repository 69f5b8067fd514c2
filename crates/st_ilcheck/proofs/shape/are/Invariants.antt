use Rattle.std.proofs.Common.{◌↔◌, drop}
use Rattle.st_il.specs.Definitions.{syntaxes}
use Rattle.st_ilcheck.specs.Rules.{Are}
use Rattle.st_ilcheck.proofs.shape.are.Given as goal

abbrev pub invariant-loop-i : goal.invariant-loop-i
invariant-loop-i l =
    Are (syntaxes l.language) (drop l.i l.asked) (drop l.i l.types) ↔ Are (syntaxes l.language) l.asked l.types
