use Rattle.std.proofs.Common.{◌↔◌, drop}
use Rattle.st_il.specs.Definitions.{syntaxes}
use Rattle.st_ilcheck.specs.Rules.{AllAre}
use Rattle.st_ilcheck.proofs.shape.all_are.Given as goal

abbrev pub invariant-loop-found : goal.invariant-loop-found
invariant-loop-found l =
    AllAre (syntaxes l.language) l.ty (drop l.found-index l.types) ↔ AllAre (syntaxes l.language) l.ty l.types
