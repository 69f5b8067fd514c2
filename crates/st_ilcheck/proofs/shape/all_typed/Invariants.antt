use Rattle.std.proofs.Common.{◌↔◌, drop}
use Rattle.st_il.specs.Definitions.{syntaxes}
use Rattle.st_ilcheck.specs.Rules.{AllTyped}
use Rattle.st_ilcheck.proofs.shape.all_typed.Given as goal

abbrev pub invariant-loop-found : goal.invariant-loop-found
invariant-loop-found l = AllTyped (syntaxes l.language) (drop l.found-index l.types) ↔ AllTyped (syntaxes l.language) l.types
