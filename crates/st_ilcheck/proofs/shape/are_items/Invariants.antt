use Rattle.std.proofs.Common.{◌↔◌, drop}
use Rattle.st_il.specs.Definitions.{syntaxes}
use Rattle.st_ilcheck.specs.Rules.{AreItems}
use Rattle.st_ilcheck.proofs.shape.are_items.Given as goal

abbrev pub invariant-loop-i : goal.invariant-loop-i
invariant-loop-i l =
    AreItems (syntaxes l.language) l.ty (drop l.i l.items) (drop l.i l.types) ↔ AreItems (syntaxes l.language) l.ty l.items l.types
