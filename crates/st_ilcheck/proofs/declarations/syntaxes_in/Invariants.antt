use Rattle.std.proofs.Common.{◌≡◌, ◌++◌, drop}
use Rattle.st_il.specs.Definitions.{syntaxes_in}
use Rattle.st_ilcheck.proofs.declarations.syntaxes_in.Given as goal

abbrev pub invariant-loop-def : goal.invariant-loop-def
invariant-loop-def l = l.found ++ syntaxes_in (drop l.def-index l.defs) ≡ syntaxes_in l.defs
