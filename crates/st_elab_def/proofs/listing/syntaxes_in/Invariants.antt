use Rattle.std.proofs.Common.{◌≡◌, take}
use Rattle.st_elab_law.specs.Agreement.{syntaxes}
use Rattle.st_elab_def.proofs.listing.syntaxes_in.Given as goal

abbrev pub invariant-loop-def : goal.invariant-loop-def
invariant-loop-def l = l.out ≡ syntaxes (take l.def-index l.defs)
