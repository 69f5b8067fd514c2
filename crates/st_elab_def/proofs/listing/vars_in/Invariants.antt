use Rattle.std.proofs.Common.{◌≡◌, take}
use Rattle.std.specs.Prelude.{flat_map}
use Rattle.st_elab_law.specs.Agreement.{var_in}
use Rattle.st_elab_def.proofs.listing.vars_in.Given as goal

abbrev pub invariant-loop-def : goal.invariant-loop-def
invariant-loop-def l = l.out ≡ flat_map var_in (take l.def-index l.defs)
