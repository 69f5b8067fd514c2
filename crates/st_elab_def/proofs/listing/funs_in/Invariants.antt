use Rattle.std.proofs.Common.{◌≡◌, take}
use Rattle.std.specs.Prelude.{flat_map}
use Rattle.st_elab_law.specs.Agreement.{fun_in}
use Rattle.st_elab_def.proofs.listing.funs_in.Given as goal

abbrev pub invariant-loop-def : goal.invariant-loop-def
invariant-loop-def l = l.out ≡ flat_map fun_in (take l.def-index l.defs)
