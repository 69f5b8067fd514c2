use Rattle.std.proofs.Common.{◌≡◌, map, take}
use Rattle.st_elab_sig.specs.Types.{ty_of}
use Rattle.st_elab_sig.proofs.ty.+ty.Given as goal

abbrev pub invariant-elaborate_typs-loop-typ : goal.invariant-elaborate_typs-loop-typ
invariant-elaborate_typs-loop-typ l = l.tys ≡ map ty_of (take l.typ-index l.typs)
