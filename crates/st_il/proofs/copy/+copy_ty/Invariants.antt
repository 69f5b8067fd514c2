use Rattle.std.proofs.Common.{◌≡◌, take}
use Rattle.st_il.proofs.copy.+copy_ty.Given as goal

abbrev pub invariant-copy_tys-loop-ty : goal.invariant-copy_tys-loop-ty
invariant-copy_tys-loop-ty l = l.copies ≡ take l.ty-index l.tys
