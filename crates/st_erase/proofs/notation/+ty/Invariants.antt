use Rattle.std.proofs.Common.{◌≡◌, map, take}
use Rattle.st_erase.specs.Notations.{erased_ty}
use Rattle.st_erase.proofs.notation.+ty.Given as goal

abbrev pub invariant-erased_tys-loop-ty : goal.invariant-erased_tys-loop-ty
invariant-erased_tys-loop-ty l = l.found ≡ map erased_ty (take l.ty-index l.tys)
