use Rattle.std.proofs.Common.{◌≡◌, ◌++◌, drop, List}
use Rattle.st_il.specs.declared.ty.Ty.{Ty}
use Rattle.st_ilcheck.specs.Declarations.{types_cited}
use Rattle.st_ilcheck.proofs.cited.types_cited.Given as goal

abbrev pub invariant-loop-ty : goal.invariant-loop-ty
invariant-loop-ty l = l.names ++ (λ (ts : List Ty). types_cited ts) (drop l.ty-index l.tys) ≡ (λ (ts : List Ty). types_cited ts) l.tys
