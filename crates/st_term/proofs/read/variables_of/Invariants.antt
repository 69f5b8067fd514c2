use Rattle.std.proofs.Common.{◌≡◌, ℕ, List, map, take}
use Rattle.st_il.specs.declared.ty.Ty.{Ty}
use Rattle.st_term.proofs.read.variables_of.Given as goal

abbrev pub invariant-loop-var : goal.invariant-loop-var
invariant-loop-var l = l.names ≡ map (λ (v : List ℕ × Ty). v.0) (take l.var-index l.vars)
