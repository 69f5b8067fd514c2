use Rattle.std.proofs.Common.{◌≡◌, ◌++◌, drop, map, ℕ, List}
use Rattle.st_il.specs.declared.ty.Ty.{Ty}
use Rattle.st_ilcheck.specs.Declarations.{types_cited}
use Rattle.st_ilcheck.proofs.cited.fields_cited.Given as goal

abbrev pub invariant-loop-field : goal.invariant-loop-field
invariant-loop-field l = l.names ++ (λ (fs : List (List ℕ × Ty)). types_cited (map (λ (f : List ℕ × Ty). f.1) fs)) (drop l.field-index l.fields) ≡ (λ (fs : List (List ℕ × Ty)). types_cited (map (λ (f : List ℕ × Ty). f.1) fs)) l.fields
