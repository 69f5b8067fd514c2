use Rattle.std.proofs.Common.{◌≡◌, ◌++◌, ℕ, List, map, drop, zip}
use Rattle.st_il.specs.declared.ty.Ty.{Ty}
use Rattle.st_match.proofs.record.named.Given as goal

abbrev pub invariant-loop-field : goal.invariant-loop-field
invariant-loop-field l =
    l.fields ++ zip (map (λ (d : List ℕ × Ty). d.0) (drop l.field-index l.declared)) l.left.items ≡ zip (map (λ (d : List ℕ × Ty). d.0) l.declared) l.fn.values
