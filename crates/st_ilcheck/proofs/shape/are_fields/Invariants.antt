use Rattle.std.proofs.Common.{◌↔◌, ℕ, List, drop}
use Rattle.st_il.specs.declared.ty.Ty.{Ty}
use Rattle.st_il.specs.Definitions.{syntaxes}
use Rattle.st_ilcheck.specs.Rules.{Is, AreEach}
use Rattle.st_ilcheck.proofs.shape.are_fields.Given as goal

abbrev pub invariant-loop-i : goal.invariant-loop-i
invariant-loop-i l =
    AreEach (λ (d : List ℕ × Ty) o. Is (syntaxes l.language) o d.1) (drop l.i l.asked) (drop l.i l.types)
    ↔ AreEach (λ (d : List ℕ × Ty) o. Is (syntaxes l.language) o d.1) l.asked l.types
