use Rattle.std.proofs.Common.{List, ℕ}
use Rattle.st_num.specs.Texts.{IsText}
use Rattle.st_il.specs.declared.ty.Ty.{Ty}
use Rattle.st_search.proofs.ProperLists.{EachFrom}
use Rattle.st_search.proofs.literals.proper_fields.Given as goal

abbrev pub invariant-loop-field : goal.invariant-loop-field
invariant-loop-field l = EachFrom (λ (f : List ℕ × Ty). IsText f.0) l.fields l.field-index
