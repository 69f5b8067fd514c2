use Rattle.std.proofs.Common.{◌<◌, ℕ, ◌≡◌, Some}
use Rattle.std.specs.Prelude.{slice_get}
use Rattle.st_il.specs.declared.definition.SyntaxDef.{SyntaxDef}
use Rattle.st_type_table.specs.Breach.{HasFewParts}
use Rattle.st_type_table.proofs.build.are_few.Given as goal

abbrev pub invariant-loop-def : goal.invariant-loop-def
invariant-loop-def l = (i : ℕ) → i < l.def-index → (d : SyntaxDef) → slice_get l.defs i ≡ Some d → HasFewParts d.body
