use Rattle.st_elab_table.specs.declared.decls.Decls.{Decls}
use Rattle.st_elab_def.specs.Phases.{on_signature}
use Rattle.st_elab_def.proofs.Leaves.{Leaves}
use Rattle.std.proofs.Common.{◌≡◌}
use Rattle.st_elab_def.proofs.signatures.signatures.Given as goal

abbrev pub invariant-loop-i : goal.invariant-loop-i
invariant-loop-i l = (D : Decls) → D.types ≡ l.types → Leaves D on_signature l.defs l.i
