use Rattle.std.proofs.Common.{take}
use Rattle.st_elab_table.specs.declared.decls.Decls.{Decls}
use Rattle.st_elab_def.specs.Phases.{on_declaration}
use Rattle.st_elab_def.specs.inner.Declaring.{Knows}
use Rattle.st_elab_def.proofs.Leaves.{Leaves}
use Rattle.st_elab_def.proofs.declarations.declarations.Given as goal

abbrev pub invariant-loop-i : goal.invariant-loop-i
invariant-loop-i l = record {
  knows : Knows (take l.i l.defs) l.declared;
  left : (D : Decls) → Leaves D on_declaration l.defs l.i;
}
