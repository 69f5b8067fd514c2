use Rattle.std.proofs.Common.{take, drop}
use Rattle.st_elab_def.specs.DeclsOf.{decls_of}
use Rattle.st_elab_def.specs.Phases.{on_body}
use Rattle.st_elab_def.specs.inner.Bodies.{HasCome}
use Rattle.st_elab_def.proofs.Leaves.{Leaves}
use Rattle.st_elab_def.proofs.bodies.check_bodies.Given as goal

abbrev pub invariant-loop-i : goal.invariant-loop-i
invariant-loop-i l = record {
  come : HasCome (decls_of l.defs) (take l.i l.defs) (drop l.i l.defs) l.walk;
  left : Leaves (decls_of l.defs) on_body l.defs l.i;
}
