use Rattle.st_elab_def.specs.inner.Heads.{Finds}
use Rattle.st_elab_def.proofs.HasCome.{HasCome}
use Rattle.st_elab_def.proofs.assembly.assemble.Given as goal

abbrev pub invariant-loop-i : goal.invariant-loop-i
invariant-loop-i l = record {
  finds : Finds l.decls l.known;
  come : HasCome l.decls l.defs l.i l.assembly.rules.keys l.assembly.fragments.keys l.assembly.declared l.assembly.made;
}
