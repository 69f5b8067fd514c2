use Rattle.std.proofs.Common.{◌≡◌, take}
use Rattle.st_elab_table.specs.declared.decls.Decls.{Decls}
use Rattle.st_elab_def.specs.Phases.{all_declared}
use Rattle.st_elab_def.specs.inner.Walk.{AllPassAt}
use Rattle.st_elab_def.proofs.signatures.check_names.Given as goal

abbrev pub invariant-loop-named : goal.invariant-loop-named
invariant-loop-named l = (D : Decls) → D.types ≡ l.types → AllPassAt D (all_declared (take l.named-index l.names))
