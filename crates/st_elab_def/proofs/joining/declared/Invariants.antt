use Rattle.std.proofs.Common.{◌≡◌, ◌++◌, take, drop}
use Rattle.std.specs.Prelude.{flat_map}
use Rattle.st_el.specs.Erasure.{joined_behind}
use Rattle.st_elab_def.specs.DeclsOf.{declared_by}
use Rattle.st_elab_def.specs.Fragments.{joined}
use Rattle.st_elab_def.specs.inner.Gathering.{Untaken}
use Rattle.st_elab_def.proofs.joining.declared.Given as goal

abbrev pub invariant-loop-def : goal.invariant-loop-def
invariant-loop-def l = record {
  untaken : Untaken (take l.def-index l.defs) (drop l.def-index l.defs) l.parts.entries;
  made : l.out ++ flat_map declared_by (joined_behind (take l.def-index l.defs) (drop l.def-index l.defs)) ≡ flat_map declared_by (joined l.defs);
}
